use Rattle.std.proofs.Common.{◌≡◌, pos, replicate}
use Rattle.arrayvec.specs.ArrayVec.{array_vec_len}
use Rattle.edd_machine.proofs.machine.empty_slots.Given as goal

abbrev pub invariant-loop : goal.invariant-loop
invariant-loop l = record {
  items : l.slots.items ≡ replicate l.counter (pos 0);
  count : array_vec_len l.slots ≡ l.counter;
}
