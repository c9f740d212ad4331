use Rattle.std.proofs.Common.{◌≡◌, length, take}
use Rattle.edd_embed.proofs.sessions.copy_slots.Given as goal

abbrev pub invariant-loop-index : goal.invariant-loop-index
invariant-loop-index l = record {
  front : take l.index l.slots.items ≡ take l.index l.numbers;
  long : length l.slots.items ≡ length l.initial.slots.items;
}
