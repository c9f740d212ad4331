use Rattle.std.proofs.Common.{◌≡◌, length, take}
use Rattle.edd_embed.proofs.keeping.write_methods.Given as goal

abbrev pub invariant-loop-index : goal.invariant-loop-index
invariant-loop-index l = record {
  front : take l.index l.room ≡ take l.index l.numbers;
  long : length l.room ≡ length l.initial.room;
}
