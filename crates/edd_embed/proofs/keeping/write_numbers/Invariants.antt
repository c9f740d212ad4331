use Rattle.std.proofs.Common.{◌≡◌, length, take, drop}
use Rattle.std.specs.List.{AllByRecursion}
use Rattle.edd_instructions.specs.declared.unit.Sort.TheVariants.{Method}
use Rattle.edd_instructions.specs.Steps.{Fits}
use Rattle.edd_embed.proofs.keeping.write_numbers.Given as goal

abbrev pub invariant-loop-index : goal.invariant-loop-index
invariant-loop-index l = record {
  fit : AllByRecursion (Fits Method) (drop l.index l.numbers);
  front : take l.index l.room ≡ take l.index l.numbers;
  long : length l.room ≡ length l.initial.room;
}
