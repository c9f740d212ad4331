use Rattle.std.proofs.Common.{◌≡◌, ◌<◌, map, drop, length}
use Rattle.std.specs.List.{AllByRecursion}
use Rattle.edd_syntax.specs.Answers.{values_set}
use Rattle.edd_port.specs.Refusals.{change_of}
use Rattle.edd_port.proofs.answers.set_values.Given as goal

abbrev pub invariant-loop-set : goal.invariant-loop-set
invariant-loop-set l = record {
  exist : AllByRecursion (λ set. set.variable.0 < length l.initial.numbers)
      (map change_of (drop l.set-index l.sets));
  values : values_set l.initial.numbers (map change_of l.sets)
      ≡ values_set l.numbers (map change_of (drop l.set-index l.sets));
}
