use Rattle.std.proofs.Common.{drop}
use Rattle.std.specs.List.{AllByRecursion}
use Rattle.edd_instructions.specs.declared.unit.Sort.TheVariants.{Method}
use Rattle.edd_instructions.specs.Steps.{Fits}
use Rattle.edd_port.proofs.runs.all_fit.Given as goal

abbrev pub invariant-loop-number : goal.invariant-loop-number
invariant-loop-number l = record {
  on : AllByRecursion (Fits Method) (drop l.number-index l.numbers)
      → AllByRecursion (Fits Method) l.numbers;
  back : AllByRecursion (Fits Method) l.numbers
      → AllByRecursion (Fits Method) (drop l.number-index l.numbers);
}
