use Rattle.std.proofs.Common.{◌≡◌}
use Rattle.edd_instructions.specs.declared.unit.Sort.TheVariants.{Method}
use Rattle.edd_port.proofs.Advancing.{Advances}
use Rattle.edd_port.proofs.steps.execute.Given as goal

abbrev pub invariant-loop-left : goal.invariant-loop-left
invariant-loop-left l = record {
  run : Advances l.image l.budget l.left l.initial.machine l.initial.values l.machine l.values;
  method : l.initial.machine.unit.sort ≡ Method → l.machine.unit.sort ≡ Method;
}

abbrev pub decreases-loop-left : goal.decreases-loop-left
decreases-loop-left l = l.left
