use Rattle.std.proofs.Common.{◌≡◌, map, drop}
use Rattle.edd_syntax.specs.Answers.{sets_fault}
use Rattle.edd_machine.specs.Types.{types_in}
use Rattle.edd_port.specs.Refusals.{change_of}
use Rattle.edd_port.proofs.answers.fault_of_sets.Given as goal

abbrev pub invariant-loop-set : goal.invariant-loop-set
invariant-loop-set l = sets_fault (types_in l.image) (map change_of l.sets)
    ≡ sets_fault (types_in l.image) (map change_of (drop l.set-index l.sets))
