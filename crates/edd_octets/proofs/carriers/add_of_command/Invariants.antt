use Rattle.edd_octets.proofs.Carrying.{SoFar}
use Rattle.edd_octets.proofs.carriers.add_of_command.Given as goal

-- what was found so far
abbrev pub invariant-loop-position : goal.invariant-loop-position
invariant-loop-position l = SoFar l.image l.values.numbers.items l.variable l.side l.command
    l.fn.all.items l.position l.all.items
