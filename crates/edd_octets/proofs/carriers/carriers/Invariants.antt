use Rattle.edd_image.specs.Fields.{counts_in}
use Rattle.edd_octets.proofs.Carrying.{Walked}
use Rattle.edd_octets.proofs.carriers.carriers.Given as goal

-- what was found so far
abbrev pub invariant-loop-number : goal.invariant-loop-number
invariant-loop-number l = Walked l.image l.values.numbers.items l.variable l.side l.operation
    (counts_in l.image).commands l.number l.all.items
