use Rattle.std.proofs.Common.{◌≡◌, drop}
use Rattle.edd_octets.specs.Carriers.{has_kept}
use Rattle.edd_octets.proofs.carriers.has_kept.Given as goal

-- none of the items so far is kept
abbrev pub invariant-loop-item : goal.invariant-loop-item
invariant-loop-item l = has_kept l.variable (drop l.item-index l.items)
    ≡ has_kept l.variable l.items
