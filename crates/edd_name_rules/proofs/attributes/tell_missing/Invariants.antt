use Rattle.std.proofs.Common.{take}
use Rattle.std.specs.List.{flat_map}
use Rattle.edd_breaches.specs.Told.{Tells}
use Rattle.edd_name_rules.specs.RulesTold.{missing_in}
use Rattle.edd_name_rules.proofs.attributes.tell_missing.Given as goal

-- what is broken in the items so far is told
abbrev pub invariant-loop-item : goal.invariant-loop-item
invariant-loop-item l = Tells (flat_map missing_in (take l.item-index l.items)) l.fn.told.items
    l.told.items
