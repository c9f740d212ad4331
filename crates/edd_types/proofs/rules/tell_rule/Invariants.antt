use Rattle.std.proofs.Common.{take}
use Rattle.std.specs.List.{flat_map}
use Rattle.edd_breaches.specs.Told.{Tells}
use Rattle.edd_syntax.specs.ItemView.{attributes_of}
use Rattle.edd_types.specs.Rules.{attribute_told}
use Rattle.edd_types.proofs.rules.tell_rule.Given as goal

-- what was told of the items so far
abbrev pub invariant-loop-item : goal.invariant-loop-item
invariant-loop-item l =
    Tells (flat_map (λ i. flat_map (attribute_told l.which l.rule) (attributes_of i)) (take l.item-index l.items)) l.fn.told.items l.told.items
