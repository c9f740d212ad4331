use Rattle.std.proofs.Common.{take}
use Rattle.std.specs.List.{flat_map}
use Rattle.edd_breaches.specs.Told.{Tells}
use Rattle.edd_types.specs.Rules.{attribute_told}
use Rattle.edd_types.proofs.rules.tell_attributes.Given as goal

-- what was told of the attributes so far
abbrev pub invariant-loop-attribute : goal.invariant-loop-attribute
invariant-loop-attribute l =
    Tells (flat_map (attribute_told l.which l.rule) (take l.attribute-index l.attributes)) l.fn.told.items l.told.items
