use Rattle.std.proofs.Common.{◌≡◌}
use Rattle.edd_syntax.specs.ItemView.{numbered_attribute}
use Rattle.edd_syntax.proofs.VersionLaws.{holds_from, in_attributes, in_attribute, attributes_split}
use Rattle.edd_syntax.proofs.version.in_attributes.Given as goal

-- no attribute so far names it
abbrev pub invariant-loop-attribute : goal.invariant-loop-attribute
invariant-loop-attribute l =
    holds_from in_attributes in_attribute numbered_attribute attributes_split l.attribute-index
    l.attributes
    ≡ holds_from in_attributes in_attribute numbered_attribute attributes_split 0 l.attributes
