use Rattle.std.proofs.Common.{◌≡◌, map}
use Rattle.std.specs.List.{sum}
use Rattle.edd_syntax.specs.ItemView.{attribute_of}
use Rattle.edd_syntax.specs.Size.{attribute_nodes}
use Rattle.edd_syntax.specs.TreeView.{path_of}
use Rattle.edd_name_rules.proofs.SlotLaws.{sum_split}
use Rattle.edd_name_rules.proofs.Spends.{spent_from}
use Rattle.edd_name_rules.proofs.sizes.spend_attributes.Given as goal

-- what is left after those to come is what is left of the budget after all
abbrev pub invariant-loop-attribute : goal.invariant-loop-attribute
invariant-loop-attribute l = spent_from (λ xs. sum (map attribute_nodes xs)) (attribute_of path_of)
    (sum_split attribute_nodes) l.left l.attribute-index l.attributes
    ≡ spent_from (λ xs. sum (map attribute_nodes xs)) (attribute_of path_of)
    (sum_split attribute_nodes) l.fn.budget 0 l.attributes
