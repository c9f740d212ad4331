use Rattle.std.proofs.Common.{◌-◌, ◌∙◌, ap, map, arith}
use Rattle.std.specs.List.{sum}
use Rattle.edd_syntax.specs.ItemView.{attribute_of}
use Rattle.edd_syntax.specs.Size.{attribute_nodes}
use Rattle.edd_syntax.specs.TreeView.{path_of}
use Rattle.edd_name_rules.proofs.SlotLaws.{sum_split, sum_one}
use Rattle.edd_name_rules.proofs.Spends.{goes_on}
use Rattle.edd_name_rules.proofs.sizes.spend_attributes.Goals as goal

pub loop-attribute-preserved : goal.loop-attribute-preserved
loop-attribute-preserved c =
    goes_on (λ xs. sum (map attribute_nodes xs)) (attribute_of path_of) (sum_split attribute_nodes)
    _ _ c.loop-attribute.attribute-index c.args.attributes.now c.attribute-item.result _
    (omega arith) c.attribute-item.is (c.spend_attribute-left.ensures ∙ ap (λ n. c.loop-attribute.left - n)
    (sum_one attribute_nodes _)) c.loop-attribute.invariant
