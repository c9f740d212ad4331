use Rattle.std.proofs.Common.{arith}
use Rattle.edd_syntax.specs.ItemView.{attribute_of}
use Rattle.edd_syntax.specs.TreeView.{path_of}
use Rattle.edd_name_rules.specs.Spending.{locals_in}
use Rattle.edd_name_rules.proofs.Spends.{goes_on}
use Rattle.edd_name_rules.proofs.SlotLaws.{locals_split}
use Rattle.edd_name_rules.proofs.slots.spend_locals.Goals as goal

pub loop-attribute-preserved : goal.loop-attribute-preserved
loop-attribute-preserved c =
    goes_on locals_in (attribute_of path_of) locals_split _ _ c.loop-attribute.attribute-index
    c.args.attributes.now c.attribute-item.result _ (omega arith) c.attribute-item.is
    c.spend_locals_of-left.ensures c.loop-attribute.invariant
