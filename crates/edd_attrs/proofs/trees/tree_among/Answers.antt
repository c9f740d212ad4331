use Rattle.std.proofs.Common.{arith}
use Rattle.edd_syntax.specs.ItemView.{numbered_attribute}
use Rattle.edd_attrs.specs.Trees.{trees_of_attribute, trees_of}
use Rattle.edd_attrs.specs.Views.{tree_of}
use Rattle.edd_attrs.proofs.Looking.{goes_on, stops, attributes_split}
use Rattle.edd_attrs.proofs.trees.tree_among.Goals as goal

pub returns-in-Some : goal.returns-in-Some
returns-in-Some c =
    stops c.args.attr numbered_attribute trees_of_attribute trees_of attributes_split
    c.loop-attribute.attribute-index c.args.attributes.now (omega arith) c.attribute-item.is
    c.in-Some.ensures c.loop-attribute.invariant

pub loop-attribute-preserved : goal.loop-attribute-preserved
loop-attribute-preserved c =
    goes_on c.args.attr numbered_attribute trees_of_attribute trees_of attributes_split
    c.loop-attribute.attribute-index c.args.attributes.now (omega arith) c.attribute-item.is
    c.in_default.ensures c.loop-attribute.invariant
