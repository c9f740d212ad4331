use Rattle.std.proofs.Common.{arith}
use Rattle.edd_syntax.specs.ItemView.{numbered_type_part}
use Rattle.edd_attrs.specs.Trees.{trees_of_part, trees_of_parts}
use Rattle.edd_attrs.specs.Views.{tree_of}
use Rattle.edd_attrs.proofs.Looking.{goes_on, stops, parts_split}
use Rattle.edd_attrs.proofs.trees.tree_among_parts.Goals as goal

pub returns-in-Some : goal.returns-in-Some
returns-in-Some c =
    stops c.args.attr numbered_type_part trees_of_part trees_of_parts parts_split
    c.loop-part.part-index c.args.parts.now (omega arith) c.part-item.is c.in-Some.ensures
    c.loop-part.invariant

pub loop-part-preserved : goal.loop-part-preserved
loop-part-preserved c =
    goes_on c.args.attr numbered_type_part trees_of_part trees_of_parts parts_split
    c.loop-part.part-index c.args.parts.now (omega arith) c.part-item.is c.in_default.ensures
    c.loop-part.invariant
