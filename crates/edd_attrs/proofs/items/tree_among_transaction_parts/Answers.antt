use Rattle.std.proofs.Common.{arith, map}
use Rattle.edd_syntax.specs.ItemView.{numbered_transaction_part}
use Rattle.edd_attrs.specs.Trees.{tree_of_transaction_part}
use Rattle.edd_attrs.specs.Rows.{one_part}
use Rattle.edd_attrs.specs.Views.{tree_of}
use Rattle.edd_attrs.proofs.Looking.{goes_on, stops, transaction_parts_split}
use Rattle.edd_attrs.proofs.items.tree_among_transaction_parts.Goals as goal

pub returns-in-Some : goal.returns-in-Some
returns-in-Some c =
    stops c.args.attr numbered_transaction_part one_part (map tree_of_transaction_part)
    transaction_parts_split c.loop-part.part-index c.args.parts.now (omega arith) c.part-item.is
    c.in-Some.ensures c.loop-part.invariant

pub loop-part-preserved : goal.loop-part-preserved
loop-part-preserved c =
    goes_on c.args.attr numbered_transaction_part one_part (map tree_of_transaction_part)
    transaction_parts_split c.loop-part.part-index c.args.parts.now (omega arith) c.part-item.is
    c.in_default.ensures c.loop-part.invariant
