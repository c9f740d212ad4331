use Rattle.std.proofs.Common.{arith}
use Rattle.edd_syntax.specs.ItemView.{item_of}
use Rattle.edd_syntax.specs.Resolution.{count_of}
use Rattle.edd_syntax.specs.TreeView.{path_of}
use Rattle.edd_name_rules.proofs.Spends.{goes_on}
use Rattle.edd_name_rules.proofs.Counting.{items_split}
use Rattle.edd_name_rules.proofs.counts.spend_items.Goals as goal

pub loop-item-preserved : goal.loop-item-preserved
loop-item-preserved c =
    goes_on (count_of c.args.kind) (item_of path_of) (items_split c.args.kind) _ _
    c.loop-item.item-index c.args.items.now c.item-item.result _ (omega arith) c.item-item.is
    c.spend_item-left.ensures c.loop-item.invariant
