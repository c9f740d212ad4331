use Rattle.std.proofs.Common.{◌-◌, ◌∙◌, ap, map, arith}
use Rattle.std.specs.List.{sum}
use Rattle.edd_syntax.specs.ItemView.{item_of}
use Rattle.edd_syntax.specs.Size.{item_nodes}
use Rattle.edd_syntax.specs.TreeView.{path_of}
use Rattle.edd_name_rules.proofs.SlotLaws.{sum_split, sum_one}
use Rattle.edd_name_rules.proofs.Spends.{goes_on}
use Rattle.edd_name_rules.proofs.sizes.spend_items.Goals as goal

pub loop-item-preserved : goal.loop-item-preserved
loop-item-preserved c =
    goes_on (λ xs. sum (map item_nodes xs)) (item_of path_of) (sum_split item_nodes) _ _
    c.loop-item.item-index c.args.items.now c.item-item.result _ (omega arith) c.item-item.is
    (c.spend_item-left.ensures ∙ ap (λ n. c.loop-item.left - n)
    (sum_one item_nodes (item_of path_of c.item-item.result))) c.loop-item.invariant
