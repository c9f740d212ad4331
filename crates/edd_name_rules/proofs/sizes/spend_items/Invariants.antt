use Rattle.std.proofs.Common.{◌≡◌, map}
use Rattle.std.specs.List.{sum}
use Rattle.edd_syntax.specs.ItemView.{item_of}
use Rattle.edd_syntax.specs.Size.{item_nodes}
use Rattle.edd_syntax.specs.TreeView.{path_of}
use Rattle.edd_name_rules.proofs.SlotLaws.{sum_split}
use Rattle.edd_name_rules.proofs.Spends.{spent_from}
use Rattle.edd_name_rules.proofs.sizes.spend_items.Given as goal

-- what is left after those to come is what is left of the budget after all
abbrev pub invariant-loop-item : goal.invariant-loop-item
invariant-loop-item l = spent_from (λ xs. sum (map item_nodes xs)) (item_of path_of)
    (sum_split item_nodes) l.left l.item-index l.items ≡ spent_from (λ xs. sum (map item_nodes xs))
    (item_of path_of) (sum_split item_nodes) l.fn.budget 0 l.items
