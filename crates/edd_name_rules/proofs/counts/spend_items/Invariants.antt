use Rattle.std.proofs.Common.{◌≡◌}
use Rattle.edd_syntax.specs.ItemView.{item_of}
use Rattle.edd_syntax.specs.Resolution.{count_of}
use Rattle.edd_syntax.specs.TreeView.{path_of}
use Rattle.edd_name_rules.proofs.Spends.{spent_from}
use Rattle.edd_name_rules.proofs.Counting.{items_split}
use Rattle.edd_name_rules.proofs.counts.spend_items.Given as goal

-- what is left after those to come is what is left of the budget after all
abbrev pub invariant-loop-item : goal.invariant-loop-item
invariant-loop-item l =
    spent_from (count_of l.kind) (item_of path_of) (items_split l.kind) l.left l.item-index l.items
    ≡ spent_from (count_of l.kind) (item_of path_of) (items_split l.kind) l.fn.budget 0 l.items
