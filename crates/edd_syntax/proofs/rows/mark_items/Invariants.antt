use Rattle.std.proofs.Common.{◌≡◌, [], map}
use Rattle.edd_syntax.specs.ItemView.{numbered_item}
use Rattle.edd_syntax.proofs.Appending.{with_rest}
use Rattle.edd_syntax.proofs.TransactionRows.{if_of_kind, all_of_kind, kind_split}
use Rattle.edd_syntax.proofs.rows.mark_items.Given as goal

-- those that are there and those to come are all of the kind
abbrev pub invariant-loop-item : goal.invariant-loop-item
invariant-loop-item l =
    with_rest (all_of_kind l.kind) (if_of_kind l.kind) (λ s i. s) numbered_item (kind_split l.kind)
    (map (λ m. numbered_item m.item.now) l.marked.items) 0 l.item-index l.items
    ≡ with_rest (all_of_kind l.kind) (if_of_kind l.kind) (λ s i. s) numbered_item
    (kind_split l.kind) [] 0 0 l.items
