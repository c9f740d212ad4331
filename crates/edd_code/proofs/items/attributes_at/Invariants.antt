use Rattle.std.proofs.Common.{◌≡◌}
use Rattle.edd_syntax.specs.ItemView.{numbered_item}
use Rattle.edd_syntax.specs.Rows.{attributes_of_items}
use Rattle.edd_code.proofs.Picking.{attributes_of_kind, picked_from, items_split}
use Rattle.edd_code.proofs.items.attributes_at.Given as goal

-- the item is the one that is left to count to
abbrev pub invariant-loop-item : goal.invariant-loop-item
invariant-loop-item l =
    picked_from numbered_item (attributes_of_kind l.kind) (attributes_of_items l.kind)
    (items_split l.kind) l.left l.item-index l.items
    ≡ picked_from numbered_item (attributes_of_kind l.kind) (attributes_of_items l.kind)
    (items_split l.kind) l.index 0 l.items
