use Rattle.std.proofs.Common.{◌≡◌}
use Rattle.edd_syntax.specs.ItemView.{numbered_item}
use Rattle.edd_syntax.proofs.VersionLaws.{holds_from, in_items, in_item, items_split}
use Rattle.edd_syntax.proofs.version.in_items.Given as goal

-- no item so far names it
abbrev pub invariant-loop-item : goal.invariant-loop-item
invariant-loop-item l =
    holds_from in_items in_item numbered_item items_split l.item-index l.items
    ≡ holds_from in_items in_item numbered_item items_split 0 l.items
