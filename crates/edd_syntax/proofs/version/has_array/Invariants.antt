use Rattle.std.proofs.Common.{◌≡◌}
use Rattle.edd_syntax.specs.ItemView.{numbered_item}
use Rattle.edd_syntax.proofs.RowLaws.{any_from}
use Rattle.edd_syntax.proofs.ElementRows.{is_array}
use Rattle.edd_syntax.proofs.version.has_array.Given as goal

-- none so far is one
abbrev pub invariant-loop-item : goal.invariant-loop-item
invariant-loop-item l = any_from is_array numbered_item l.item-index l.items
    ≡ any_from is_array numbered_item 0 l.items
