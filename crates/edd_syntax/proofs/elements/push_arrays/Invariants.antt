use Rattle.std.proofs.Common.{◌≡◌, ◌+◌, ◌≤◌}
use Rattle.edd_syntax.specs.ItemView.{numbered_item}
use Rattle.edd_syntax.proofs.NumberedLoops.{and_rest, left_from}
use Rattle.edd_syntax.proofs.ElementRows.{is_array, arrays_behind, of_array, arrays_split}
use Rattle.edd_syntax.proofs.elements.push_arrays.Given as goal

-- what was pushed and what is to come are all elements, and the numbers to come are small
abbrev pub invariant-loop-item : goal.invariant-loop-item
invariant-loop-item l =
    (and_rest arrays_behind is_array of_array numbered_item arrays_split l.all.items l.number
    l.item-index l.items ≡ and_rest arrays_behind is_array of_array numbered_item arrays_split
    l.initial.all.items 0 0 l.items)
    × (l.number + left_from is_array numbered_item l.item-index l.items ≤ 4096)
