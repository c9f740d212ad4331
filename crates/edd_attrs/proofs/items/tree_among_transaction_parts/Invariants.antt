use Rattle.std.proofs.Common.{◌≡◌, map}
use Rattle.edd_syntax.specs.ItemView.{numbered_transaction_part}
use Rattle.edd_attrs.specs.Trees.{tree_of_transaction_part}
use Rattle.edd_attrs.specs.Rows.{one_part}
use Rattle.edd_attrs.proofs.Looking.{found_from, transaction_parts_split}
use Rattle.edd_attrs.proofs.items.tree_among_transaction_parts.Given as goal

-- there is none so far
abbrev pub invariant-loop-part : goal.invariant-loop-part
invariant-loop-part l =
    found_from l.attr numbered_transaction_part one_part (map tree_of_transaction_part)
    transaction_parts_split l.part-index l.parts
    ≡ found_from l.attr numbered_transaction_part one_part (map tree_of_transaction_part)
    transaction_parts_split 0 l.parts
