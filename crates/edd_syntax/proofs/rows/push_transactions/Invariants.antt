use Rattle.std.proofs.Common.{◌≡◌, ◌+◌, ◌≤◌, map}
use Rattle.edd_syntax.specs.ItemView.{numbered_attribute}
use Rattle.edd_syntax.specs.NameRules.{is_transaction}
use Rattle.edd_syntax.specs.Rows.{listed_of}
use Rattle.edd_syntax.proofs.NumberedLoops.{and_rest, left_from}
use Rattle.edd_syntax.proofs.TransactionRows.{positions_from, row_of, positions_split}
use Rattle.edd_syntax.proofs.rows.push_transactions.Given as goal

-- what was pushed and what is to come are all rows, and the positions to come are small
abbrev pub invariant-loop-attribute : goal.invariant-loop-attribute
invariant-loop-attribute l =
    (and_rest (positions_from l.item l.attr (map numbered_attribute l.attributes)) is_transaction (row_of l.item l.attr (map numbered_attribute l.attributes))
    numbered_attribute (positions_split l.item l.attr (map numbered_attribute l.attributes)) (map listed_of l.rows.items) l.sub l.attribute-index
    l.attributes
    ≡ and_rest (positions_from l.item l.attr (map numbered_attribute l.attributes)) is_transaction (row_of l.item l.attr (map numbered_attribute l.attributes))
    numbered_attribute (positions_split l.item l.attr (map numbered_attribute l.attributes)) (map listed_of l.initial.rows.items) 0 0 l.attributes)
    × (l.sub + left_from is_transaction numbered_attribute l.attribute-index l.attributes ≤ 4096)
