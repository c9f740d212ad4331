use Rattle.std.proofs.Common.{◌≡◌, map}
use Rattle.edd_syntax.specs.ItemView.{numbered_item}
use Rattle.edd_syntax.specs.Rows.{listed_of}
use Rattle.edd_syntax.proofs.ListedRows.{of_attr}
use Rattle.edd_syntax.proofs.RowLaws.{each_and_rest}
use Rattle.edd_syntax.proofs.rows.push_attributes.Given as goal

-- what was pushed and the rows to come are all rows
abbrev pub invariant-loop-attr : goal.invariant-loop-attr
invariant-loop-attr l = each_and_rest (of_attr (map numbered_item l.items) l.kind)
    (map listed_of l.rows.items) l.attr-index l.attrs
    ≡ each_and_rest (of_attr (map numbered_item l.items) l.kind)
    (map listed_of l.initial.rows.items) 0 l.attrs
