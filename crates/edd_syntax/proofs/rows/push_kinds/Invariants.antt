use Rattle.std.proofs.Common.{◌≡◌, map}
use Rattle.edd_syntax.specs.ItemView.{numbered_item}
use Rattle.edd_syntax.specs.Rows.{listed_of}
use Rattle.edd_syntax.proofs.ListedRows.{of_this_kind}
use Rattle.edd_syntax.proofs.RowLaws.{each_and_rest}
use Rattle.edd_syntax.proofs.rows.push_kinds.Given as goal

-- what was pushed and the rows to come are all rows
abbrev pub invariant-loop-kind : goal.invariant-loop-kind
invariant-loop-kind l = each_and_rest (of_this_kind (map numbered_item l.items))
    (map listed_of l.rows.items) l.kind-index l.kinds
    ≡ each_and_rest (of_this_kind (map numbered_item l.items)) (map listed_of l.initial.rows.items)
    0 l.kinds
