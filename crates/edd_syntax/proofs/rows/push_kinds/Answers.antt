use Rattle.std.proofs.Common.{◌∙◌, ap, ◌++◌, arith, map}
use Rattle.std.proofs.lemmas.List.{get_or_default}
use Rattle.edd_syntax.specs.ItemView.{numbered_item}
use Rattle.edd_syntax.specs.Rows.{listed_of}
use Rattle.edd_syntax.proofs.ListedRows.{kind_rows, of_this_kind}
use Rattle.edd_syntax.proofs.RowLaws.{each_appended, each_done}
use Rattle.edd_syntax.proofs.rows.push_kinds.Goals as goal

pub loop-kind-preserved : goal.loop-kind-preserved
loop-kind-preserved c =
    each_appended (of_this_kind (map numbered_item c.args.items.now)) (map listed_of c.loop-kind.rows.items)
    (map listed_of c.push_attributes.new.rows.items) _ c.loop-kind.kind-index c.args.kinds.now _ (omega arith)
    (get_or_default c.args.kinds.now c.loop-kind.kind-index _ _ (omega arith))
    (c.in_ok-push_attributes.ensures ∙ ap (λ xs. map listed_of c.loop-kind.rows.items ++ xs)
    (kind_rows (map numbered_item c.args.items.now) _))
    c.loop-kind.invariant

pub returns : goal.returns
returns c = each_done (of_this_kind (map numbered_item c.args.items.now)) (map listed_of c.loop-kind.rows.items) _
    c.loop-kind.kind-index c.args.kinds.now (omega arith) c.loop-kind.invariant
