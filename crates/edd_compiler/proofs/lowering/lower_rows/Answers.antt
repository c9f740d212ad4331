use Rattle.std.proofs.Common.{◌∙◌, sym, subst, ap, arith, map}
use Rattle.std.proofs.Math.ListN.{get_or-map}
use Rattle.std.proofs.lemmas.List.{length-map}
use Rattle.std.proofs.lemmas.Result.{err_from_is_err_and}
use Rattle.edd_assembly.specs.Views.{lowered_of}
use Rattle.edd_code.specs.Units.{description_of}
use Rattle.edd_compiler.specs.Lowering.{IsPlain}
use Rattle.edd_compiler.proofs.LoweredRows.{next_row, over_more, too_many_at}
use Rattle.edd_compiler.proofs.lowering.lower_rows.Goals as goal

pub returns-in_err-add-clause-refused : goal.returns-in_err-add-clause-refused
returns-in_err-add-clause-refused c =
    let p = err_from_is_err_and c.from_residual.result
    c.from_residual.ensures.1 in rw (p.1, p.2)
    (over_more c.in_err-add.field-0.0
    (too_many_at (description_of c.args.checked.now) _ c.loop-row.lowering.table
    (map lowered_of c.loop-row.lowering.units.items) _ c.loop-row.invariant)
    c.in_err-add.ensures.refused)

pub add-requires-clause-plain : goal.add-requires-clause-plain
add-requires-clause-plain c = subst IsPlain
    (get_or-map (λ r. r.row) c.args.rows.now c.loop-row.row-index c.row-item.result
    ∙ sym (ap (λ r. r.row) c.row-item.is))
    (c.requires.plain c.loop-row.row-index c.row-item.result.row
    (omega (arith, length-map c.args.rows.now (λ r. r.row))))

pub loop-row-preserved : goal.loop-row-preserved
loop-row-preserved c = next_row (description_of c.args.checked.now)
    (map (λ r. r.row) c.args.rows.now) c.loop-row.row-index c.row-item.result.row
    c.row-item.result.row _ _ _ _ (omega (arith, length-map c.args.rows.now (λ r. r.row)))
    (ap (λ r. r.row) c.row-item.is
    ∙ sym (get_or-map (λ r. r.row) c.args.rows.now c.loop-row.row-index c.row-item.result))
    c.loop-row.invariant c.in_ok-add.ensures.adds
