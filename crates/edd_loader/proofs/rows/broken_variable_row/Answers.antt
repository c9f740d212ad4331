use Rattle.std.proofs.Common.{◌+◌, ◌-◌, arith, sym, ap, ◌∙◌}
use Rattle.std.specs.List.{list_all}
use Rattle.edd_image.specs.Contents.{variable_fields}
use Rattle.edd_instructions.specs.Validity.{is_variable_row}
use Rattle.edd_loader.proofs.FirstRows.{all_rows, each_none, each_more}
use Rattle.edd_loader.proofs.RowTurns.{row_at, no_row, each_goes, each_fails, each_done}
use Rattle.edd_loader.proofs.rows.broken_variable_row.Goals as goal

pub loop-index-init : goal.loop-index-init
loop-index-init c = record {
  same = ap (list_all is_variable_row) (all_rows (variable_fields c.args.bytes.now) 4 c.args.count
      c.args.start);
  before = each_none is_variable_row (variable_fields c.args.bytes.now) 4 c.args.start;
}

pub returns-then-not-is_variable_row-clause-whether : goal.returns-then-not-is_variable_row-clause-whether
returns-then-not-is_variable_row-clause-whether c =
    let here = row_at (variable_fields c.args.bytes.now) 4 c.args.count c.args.start
    c.loop-index.index c.loop-index-test.true in
    each_fails is_variable_row _ _ _ _ here (sym c.is_variable_row.ensures
    ∙ c.if-not-is_variable_row.true) c.loop-index.invariant.same

pub returns-then-not-is_variable_row-clause-first : goal.returns-then-not-is_variable_row-clause-first
returns-then-not-is_variable_row-clause-first c = record {
  inside = omega (arith, c.loop-index-test.true);
  before = c.loop-index.invariant.before;
  here = λ _. each_more is_variable_row (variable_fields c.args.bytes.now) 4 c.loop-index.index
      (c.loop-index.index + 1) c.args.start (omega arith) c.loop-index.invariant.before
      ∙ sym c.is_variable_row.ensures ∙ c.if-not-is_variable_row.true;
}

pub loop-index-preserved : goal.loop-index-preserved
loop-index-preserved c =
    let here = row_at (variable_fields c.args.bytes.now) 4 c.args.count c.args.start
    c.loop-index.index c.loop-index-test.true in
    record {
      same = each_goes is_variable_row _ _ _ _ here (sym c.is_variable_row.ensures
          ∙ c.if-not-is_variable_row.false) c.loop-index.invariant.same;
      before = each_more is_variable_row (variable_fields c.args.bytes.now) 4 c.loop-index.index
          (c.loop-index.index + 1) c.args.start (omega arith) c.loop-index.invariant.before
          ∙ sym c.is_variable_row.ensures ∙ c.if-not-is_variable_row.false;
    }

pub returns-clause-whether : goal.returns-clause-whether
returns-clause-whether c = each_done is_variable_row _ _
    (no_row (variable_fields c.args.bytes.now) 4 (c.args.count - c.loop-index.index) _
    (omega arith)) c.loop-index.invariant.same
