use Rattle.std.proofs.Common.{◌≡◌, ◌+◌, ◌-◌, ap, arith, refl, sym, ◌∙◌}
use Rattle.std.proofs.lemmas.Bool.{eq-eqb, ne_eqb}
use Rattle.edd_image.specs.Contents.{string_fields}
use Rattle.edd_instructions.specs.Validity.{fills}
use Rattle.edd_loader.specs.Spots.{follow}
use Rattle.edd_loader.proofs.FirstRows.{all_rows, ends, ends_more, follow_ends, follow_more, rows_more}
use Rattle.edd_loader.proofs.RowTurns.{row_at, no_row, fill_goes, fill_fails, fill_done}
use Rattle.edd_loader.proofs.rows.broken_string_row.Goals as goal

pub loop-index-init : goal.loop-index-init
loop-index-init c =
    let rows = string_fields c.args.bytes.now in
    record {
      inside = omega arith;
      same = ap (λ spans. fills 0 spans c.args.end) (all_rows rows 8 c.args.count c.args.start);
      follows = ap (follow 0) (no_row rows 8 0 c.args.start refl);
      here = sym (ap (ends 0) (no_row rows 8 0 c.args.start refl));
    }

pub returns-then-string_start-place-clause-whether : goal.returns-then-string_start-place-clause-whether
returns-then-string_start-place-clause-whether c =
    let here = row_at (string_fields c.args.bytes.now) 8 c.args.count c.args.start
    c.loop-index.index c.loop-index-test.true in
    fill_fails _ _ _ _ _ _ _ here c.string_start.ensures c.if-string_start-place.true
    c.loop-index.invariant.same

pub returns-then-string_start-place-clause-first : goal.returns-then-string_start-place-clause-first
returns-then-string_start-place-clause-first c =
    let more = rows_more (string_fields c.args.bytes.now) 8 c.loop-index.index
    (c.loop-index.index + 1) c.args.start (omega arith) in
    record {
      inside = c.loop-index.invariant.inside;
      before = c.loop-index.invariant.follows;
      here = λ _. follow_ends _ _ _ _ more c.loop-index.invariant.here _ c.string_start.ensures
          c.if-string_start-place.true c.loop-index.invariant.follows;
    }

pub loop-index-preserved : goal.loop-index-preserved
loop-index-preserved c =
    let here = row_at (string_fields c.args.bytes.now) 8 c.args.count c.args.start
    c.loop-index.index c.loop-index-test.true in
    let more = rows_more (string_fields c.args.bytes.now) 8 c.loop-index.index
    (c.loop-index.index + 1) c.args.start (omega arith) in
    record {
      inside = omega (arith, c.loop-index-test.true);
      same = fill_goes _ _ _ _ _ _ _ _ here c.string_start.ensures c.string_length.ensures
          c.if-string_start-place.false c.loop-index.invariant.same;
      follows = follow_more _ _ _ _ more c.loop-index.invariant.here _ c.string_start.ensures
          c.if-string_start-place.false c.loop-index.invariant.follows;
      here = ends_more _ _ _ _ more c.loop-index.invariant.here _ c.string_length.ensures;
    }

pub returns-then-place-end-clause-whether : goal.returns-then-place-end-clause-whether
returns-then-place-end-clause-whether c = sym (ne_eqb c.loop-index.place c.args.end c.if-place-end.true) ∙ fill_done _ _ _ _
    (no_row (string_fields c.args.bytes.now) 8 (c.args.count - c.loop-index.index) _ (omega arith))
    c.loop-index.invariant.same

pub returns-then-place-end-clause-first : goal.returns-then-place-end-clause-first
returns-then-place-end-clause-first c =
    let last : c.args.count ≡ c.loop-index.index =
    omega (arith, c.loop-index-test.false, c.loop-index.invariant.inside) in
    record {
      inside = omega arith;
      before = rw last c.loop-index.invariant.follows;
      here = λ lt. absurd (omega (arith, lt));
    }

pub returns-clause-whether : goal.returns-clause-whether
returns-clause-whether c = sym (eq-eqb c.loop-index.place c.args.end c.if-place-end.false) ∙ fill_done _ _ _ _
    (no_row (string_fields c.args.bytes.now) 8 (c.args.count - c.loop-index.index) _ (omega arith))
    c.loop-index.invariant.same
