use Rattle.std.proofs.Common.{◌≡◌, ◌+◌, ◌-◌, ◌*◌, ◌&&◌, List, ap, arith, map, refl, sym, ◌∙◌}
use Rattle.std.specs.List.{list_all}
use Rattle.std.proofs.lemmas.Bool.{and_left, and_right, eq-eqb, ne_eqb}
use Rattle.edd_image.specs.Contents.{NameFields, name_fields, rows_from}
use Rattle.edd_instructions.specs.Validity.{fills}
use Rattle.edd_loader.specs.Spots.{follow}
use Rattle.edd_loader.proofs.FirstRows.{all_rows, both_pass, each_none, each_more, ends, ends_more, follow_ends, follow_more, spans_more}
use Rattle.edd_loader.proofs.RowTurns.{has_zero, name_span, row_at, no_row, name_goes, name_fails, padding_fails, name_done}
use Rattle.edd_loader.proofs.rows.broken_name_row.Goals as goal

pub loop-index-init : goal.loop-index-init
loop-index-init c =
    let rows = name_fields c.args.bytes.now in
    record {
      inside = omega arith;
      same = ap (λ (all : List NameFields). list_all has_zero all
          && fills 0 (map name_span all) c.args.end) (all_rows rows 8 c.args.count c.args.start);
      zeros = each_none has_zero rows 8 c.args.start;
      follows = ap (λ (all : List NameFields). follow 0 (map name_span all))
          (no_row rows 8 0 c.args.start refl);
      here = sym (ap (λ (all : List NameFields). ends 0 (map name_span all))
          (no_row rows 8 0 c.args.start refl));
    }

pub returns-then-name_padding-ne0-clause-whether : goal.returns-then-name_padding-ne0-clause-whether
returns-then-name_padding-ne0-clause-whether c =
    let here = row_at (name_fields c.args.bytes.now) 8 c.args.count c.args.start c.loop-index.index
    c.loop-index-test.true in
    padding_fails _ _ _ _ _ _ here (λ e. c.if-name_padding-ne0.true (c.name_padding.ensures ∙ e))
    c.loop-index.invariant.same

pub returns-then-name_padding-ne0-clause-first : goal.returns-then-name_padding-ne0-clause-first
returns-then-name_padding-ne0-clause-first c =
    let rows = name_fields c.args.bytes.now in
    let next = rows_from rows 8 (c.loop-index.index + 1) c.args.start in
    record {
      inside = c.loop-index.invariant.inside;
      before = both_pass _ _ c.loop-index.invariant.zeros c.loop-index.invariant.follows;
      here = λ _. and_left (list_all has_zero next) (follow 0 (map name_span next)) (each_more has_zero rows 8 c.loop-index.index
          (c.loop-index.index + 1) c.args.start (omega arith) c.loop-index.invariant.zeros
          ∙ ne_eqb (rows (c.args.start + 8 * c.loop-index.index)).padding 0
          (λ e. c.if-name_padding-ne0.true (c.name_padding.ensures ∙ e)));
    }

pub returns-then-name_start-place-clause-whether : goal.returns-then-name_start-place-clause-whether
returns-then-name_start-place-clause-whether c =
    let here = row_at (name_fields c.args.bytes.now) 8 c.args.count c.args.start c.loop-index.index
    c.loop-index-test.true in
    name_fails _ _ _ _ _ _ _ here c.name_start.ensures c.if-name_start-place.true
    c.loop-index.invariant.same

pub returns-then-name_start-place-clause-first : goal.returns-then-name_start-place-clause-first
returns-then-name_start-place-clause-first c =
    let more = spans_more name_span (name_fields c.args.bytes.now) 8 c.loop-index.index
    (c.loop-index.index + 1) c.args.start (omega arith) in
    let next = rows_from (name_fields c.args.bytes.now) 8 (c.loop-index.index + 1) c.args.start in
    record {
      inside = c.loop-index.invariant.inside;
      before = both_pass _ _ c.loop-index.invariant.zeros c.loop-index.invariant.follows;
      here = λ _. and_right (list_all has_zero next) (follow 0 (map name_span next))
          (follow_ends _ _ _ _ more c.loop-index.invariant.here _ c.name_start.ensures
          c.if-name_start-place.true c.loop-index.invariant.follows);
    }

pub loop-index-preserved : goal.loop-index-preserved
loop-index-preserved c =
    let rows = name_fields c.args.bytes.now in
    let here = row_at rows 8 c.args.count c.args.start c.loop-index.index c.loop-index-test.true in
    let more = spans_more name_span rows 8 c.loop-index.index
    (c.loop-index.index + 1) c.args.start (omega arith) in
    record {
      inside = omega (arith, c.loop-index-test.true);
      same = name_goes _ _ _ _ _ _ _ _ here (sym c.name_padding.ensures ∙ c.if-name_padding-ne0.false)
          c.name_start.ensures c.name_length.ensures c.if-name_start-place.false
          c.loop-index.invariant.same;
      zeros = each_more has_zero rows 8 c.loop-index.index
          (c.loop-index.index + 1) c.args.start (omega arith) c.loop-index.invariant.zeros
          ∙ eq-eqb (rows (c.args.start + 8 * c.loop-index.index)).padding 0
          (sym c.name_padding.ensures ∙ c.if-name_padding-ne0.false);
      follows = follow_more _ _ _ _ more c.loop-index.invariant.here _ c.name_start.ensures
          c.if-name_start-place.false c.loop-index.invariant.follows;
      here = ends_more _ _ _ _ more c.loop-index.invariant.here _ c.name_length.ensures;
    }

pub returns-then-place-end-clause-whether : goal.returns-then-place-end-clause-whether
returns-then-place-end-clause-whether c = sym (ne_eqb c.loop-index.place c.args.end c.if-place-end.true) ∙ name_done _ _ _ _
    (no_row (name_fields c.args.bytes.now) 8 (c.args.count - c.loop-index.index) _ (omega arith))
    c.loop-index.invariant.same

pub returns-then-place-end-clause-first : goal.returns-then-place-end-clause-first
returns-then-place-end-clause-first c =
    let last : c.args.count ≡ c.loop-index.index =
    omega (arith, c.loop-index-test.false, c.loop-index.invariant.inside) in
    record {
      inside = omega arith;
      before = rw last (both_pass _ _ c.loop-index.invariant.zeros c.loop-index.invariant.follows);
      here = λ lt. absurd (omega (arith, lt));
    }

pub returns-clause-whether : goal.returns-clause-whether
returns-clause-whether c = sym (eq-eqb c.loop-index.place c.args.end c.if-place-end.false) ∙ name_done _ _ _ _
    (no_row (name_fields c.args.bytes.now) 8 (c.args.count - c.loop-index.index) _ (omega arith))
    c.loop-index.invariant.same
