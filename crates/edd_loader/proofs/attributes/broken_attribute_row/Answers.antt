use Rattle.std.proofs.Common.{◌≡◌, ◌+◌, ◌-◌, ◌*◌, ◌&&◌, List, map, arith, refl, sym, ap, ◌∙◌}
use Rattle.std.specs.List.{list_all}
use Rattle.std.proofs.lemmas.Bool.{and_left, and_right, eq-eqb, ne_eqb}
use Rattle.edd_image.specs.Contents.{AttributeFields, attribute_fields, rows_from}
use Rattle.edd_instructions.specs.Validity.{fills, is_attribute_row, rise, rises}
use Rattle.edd_loader.specs.Rows.{rises_next}
use Rattle.edd_loader.specs.Spots.{follow}
use Rattle.edd_loader.proofs.FirstRows.{all_rows, both_pass, each_none, each_more, ends, ends_more, first_rises, follow_ends, follow_more, next_first, risen_more, spans_more}
use Rattle.edd_loader.proofs.RowTurns.{attribute_span, row_at, rows_behind, no_row, attribute_goes, attribute_fails, rise_fails, unit_fails, attribute_done}
use Rattle.edd_loader.proofs.attributes.broken_attribute_row.Goals as goal

pub loop-index-init : goal.loop-index-init
loop-index-init c =
    let rows = attribute_fields c.args.bytes.now in
    record {
      inside = omega arith;
      same = ap (λ (all : List AttributeFields). list_all (is_attribute_row c.args.counts) all
          && (rise all && fills 0 (map attribute_span all) c.args.end))
          (all_rows rows 16 c.args.count c.args.start);
      valid = each_none (is_attribute_row c.args.counts) rows 16 c.args.start;
      rising = ap rise (no_row rows 16 0 c.args.start refl);
      next = λ _. first_rises rise rises (λ x. refl) (λ x y rest. refl) rows 16 c.args.start;
      follows = ap (λ (all : List AttributeFields). follow 0 (map attribute_span all))
          (no_row rows 16 0 c.args.start refl);
      here = sym (ap (λ (all : List AttributeFields). ends 0 (map attribute_span all))
          (no_row rows 16 0 c.args.start refl));
    }

pub returns-then-not-is_attribute_row-clause-whether : goal.returns-then-not-is_attribute_row-clause-whether
returns-then-not-is_attribute_row-clause-whether c =
    let here = row_at (attribute_fields c.args.bytes.now) 16 c.args.count c.args.start
    c.loop-index.index c.loop-index-test.true in
    attribute_fails (is_attribute_row c.args.counts) _ _ _ _ _ _ here
    (sym c.is_attribute_row.ensures ∙ c.if-not-is_attribute_row.true) c.loop-index.invariant.same

pub returns-then-not-rises_next-clause-whether : goal.returns-then-not-rises_next-clause-whether
returns-then-not-rises_next-clause-whether c =
    let here = row_at (attribute_fields c.args.bytes.now) 16 c.args.count c.args.start
    c.loop-index.index c.loop-index-test.true in
    let rises_so = ap (rises_next
    (attribute_fields c.args.bytes.now (c.args.start + 16 * c.loop-index.index)))
    (sym (rows_behind (attribute_fields c.args.bytes.now) 16 c.args.count c.args.start
    c.loop-index.index)) ∙ sym c.rises_next.ensures in
    rise_fails (is_attribute_row c.args.counts) _ _ _ _ _ _ here
    (rises_so ∙ c.if-not-rises_next.true) c.loop-index.invariant.same

pub returns-then-attribute_start-place-clause-whether : goal.returns-then-attribute_start-place-clause-whether
returns-then-attribute_start-place-clause-whether c =
    let here = row_at (attribute_fields c.args.bytes.now) 16 c.args.count c.args.start
    c.loop-index.index c.loop-index-test.true in
    unit_fails (is_attribute_row c.args.counts) _ _ _ _ _ _ _ here c.attribute_start.ensures
    c.if-attribute_start-place.true c.loop-index.invariant.same

pub loop-index-preserved : goal.loop-index-preserved
loop-index-preserved c =
    let here = row_at (attribute_fields c.args.bytes.now) 16 c.args.count c.args.start
    c.loop-index.index c.loop-index-test.true in
    let rises_so = ap (rises_next
    (attribute_fields c.args.bytes.now (c.args.start + 16 * c.loop-index.index)))
    (sym (rows_behind (attribute_fields c.args.bytes.now) 16 c.args.count c.args.start
    c.loop-index.index)) ∙ sym c.rises_next.ensures in
    let rows = attribute_fields c.args.bytes.now in
    let i = c.loop-index.index in
    let more = spans_more attribute_span rows 16 i (i + 1) c.args.start (omega arith) in
    record {
      inside = omega (arith, c.loop-index-test.true);
      same = attribute_goes (is_attribute_row c.args.counts) _ _ _ _ _ _ _ _ here
          (sym c.is_attribute_row.ensures ∙ c.if-not-is_attribute_row.false)
          (rises_so ∙ c.if-not-rises_next.false) c.attribute_start.ensures
          c.attribute_length.ensures c.if-attribute_start-place.false c.loop-index.invariant.same;
      valid = each_more (is_attribute_row c.args.counts) rows 16 i (i + 1) c.args.start
          (omega arith) c.loop-index.invariant.valid ∙ sym c.is_attribute_row.ensures
          ∙ c.if-not-is_attribute_row.false;
      rising = c.loop-index.invariant.next c.loop-index-test.true;
      next = λ lt. risen_more rise rises (λ x. refl) (λ x y rest. refl) rows 16 i c.args.start
          (c.loop-index.invariant.next c.loop-index-test.true)
          ∙ sym (ap (rises_next (rows (c.args.start + 16 * i)))
          (next_first rows 16 c.args.count c.args.start i lt))
          ∙ sym c.rises_next.ensures ∙ c.if-not-rises_next.false;
      follows = follow_more _ _ _ _ more c.loop-index.invariant.here _ c.attribute_start.ensures
          c.if-attribute_start-place.false c.loop-index.invariant.follows;
      here = ends_more _ _ _ _ more c.loop-index.invariant.here _ c.attribute_length.ensures;
    }

pub returns-then-place-end-clause-whether : goal.returns-then-place-end-clause-whether
returns-then-place-end-clause-whether c = sym (ne_eqb c.loop-index.place c.args.end c.if-place-end.true) ∙ attribute_done (is_attribute_row c.args.counts) _ _ _ _
    (no_row (attribute_fields c.args.bytes.now) 16 (c.args.count - c.loop-index.index) _
    (omega arith)) c.loop-index.invariant.same

pub returns-clause-whether : goal.returns-clause-whether
returns-clause-whether c = sym (eq-eqb c.loop-index.place c.args.end c.if-place-end.false) ∙ attribute_done (is_attribute_row c.args.counts) _ _ _ _
    (no_row (attribute_fields c.args.bytes.now) 16 (c.args.count - c.loop-index.index) _
    (omega arith)) c.loop-index.invariant.same

pub returns-then-not-is_attribute_row-clause-first : goal.returns-then-not-is_attribute_row-clause-first
returns-then-not-is_attribute_row-clause-first c =
    let rows = attribute_fields c.args.bytes.now in
    let i = c.loop-index.index in
    let next = rows_from rows 16 (i + 1) c.args.start in
    let before = c.loop-index.invariant in
    record {
      inside = before.inside;
      before = both_pass _ _ before.valid (both_pass _ _ before.rising before.follows);
      here = λ _. and_left (list_all (is_attribute_row c.args.counts) next)
          (rise next && follow 0 (map attribute_span next))
          (each_more (is_attribute_row c.args.counts) rows 16 i (i + 1) c.args.start (omega arith)
          before.valid ∙ sym c.is_attribute_row.ensures ∙ c.if-not-is_attribute_row.true);
    }

pub returns-then-attribute_start-place-clause-first : goal.returns-then-attribute_start-place-clause-first
returns-then-attribute_start-place-clause-first c =
    let rows = attribute_fields c.args.bytes.now in
    let i = c.loop-index.index in
    let more = spans_more attribute_span rows 16 i (i + 1) c.args.start (omega arith) in
    let next = rows_from rows 16 (i + 1) c.args.start in
    let before = c.loop-index.invariant in
    record {
      inside = before.inside;
      before = both_pass _ _ before.valid (both_pass _ _ before.rising before.follows);
      here = λ _. and_right (list_all (is_attribute_row c.args.counts) next) _
          (and_right (rise next) (follow 0 (map attribute_span next))
          (follow_ends _ _ _ _ more before.here _ c.attribute_start.ensures
          c.if-attribute_start-place.true before.follows));
    }

pub returns-then-not-rises_next-clause-first : goal.returns-then-not-rises_next-clause-first
returns-then-not-rises_next-clause-first c =
    let rows = attribute_fields c.args.bytes.now in
    let i = c.loop-index.index in
    let more = spans_more attribute_span rows 16 i (i + 1) c.args.start (omega arith) in
    let last = rows_from rows 16 (i + 1 + 1) c.args.start in
    let before = c.loop-index.invariant in
    let rising = before.next c.loop-index-test.true in
    record {
      inside = omega (arith, c.loop-index-test.true);
      before = both_pass _ _ (each_more (is_attribute_row c.args.counts) rows 16 i (i + 1)
          c.args.start (omega arith) before.valid ∙ sym c.is_attribute_row.ensures
          ∙ c.if-not-is_attribute_row.false) (both_pass _ _ rising
          (follow_more _ _ _ _ more before.here _ c.attribute_start.ensures
          c.if-attribute_start-place.false before.follows));
      here = λ lt. and_right (list_all (is_attribute_row c.args.counts) last) _
          (and_left (rise last) (follow 0 (map attribute_span last))
          (risen_more rise rises (λ x. refl) (λ x y rest. refl) rows 16 i c.args.start rising
          ∙ sym (ap (rises_next (rows (c.args.start + 16 * i)))
          (next_first rows 16 c.args.count c.args.start i lt))
          ∙ sym c.rises_next.ensures ∙ c.if-not-rises_next.true));
    }

pub returns-then-place-end-clause-first : goal.returns-then-place-end-clause-first
returns-then-place-end-clause-first c =
    let before = c.loop-index.invariant in
    let last : c.args.count ≡ c.loop-index.index =
    omega (arith, c.loop-index-test.false, before.inside) in
    record {
      inside = omega arith;
      before = rw last (both_pass _ _ before.valid (both_pass _ _ before.rising before.follows));
      here = λ lt. absurd (omega (arith, lt));
    }
