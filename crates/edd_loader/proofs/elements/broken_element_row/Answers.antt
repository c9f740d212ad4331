use Rattle.std.proofs.Common.{◌+◌, ◌-◌, ◌*◌, ◌&&◌, List, arith, refl, sym, ap, ◌∙◌}
use Rattle.std.specs.List.{list_all}
use Rattle.std.proofs.lemmas.Bool.{and_left, and_right}
use Rattle.edd_syntax.specs.declared.numbers.Element.{Element}
use Rattle.edd_image.specs.Contents.{element_fields, rows_from}
use Rattle.edd_instructions.specs.Validity.{elements_rise, is_element_before, is_element_row}
use Rattle.edd_loader.specs.Rows.{is_before_next}
use Rattle.edd_loader.proofs.ElementTurns.{element_goes, element_fails, element_falls, element_done}
use Rattle.edd_loader.proofs.FirstRows.{all_rows, both_pass, each_none, each_more, first_rises, next_first, risen_more}
use Rattle.edd_loader.proofs.RowTurns.{row_at, rows_behind, no_row}
use Rattle.edd_loader.proofs.elements.broken_element_row.Goals as goal

pub loop-index-init : goal.loop-index-init
loop-index-init c =
    let rows = element_fields c.args.bytes.now in
    record {
      inside = omega arith;
      same = ap (λ (all : List Element). list_all (is_element_row c.args.counts) all
          && elements_rise all) (all_rows rows 8 c.args.count c.args.start);
      exist = each_none (is_element_row c.args.counts) rows 8 c.args.start;
      rising = ap elements_rise (no_row rows 8 0 c.args.start refl);
      next = λ _. first_rises elements_rise is_element_before (λ x. refl) (λ x y rest. refl) rows 8
          c.args.start;
    }

pub returns-then-not-is_element_row-clause-whether : goal.returns-then-not-is_element_row-clause-whether
returns-then-not-is_element_row-clause-whether c =
    let here = row_at (element_fields c.args.bytes.now) 8 c.args.count c.args.start
    c.loop-index.index c.loop-index-test.true in
    element_fails (is_element_row c.args.counts) _ _ _ _ here
    (sym c.is_element_row.ensures ∙ c.if-not-is_element_row.true) c.loop-index.invariant.same

pub returns-then-not-is_before_next-clause-whether : goal.returns-then-not-is_before_next-clause-whether
returns-then-not-is_before_next-clause-whether c =
    let here = row_at (element_fields c.args.bytes.now) 8 c.args.count c.args.start
    c.loop-index.index c.loop-index-test.true in
    let before = ap (is_before_next
    (element_fields c.args.bytes.now (c.args.start + 8 * c.loop-index.index)))
    (sym (rows_behind (element_fields c.args.bytes.now) 8 c.args.count c.args.start
    c.loop-index.index)) ∙ sym c.is_before_next.ensures in
    element_falls (is_element_row c.args.counts) _ _ _ _ here
    (before ∙ c.if-not-is_before_next.true) c.loop-index.invariant.same

pub loop-index-preserved : goal.loop-index-preserved
loop-index-preserved c =
    let here = row_at (element_fields c.args.bytes.now) 8 c.args.count c.args.start
    c.loop-index.index c.loop-index-test.true in
    let before = ap (is_before_next
    (element_fields c.args.bytes.now (c.args.start + 8 * c.loop-index.index)))
    (sym (rows_behind (element_fields c.args.bytes.now) 8 c.args.count c.args.start
    c.loop-index.index)) ∙ sym c.is_before_next.ensures in
    let rows = element_fields c.args.bytes.now in
    let i = c.loop-index.index in
    record {
      inside = omega (arith, c.loop-index-test.true);
      same = element_goes (is_element_row c.args.counts) _ _ _ _ here
          (sym c.is_element_row.ensures ∙ c.if-not-is_element_row.false)
          (before ∙ c.if-not-is_before_next.false) c.loop-index.invariant.same;
      exist = each_more (is_element_row c.args.counts) rows 8 i (i + 1) c.args.start (omega arith)
          c.loop-index.invariant.exist ∙ sym c.is_element_row.ensures
          ∙ c.if-not-is_element_row.false;
      rising = c.loop-index.invariant.next c.loop-index-test.true;
      next = λ lt. risen_more elements_rise is_element_before (λ x. refl) (λ x y rest. refl) rows 8 i
          c.args.start (c.loop-index.invariant.next c.loop-index-test.true)
          ∙ sym (ap (is_before_next (rows (c.args.start + 8 * i)))
          (next_first rows 8 c.args.count c.args.start i lt))
          ∙ sym c.is_before_next.ensures ∙ c.if-not-is_before_next.false;
    }

pub returns-clause-whether : goal.returns-clause-whether
returns-clause-whether c = element_done (is_element_row c.args.counts) _ _
    (no_row (element_fields c.args.bytes.now) 8 (c.args.count - c.loop-index.index) _ (omega arith))
    c.loop-index.invariant.same

pub returns-then-not-is_element_row-clause-first : goal.returns-then-not-is_element_row-clause-first
returns-then-not-is_element_row-clause-first c =
    let rows = element_fields c.args.bytes.now in
    let i = c.loop-index.index in
    let next = rows_from rows 8 (i + 1) c.args.start in
    record {
      inside = c.loop-index.invariant.inside;
      before = both_pass _ _ c.loop-index.invariant.exist c.loop-index.invariant.rising;
      here = λ _. and_left (list_all (is_element_row c.args.counts) next) (elements_rise next)
          (each_more (is_element_row c.args.counts) rows 8 i (i + 1) c.args.start (omega arith)
          c.loop-index.invariant.exist ∙ sym c.is_element_row.ensures
          ∙ c.if-not-is_element_row.true);
    }

pub returns-then-not-is_before_next-clause-first : goal.returns-then-not-is_before_next-clause-first
returns-then-not-is_before_next-clause-first c =
    let rows = element_fields c.args.bytes.now in
    let i = c.loop-index.index in
    let last = rows_from rows 8 (i + 1 + 1) c.args.start in
    record {
      inside = omega (arith, c.loop-index-test.true);
      before = both_pass _ _ (each_more (is_element_row c.args.counts) rows 8 i (i + 1)
          c.args.start (omega arith) c.loop-index.invariant.exist ∙ sym c.is_element_row.ensures
          ∙ c.if-not-is_element_row.false) (c.loop-index.invariant.next c.loop-index-test.true);
      here = λ lt. and_right (list_all (is_element_row c.args.counts) last) (elements_rise last)
          (risen_more elements_rise is_element_before (λ x. refl) (λ x y rest. refl) rows 8 i
          c.args.start (c.loop-index.invariant.next c.loop-index-test.true)
          ∙ sym (ap (is_before_next (rows (c.args.start + 8 * i)))
          (next_first rows 8 c.args.count c.args.start i lt))
          ∙ sym c.is_before_next.ensures ∙ c.if-not-is_before_next.true);
    }
