use Rattle.std.proofs.Common.{◌+◌, ◌-◌, length, arith, ap, ◌∙◌}
use Rattle.std.specs.List.{list_all}
use Rattle.edd_image.specs.Strings.{is_string}
use Rattle.edd_image.specs.Contents.{part, string_fields}
use Rattle.edd_loader.specs.Sections.{lies_within}
use Rattle.edd_loader.proofs.FirstRows.{all_rows, each_none, each_more}
use Rattle.edd_loader.proofs.RowTurns.{row_at, no_row, first_passes, rest_passes, span_inside, part_tested, each_goes, each_fails, each_done}
use Rattle.edd_loader.proofs.sections.first_no_string.Goals as goal

pub loop-index-init : goal.loop-index-init
loop-index-init c = record {
  within = ap (list_all (lies_within (length c.args.strings.now))) (all_rows (string_fields c.args.bytes.now) 8 c.args.count c.args.start)
      ∙ c.requires.within;
  same = ap (list_all (λ r. is_string (part r c.args.strings.now))) (all_rows (string_fields c.args.bytes.now) 8 c.args.count c.args.start);
  before = each_none (λ r. is_string (part r c.args.strings.now)) (string_fields c.args.bytes.now) 8 c.args.start;
}

pub part-requires : goal.part-requires
part-requires c =
    let here = row_at (string_fields c.args.bytes.now) 8 c.args.count c.args.start
    c.loop-index.index c.loop-index-test.true in
    span_inside _ _ _ _ c.string_start-place.ensures c.string_length-size.ensures
    (first_passes (lies_within (length c.args.strings.now)) _ _ _ here
    c.loop-index.invariant.within)

pub returns-then-not-is_string-clause-whether : goal.returns-then-not-is_string-clause-whether
returns-then-not-is_string-clause-whether c =
    let here = row_at (string_fields c.args.bytes.now) 8 c.args.count c.args.start
    c.loop-index.index c.loop-index-test.true in
    each_fails (λ r. is_string (part r c.args.strings.now)) _ _ _ _ here
    (part_tested is_string _ _ _ _ _ _ _ c.is_string.ensures c.part.ensures
    c.string_start-place.ensures c.string_length-size.ensures c.if-not-is_string.true)
    c.loop-index.invariant.same

pub returns-then-not-is_string-clause-first : goal.returns-then-not-is_string-clause-first
returns-then-not-is_string-clause-first c = record {
  inside = omega (arith, c.loop-index-test.true);
  before = c.loop-index.invariant.before;
  here = λ _. each_more (λ r. is_string (part r c.args.strings.now)) (string_fields c.args.bytes.now) 8 c.loop-index.index
      (c.loop-index.index + 1) c.args.start (omega arith) c.loop-index.invariant.before
      ∙ part_tested is_string _ _ _ _ _ _ _ c.is_string.ensures c.part.ensures
      c.string_start-place.ensures c.string_length-size.ensures c.if-not-is_string.true;
}

pub loop-index-preserved : goal.loop-index-preserved
loop-index-preserved c =
    let here = row_at (string_fields c.args.bytes.now) 8 c.args.count c.args.start
    c.loop-index.index c.loop-index-test.true in
    record {
      within = rest_passes (lies_within (length c.args.strings.now)) _ _ _ here
          c.loop-index.invariant.within;
      same = each_goes (λ r. is_string (part r c.args.strings.now)) _ _ _ _ here
          (part_tested is_string _ _ _ _ _ _ _ c.is_string.ensures c.part.ensures
          c.string_start-place.ensures c.string_length-size.ensures c.if-not-is_string.false)
          c.loop-index.invariant.same;
      before = each_more (λ r. is_string (part r c.args.strings.now)) (string_fields c.args.bytes.now) 8 c.loop-index.index
          (c.loop-index.index + 1) c.args.start (omega arith) c.loop-index.invariant.before
          ∙ part_tested is_string _ _ _ _ _ _ _ c.is_string.ensures c.part.ensures
          c.string_start-place.ensures c.string_length-size.ensures c.if-not-is_string.false;
    }

pub returns-clause-whether : goal.returns-clause-whether
returns-clause-whether c = each_done (λ r. is_string (part r c.args.strings.now)) _ _
    (no_row (string_fields c.args.bytes.now) 8 (c.args.count - c.loop-index.index) _ (omega arith))
    c.loop-index.invariant.same
