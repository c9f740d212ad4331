use Rattle.std.proofs.Common.{◌+◌, ◌-◌, length, arith, ap, ◌∙◌}
use Rattle.std.specs.List.{list_all}
use Rattle.edd_syntax.specs.Names.{is_name}
use Rattle.edd_image.specs.Contents.{part, name_fields}
use Rattle.edd_loader.specs.Sections.{lies_within}
use Rattle.edd_loader.proofs.FirstRows.{all_rows, each_none, each_more}
use Rattle.edd_loader.proofs.RowTurns.{row_at, no_row, first_passes, rest_passes, span_inside, part_tested, each_goes, each_fails, each_done}
use Rattle.edd_loader.proofs.sections.first_no_name.Goals as goal

pub loop-index-init : goal.loop-index-init
loop-index-init c = record {
  within = ap (list_all (λ r. lies_within (length c.args.names.now) r.span)) (all_rows (name_fields c.args.bytes.now) 8 c.args.count c.args.start)
      ∙ c.requires.within;
  same = ap (list_all (λ r. is_name (part r.span c.args.names.now))) (all_rows (name_fields c.args.bytes.now) 8 c.args.count c.args.start);
  before = each_none (λ r. is_name (part r.span c.args.names.now)) (name_fields c.args.bytes.now) 8 c.args.start;
}

pub part-requires : goal.part-requires
part-requires c =
    let here = row_at (name_fields c.args.bytes.now) 8 c.args.count c.args.start c.loop-index.index
    c.loop-index-test.true in
    span_inside _ _ _ _ c.name_start-place.ensures c.name_length-size.ensures
    (first_passes (λ r. lies_within (length c.args.names.now) r.span) _ _ _ here
    c.loop-index.invariant.within)

pub returns-then-not-is_name-clause-whether : goal.returns-then-not-is_name-clause-whether
returns-then-not-is_name-clause-whether c =
    let here = row_at (name_fields c.args.bytes.now) 8 c.args.count c.args.start c.loop-index.index
    c.loop-index-test.true in
    each_fails (λ r. is_name (part r.span c.args.names.now)) _ _ _ _ here
    (part_tested is_name _ _ _ _ _ _ _ c.is_name.ensures c.part.ensures
    c.name_start-place.ensures c.name_length-size.ensures c.if-not-is_name.true)
    c.loop-index.invariant.same

pub returns-then-not-is_name-clause-first : goal.returns-then-not-is_name-clause-first
returns-then-not-is_name-clause-first c = record {
  inside = omega (arith, c.loop-index-test.true);
  before = c.loop-index.invariant.before;
  here = λ _. each_more (λ r. is_name (part r.span c.args.names.now)) (name_fields c.args.bytes.now) 8 c.loop-index.index
      (c.loop-index.index + 1) c.args.start (omega arith) c.loop-index.invariant.before
      ∙ part_tested is_name _ _ _ _ _ _ _ c.is_name.ensures c.part.ensures
      c.name_start-place.ensures c.name_length-size.ensures c.if-not-is_name.true;
}

pub loop-index-preserved : goal.loop-index-preserved
loop-index-preserved c =
    let here = row_at (name_fields c.args.bytes.now) 8 c.args.count c.args.start c.loop-index.index
    c.loop-index-test.true in
    record {
      within = rest_passes (λ r. lies_within (length c.args.names.now) r.span) _ _ _ here
          c.loop-index.invariant.within;
      same = each_goes (λ r. is_name (part r.span c.args.names.now)) _ _ _ _ here
          (part_tested is_name _ _ _ _ _ _ _ c.is_name.ensures c.part.ensures
          c.name_start-place.ensures c.name_length-size.ensures c.if-not-is_name.false)
          c.loop-index.invariant.same;
      before = each_more (λ r. is_name (part r.span c.args.names.now)) (name_fields c.args.bytes.now) 8 c.loop-index.index
          (c.loop-index.index + 1) c.args.start (omega arith) c.loop-index.invariant.before
          ∙ part_tested is_name _ _ _ _ _ _ _ c.is_name.ensures c.part.ensures
          c.name_start-place.ensures c.name_length-size.ensures c.if-not-is_name.false;
    }

pub returns-clause-whether : goal.returns-clause-whether
returns-clause-whether c = each_done (λ r. is_name (part r.span c.args.names.now)) _ _
    (no_row (name_fields c.args.bytes.now) 8 (c.args.count - c.loop-index.index) _ (omega arith))
    c.loop-index.invariant.same
