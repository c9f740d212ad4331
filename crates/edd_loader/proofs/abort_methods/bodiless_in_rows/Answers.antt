use Rattle.std.proofs.Common.{◌-◌, length, arith, sym, ap, ◌∙◌}
use Rattle.std.specs.Option.{is_none}
use Rattle.edd_image.specs.Contents.{AttributeFields, attribute_fields, contents_in}
use Rattle.edd_loader.specs.AbortMethods.{is_body_or_adds, row_adds_with_body}
use Rattle.edd_loader.specs.Sections.{lies_within}
use Rattle.edd_loader.proofs.RowTurns.{row_at, no_row, each_goes, each_fails, each_done, first_passes, rest_passes}
use Rattle.edd_loader.proofs.abort_methods.bodiless_in_rows.Goals as goal

pub bodiless_in_row-requires-clause-within : goal.bodiless_in_row-requires-clause-within
bodiless_in_row-requires-clause-within c =
    let here = row_at (attribute_fields c.args.bytes.now) 16 c.args.count c.args.start
    c.loop-row.row c.loop-row-test.true in
    first_passes (λ (r : AttributeFields). lies_within (length c.args.code.now) r.span) _ _ _ here
    c.loop-row.invariant.within

pub bodiless_in_row-requires-clause-others : goal.bodiless_in_row-requires-clause-others
bodiless_in_row-requires-clause-others c =
    let here = row_at (attribute_fields c.args.bytes.now) 16 c.args.count c.args.start
    c.loop-row.row c.loop-row-test.true in
    first_passes (is_body_or_adds (contents_in c.args.bytes.now) c.args.code.now) _ _ _ here
    c.loop-row.invariant.others

pub returns-in-Some : goal.returns-in-Some
returns-in-Some c =
    let here = row_at (attribute_fields c.args.bytes.now) 16 c.args.count c.args.start
    c.loop-row.row c.loop-row-test.true in
    each_fails (row_adds_with_body (contents_in c.args.bytes.now) c.args.code.now) _ _ _ _ here
    (sym c.bodiless_in_row.ensures ∙ ap is_none c.in-Some.is)
    c.loop-row.invariant.same

pub loop-row-preserved : goal.loop-row-preserved
loop-row-preserved c =
    let here = row_at (attribute_fields c.args.bytes.now) 16 c.args.count c.args.start
    c.loop-row.row c.loop-row-test.true in
    let before = c.loop-row.invariant in
    record {
      within = rest_passes (λ (r : AttributeFields). lies_within (length c.args.code.now) r.span) _
          _ _ here before.within;
      others = rest_passes (is_body_or_adds (contents_in c.args.bytes.now) c.args.code.now) _ _ _
          here before.others;
      same = each_goes (row_adds_with_body (contents_in c.args.bytes.now) c.args.code.now) _ _ _ _
          here (sym c.bodiless_in_row.ensures ∙ ap is_none c.in_default.is) before.same;
    }

pub returns : goal.returns
returns c = each_done (row_adds_with_body (contents_in c.args.bytes.now) c.args.code.now) _ _
    (no_row (attribute_fields c.args.bytes.now) 16 (c.args.count - c.loop-row.row) _
    (omega arith)) c.loop-row.invariant.same
