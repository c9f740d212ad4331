use Rattle.std.proofs.Common.{◌+◌, ◌*◌, ◌-◌, length, arith}
use Rattle.std.specs.List.{AllByRecursion}
use Rattle.edd_instructions.specs.declared.rules.UnitRule.{UnitRule}
use Rattle.edd_image.specs.Contents.{attribute_fields, rows_from, AttributeFields}
use Rattle.edd_instructions.specs.Units.{UnitKeeps}
use Rattle.edd_loader.specs.Sections.{lies_within}
use Rattle.edd_loader.specs.UnitRows.{RowKeeps}
use Rattle.edd_unit_rules.specs.BrokenRule.{rule_in}
use Rattle.edd_loader.proofs.BrokenUnits.{keeps_before, breaks_all, before_both, one_of}
use Rattle.edd_loader.proofs.RowTurns.{row_at, no_row, first_passes, rest_passes, span_inside}
use Rattle.edd_loader.proofs.UnitTurns.{first_holds, rest_holds, both_hold, none_hold, holds_here, kept_here}
use Rattle.edd_loader.proofs.units.broken_in_rows.Goals as goal

pub part-unit-requires : goal.part-unit-requires
part-unit-requires c =
    let here = row_at (attribute_fields c.args.bytes.now) 16 c.args.count c.args.start
    c.loop-index.index c.loop-index-test.true in
    span_inside _ _ _ _ c.attribute_start-place.ensures c.attribute_length-size.ensures
    (first_passes (λ (r : AttributeFields). lies_within (length c.args.code.now) r.span) _ _ _
    here c.loop-index.invariant.within)

pub loop-index-preserved : goal.loop-index-preserved
loop-index-preserved c =
    let row = attribute_fields c.args.bytes.now (c.args.start + 16 * c.loop-index.index) in
    let here = row_at (attribute_fields c.args.bytes.now) 16 c.args.count c.args.start
    c.loop-index.index c.loop-index-test.true in
    let before = c.loop-index.invariant in
    let keeps : UnitRule → AttributeFields
    → Type 0 = RowKeeps c.args.version c.args.counts c.args.code.now in
    let all = rows_from (attribute_fields c.args.bytes.now) 16 c.args.count c.args.start in
    let found = c.in_ok-found.ensures in
    record {
      within = rest_passes (λ (r : AttributeFields). lies_within (length c.args.code.now) r.span) _
          _ _ here before.within;
      kept = λ earlier lt others.
          let both = before_both (rule_in c.loop-index.broken) (rule_in c.in_ok-found.found) _
          (rw c.first_of-broken.ensures at lt) in
          let first = holds_here (λ context unit. UnitKeeps context unit earlier) _ _ _ _ row _ _ _
          c.context_of-context.ensures c.part-unit.ensures c.attribute_start-place.ensures
          c.attribute_length-size.ensures (keeps_before _ _ _ earlier found both.1) in
          before.kept earlier both.0 (both_hold (keeps earlier) _ _ _ here first others);
      back = λ which every. rest_holds (keeps which) _ _ _ here (before.back which every);
      broken = rw c.first_of-broken.ensures (one_of (λ which. ¬ AllByRecursion (keeps which) all)
          (rule_in c.loop-index.broken) (rule_in c.in_ok-found.found) before.broken
          (breaks_all _ _ (rule_in c.in_ok-found.found) (λ which. AllByRecursion (keeps which) all) found
          (λ which every. kept_here _ _ _ _ row _ _ _ which c.context_of-context.ensures
          c.part-unit.ensures c.attribute_start-place.ensures c.attribute_length-size.ensures
          (first_holds (keeps which) _ _ _ here (before.back which every)))));
    }

pub returns-clause-kept : goal.returns-clause-kept
returns-clause-kept c =
    let none = no_row (attribute_fields c.args.bytes.now) 16 (c.args.count - c.loop-index.index) _
    (omega arith) in
    λ earlier lt. c.loop-index.invariant.kept earlier lt
    (none_hold (RowKeeps c.args.version c.args.counts c.args.code.now earlier) _ none)
