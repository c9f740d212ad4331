use Rattle.std.proofs.Common.{◌≡◌, ◌<◌, true, length}
use Rattle.std.specs.Prelude.{IfSome}
use Rattle.std.specs.List.{AllByRecursion, list_all}
use Rattle.edd_instructions.specs.declared.rules.UnitRule.{UnitRule}
use Rattle.edd_instructions.specs.declared.rules.Rule.TheVariants as rule
use Rattle.edd_image.specs.Contents.{rows_from, attribute_fields}
use Rattle.edd_instructions.specs.Validity.{fault_number}
use Rattle.edd_loader.specs.Sections.{lies_within}
use Rattle.edd_loader.specs.UnitRows.{RowKeeps, fault_bound}
use Rattle.edd_unit_rules.specs.BrokenRule.{rule_in}
use Rattle.edd_loader.proofs.RowTurns.{rows_on}
use Rattle.edd_loader.proofs.units.broken_in_rows.Given as goal

abbrev pub invariant-loop-index : goal.invariant-loop-index
invariant-loop-index l = record {
  within : list_all (λ r. lies_within (length l.code) r.span)
      (rows_on (attribute_fields l.bytes) 16 l.count l.start l.index) ≡ true;
  kept : (earlier : UnitRule) → fault_number (rule.Unit earlier) < fault_bound (rule_in l.broken)
      → AllByRecursion (RowKeeps l.version l.counts l.code earlier)
      (rows_on (attribute_fields l.bytes) 16 l.count l.start l.index)
      → AllByRecursion (RowKeeps l.version l.counts l.code earlier)
      (rows_from (attribute_fields l.bytes) 16 l.count l.start);
  back : (which : UnitRule) → AllByRecursion (RowKeeps l.version l.counts l.code which)
      (rows_from (attribute_fields l.bytes) 16 l.count l.start)
      → AllByRecursion (RowKeeps l.version l.counts l.code which)
      (rows_on (attribute_fields l.bytes) 16 l.count l.start l.index);
  broken : IfSome (rule_in l.broken) (λ which. ¬ AllByRecursion (RowKeeps l.version l.counts l.code which)
      (rows_from (attribute_fields l.bytes) 16 l.count l.start));
}
