-- The rule that a fault stands for.
use Rattle.std.specs.Prelude.{Option, Some, None}
use Rattle.edd_instructions.specs.declared.rules.UnitRule.TheVariants as unit_rule
use Rattle.edd_instructions.specs.declared.rules.Rule.{Rule}
use Rattle.edd_instructions.specs.declared.rules.Rule.TheVariants as rule
use Rattle.edd_loader.specs.declared.fault.LoadFault.{LoadFault}
use Rattle.edd_loader.specs.declared.fault.LoadFault.TheVariants as fault

-- out of memory stands for none
abbrev pub rule_of : LoadFault → Option Rule
rule_of fault.Short = Some rule.Short
rule_of fault.Magic = Some rule.Magic
rule_of fault.Version = Some rule.Version
rule_of fault.Length = Some rule.Length
rule_of fault.Row = Some rule.Row
rule_of fault.Name = Some rule.Name
rule_of fault.Text = Some rule.Text
rule_of fault.Instruction = Some (rule.Unit unit_rule.Chain)
rule_of fault.Jump = Some (rule.Unit unit_rule.Jump)
rule_of fault.Depth = Some (rule.Unit unit_rule.Depth)
rule_of fault.Reference = Some (rule.Unit unit_rule.Reference)
rule_of fault.Memory = None
