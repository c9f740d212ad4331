use Rattle.std.proofs.Common.{arith}
use Rattle.edd_instructions.specs.declared.rules.Rule.TheVariants as rule
use Rattle.edd_loader.proofs.RuleOrder.{sections_fill}
use Rattle.edd_loader.proofs.checks.broken_in_code.Goals as goal

pub broken_in_units-requires-clause-sections : goal.broken_in_units-requires-clause-sections
broken_in_units-requires-clause-sections c = sections_fill _ 108 (omega arith) c.requires

pub broken_in_units-requires-clause-rows : goal.broken_in_units-requires-clause-rows
broken_in_units-requires-clause-rows c = c.requires rule.Row (omega arith)

pub broken_in_units-requires-clause-version : goal.broken_in_units-requires-clause-version
broken_in_units-requires-clause-version c = c.requires rule.Version (omega arith)
