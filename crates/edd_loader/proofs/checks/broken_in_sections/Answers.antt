use Rattle.std.proofs.Common.{arith}
use Rattle.edd_loader.proofs.RuleOrder.{sections_fill}
use Rattle.edd_loader.proofs.checks.broken_in_sections.Goals as goal

pub broken_row-requires : goal.broken_row-requires
broken_row-requires c = sections_fill _ 105 (omega arith) c.requires

pub broken_name-requires-clause-sections : goal.broken_name-requires-clause-sections
broken_name-requires-clause-sections c = sections_fill _ 105 (omega arith) c.requires

pub broken_string-requires-clause-sections : goal.broken_string-requires-clause-sections
broken_string-requires-clause-sections c = sections_fill _ 105 (omega arith) c.requires
