use Rattle.std.proofs.Common.{arith}
use Rattle.std.proofs.lemmas.Grind.{common_steps}
use Rattle.edd_assembly.proofs.RowCounts.{header_small}
use Rattle.edd_assembly.proofs.parts.check_length.Goals as goal

pub overflow_add-total-6 : goal.overflow_add-total-6
overflow_add-total-6 c = grind (arith, common_steps, header_small c.args.version)

pub overflow_add-total-7 : goal.overflow_add-total-7
overflow_add-total-7 c = grind (arith, common_steps, header_small c.args.version)
