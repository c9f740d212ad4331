use Rattle.std.proofs.Common.{arith}
use Rattle.std.proofs.lemmas.Grind.{common_steps}
use Rattle.edd_machine.proofs.Tops.{set_last}
use Rattle.edd_machine.proofs.operands.Operands.set_top.Goals as goal

pub returns : goal.returns
returns c = grind (arith, common_steps, set_last)
