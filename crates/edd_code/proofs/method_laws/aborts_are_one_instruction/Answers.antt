use Rattle.edd_code.proofs.AbortBlocks.{is_abort_alone}
use Rattle.edd_code.proofs.method_laws.aborts_are_one_instruction.Goals as goal

pub returns : goal.returns
returns c = is_abort_alone
