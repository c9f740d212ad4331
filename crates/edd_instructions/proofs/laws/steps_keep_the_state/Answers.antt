use Rattle.edd_instructions.proofs.NextStates.{next_state}
use Rattle.edd_instructions.proofs.laws.steps_keep_the_state.Goals as goal

pub returns : goal.returns
returns c = λ context env s valid is running. next_state context env s valid is running
