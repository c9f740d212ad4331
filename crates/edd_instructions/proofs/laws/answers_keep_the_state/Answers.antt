use Rattle.edd_instructions.proofs.AnsweredStates.{state_again}
use Rattle.edd_instructions.proofs.laws.answers_keep_the_state.Goals as goal

pub returns : goal.returns
returns c = λ context env s r answer is asks valid. state_again context env s r answer is asks valid
