use Rattle.edd_instructions.proofs.NextStates.{opens}
use Rattle.edd_instructions.proofs.laws.openings_are_states.Goals as goal

pub returns : goal.returns
returns c = λ context env code values valid count are. opens context env code values valid count are
