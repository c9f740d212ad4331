use Rattle.edd_machine.proofs.Answering.{answered_there}
use Rattle.edd_machine.proofs.laws.answers_stay_in_the_unit.Goals as goal

pub returns : goal.returns
returns c = λ b u s r answer is asks valid. answered_there b u s r answer is asks valid
