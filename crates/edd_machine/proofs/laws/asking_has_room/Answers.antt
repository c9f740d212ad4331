use Rattle.edd_machine.proofs.Answering.{asking_room}
use Rattle.edd_machine.proofs.laws.asking_has_room.Goals as goal

pub returns : goal.returns
returns c = λ b u s r is asks. asking_room _ _ s r is.state asks
