use Rattle.edd_port.proofs.Accepted.{ready, sets_first}
use Rattle.edd_port.proofs.laws.sets_may_be_made_first.Goals as goal

pub returns : goal.returns
returns c = record { asks = ready; state = sets_first }
