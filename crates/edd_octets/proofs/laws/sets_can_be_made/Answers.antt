use Rattle.edd_octets.proofs.Settable.{settable}
use Rattle.edd_octets.proofs.laws.sets_can_be_made.Goals as goal

pub returns : goal.returns
returns c = settable
