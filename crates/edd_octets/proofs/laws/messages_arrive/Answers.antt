use Rattle.edd_octets.proofs.Arriving.{arriving}
use Rattle.edd_octets.proofs.laws.messages_arrive.Goals as goal

pub returns : goal.returns
returns c = arriving
