use Rattle.edd_octets.proofs.Arriving.{telling}
use Rattle.edd_octets.proofs.laws.octets_tell_bits.Goals as goal

pub returns : goal.returns
returns c = telling
