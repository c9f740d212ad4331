use Rattle.edd_octets.proofs.ReceivedLaws.{length_encoded}
use Rattle.edd_octets.proofs.laws.lengths_are_known.Goals as goal

pub returns : goal.returns
returns c = λ types values fields. length_encoded types values fields
