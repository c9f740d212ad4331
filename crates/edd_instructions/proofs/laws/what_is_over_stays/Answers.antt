use Rattle.edd_instructions.proofs.StaysOver.{stays_over_following}
use Rattle.edd_instructions.proofs.laws.what_is_over_stays.Goals as goal

pub returns : goal.returns
returns c = stays_over_following
