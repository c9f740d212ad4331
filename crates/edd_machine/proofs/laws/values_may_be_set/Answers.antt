use Rattle.edd_machine.proofs.Answering.{set_there}
use Rattle.edd_machine.proofs.laws.values_may_be_set.Goals as goal

pub returns : goal.returns
returns c = set_there
