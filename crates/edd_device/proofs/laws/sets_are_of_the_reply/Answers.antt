use Rattle.edd_device.proofs.NamedSets.{named}
use Rattle.edd_device.proofs.laws.sets_are_of_the_reply.Goals as goal

pub returns : goal.returns
returns c = λ instrument device reply values sets e. named instrument device reply values sets e
