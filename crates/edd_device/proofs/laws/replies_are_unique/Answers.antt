use Rattle.edd_device.proofs.UniqueReplies.{reply}
use Rattle.edd_device.proofs.laws.replies_are_unique.Goals as goal

pub returns : goal.returns
returns c = λ s values request r q first second. reply s values request r q first second
