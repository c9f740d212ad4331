use Rattle.edd_instructions.proofs.UniqueReadings.{unique}
use Rattle.edd_instructions.proofs.laws.readings_are_unique.Goals as goal

pub returns : goal.returns
returns c = λ b ref values r q first second. unique b ref values r q first second
