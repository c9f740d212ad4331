use Rattle.edd_instructions.proofs.ReadIsSpelled.{stands_spelled}
use Rattle.edd_instructions.proofs.laws.read_is_spelled.Goals as goal

pub returns : goal.returns
returns c = λ code place i next are e. stands_spelled code place i next are e
