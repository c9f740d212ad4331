use Rattle.edd_methods.proofs.CodeSpelled.{values_spelled}
use Rattle.edd_methods.proofs.laws.bodies_are_spelled.Goals as goal

pub returns : goal.returns
returns c = values_spelled
