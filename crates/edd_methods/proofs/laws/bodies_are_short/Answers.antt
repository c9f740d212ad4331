use Rattle.edd_methods.proofs.CodeSizes.{body_size}
use Rattle.edd_methods.proofs.laws.bodies_are_short.Goals as goal

pub returns : goal.returns
returns c = body_size
