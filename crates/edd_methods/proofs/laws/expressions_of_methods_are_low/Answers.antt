use Rattle.edd_methods.proofs.ResolvedHeights.{body_is_low}
use Rattle.edd_methods.proofs.laws.expressions_of_methods_are_low.Goals as goal

pub returns : goal.returns
returns c = body_is_low
