use Rattle.edd_code.proofs.ExpressionSizes.{is_short}
use Rattle.edd_code.proofs.expression_laws.expressions_are_short.Goals as goal

pub returns : goal.returns
returns c = is_short
