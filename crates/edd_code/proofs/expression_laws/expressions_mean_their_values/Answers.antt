use Rattle.edd_code.proofs.ExpressionValues.{means}
use Rattle.edd_code.proofs.expression_laws.expressions_mean_their_values.Goals as goal

pub returns : goal.returns
returns c = λ image_env env d e operands same. means image_env env same d e operands
