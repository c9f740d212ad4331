use Rattle.edd_code.proofs.MethodSizes.{is_short}
use Rattle.edd_code.proofs.method_laws.method_expressions_are_short.Goals as goal

pub returns : goal.returns
returns c = is_short
