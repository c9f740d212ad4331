use Rattle.edd_methods.proofs.ValidMethods.{code_is_valid}
use Rattle.edd_methods.proofs.BodyFacts.{body_facts}
use Rattle.edd_methods.proofs.laws.checked_code_is_valid.Goals as goal

pub returns : goal.returns
returns c = λ d is m. code_is_valid d m (body_facts d is m)
