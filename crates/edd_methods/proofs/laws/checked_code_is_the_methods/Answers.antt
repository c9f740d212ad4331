use Rattle.edd_methods.proofs.ValidMethods.{is_the_methods_code}
use Rattle.edd_methods.proofs.BodyFacts.{body_facts}
use Rattle.edd_methods.proofs.laws.checked_code_is_the_methods.Goals as goal

pub returns : goal.returns
returns c = λ d is m. is_the_methods_code d m (body_facts d is m)
