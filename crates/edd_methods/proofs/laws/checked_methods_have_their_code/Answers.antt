use Rattle.edd_methods.proofs.CheckedMethods.{has_method_code}
use Rattle.edd_methods.proofs.BodyFacts.{body_facts}
use Rattle.edd_methods.proofs.laws.checked_methods_have_their_code.Goals as goal

pub returns : goal.returns
returns c = λ d is m. has_method_code d m (body_facts d is m)
