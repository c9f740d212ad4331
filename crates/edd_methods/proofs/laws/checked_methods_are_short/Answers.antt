use Rattle.edd_methods.proofs.CheckedMethods.{code_is_short}
use Rattle.edd_methods.proofs.BodyFacts.{body_facts}
use Rattle.edd_methods.proofs.laws.checked_methods_are_short.Goals as goal

pub returns : goal.returns
returns c = λ d is m. code_is_short d m (body_facts d is m)
