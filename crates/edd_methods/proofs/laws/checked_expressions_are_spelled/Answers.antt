use Rattle.edd_methods.proofs.CheckedMethods.{expressions_stand}
use Rattle.edd_methods.proofs.BodyFacts.{body_facts}
use Rattle.edd_methods.proofs.laws.checked_expressions_are_spelled.Goals as goal

pub returns : goal.returns
returns c = λ d is m. expressions_stand d m (body_facts d is m)
