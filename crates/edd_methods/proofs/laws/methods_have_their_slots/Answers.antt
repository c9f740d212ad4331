use Rattle.edd_methods.proofs.ResolvedBodies.{body_keeps}
use Rattle.edd_methods.proofs.laws.methods_have_their_slots.Goals as goal

pub returns-clause-few : goal.returns-clause-few
returns-clause-few c = λ d is m. (body_keeps d is m).0

pub returns-clause-each : goal.returns-clause-each
returns-clause-each c = λ d is m. (body_keeps d is m).1
