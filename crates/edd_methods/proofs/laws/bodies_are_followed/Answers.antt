use Rattle.edd_methods.proofs.MethodAgreement.{body_follows}
use Rattle.edd_methods.proofs.laws.bodies_are_followed.Goals as goal

pub returns : goal.returns
returns c = body_follows
