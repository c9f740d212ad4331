use Rattle.edd_methods.proofs.CheckedBodies.{body_fits}
use Rattle.edd_methods.proofs.laws.calls_of_methods_fit.Goals as goal

pub returns : goal.returns
returns c = body_fits
