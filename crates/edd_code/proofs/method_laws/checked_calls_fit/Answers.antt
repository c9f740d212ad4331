use Rattle.edd_code.proofs.CheckedCalls.{calls_fit}
use Rattle.edd_code.proofs.method_laws.checked_calls_fit.Goals as goal

pub returns : goal.returns
returns c = calls_fit
