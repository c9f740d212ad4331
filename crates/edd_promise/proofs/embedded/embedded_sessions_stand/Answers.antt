use Rattle.edd_promise.proofs.Standing.{sessions_stand}
use Rattle.edd_promise.proofs.embedded.embedded_sessions_stand.Goals as goal

pub returns : goal.returns
returns c = λ b method device past p values comes. sessions_stand b method device past p values comes
