use Rattle.edd_promise.proofs.OneRun.{comes_of_one}
use Rattle.edd_promise.proofs.sessions.sessions_are_one_run.Goals as goal

pub returns : goal.returns
returns c = λ first now past comes. comes_of_one first past now comes
