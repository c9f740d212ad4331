use Rattle.edd_promise.proofs.ShownRuns.{session_begins, session_ends, session_over}
use Rattle.edd_promise.proofs.playing.compiled_sessions_run.Goals as goal

pub returns-clause-over : goal.returns-clause-over
returns-clause-over c = λ text b is method device past now session ended.
    session_over is.accepted.resolved b is.valid is.agrees method device past now session ended

pub returns-clause-spent : goal.returns-clause-spent
returns-clause-spent c = λ text b is method device past now session spent.
    session_begins is.accepted.resolved b is.valid is.agrees method device past now session spent

pub returns-clause-ends : goal.returns-clause-ends
returns-clause-ends c = λ text b is method device answers turns are all ended.
    session_ends is.accepted.resolved b is.valid is.agrees method device answers are all turns ended
