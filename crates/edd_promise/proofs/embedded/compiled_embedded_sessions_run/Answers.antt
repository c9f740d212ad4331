use Rattle.edd_promise.proofs.ShownRuns.{session_begins, session_over}
use Rattle.edd_promise.proofs.embedded.compiled_embedded_sessions_run.Goals as goal

pub returns-clause-over : goal.returns-clause-over
returns-clause-over c = λ text b is method device past p values now stands ended.
    session_over is.accepted.resolved b is.valid is.agrees method device past now stands.session ended

pub returns-clause-spent : goal.returns-clause-spent
returns-clause-spent c = λ text b is method device past p values now stands spent.
    session_begins is.accepted.resolved b is.valid is.agrees method device past now stands.session
    spent
