use Rattle.edd_promise.proofs.Used.{ignores}
use Rattle.edd_promise.proofs.sessions.answers_left_over_change_nothing.Goals as goal

pub returns : goal.returns
returns c = λ d steps s answers others other. ignores d steps s answers other others
