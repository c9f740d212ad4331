use Rattle.edd_promise.proofs.ShownRuns.{play_refused, shown_begins, shown_of, shown_on, shown_over}
use Rattle.edd_promise.proofs.playing.compiled_methods_play.Goals as goal

pub returns-clause-over : goal.returns-clause-over
returns-clause-over c = λ text b is method device answers steps shown plays all ended.
    shown_over is.accepted.resolved b is.valid is.agrees method device answers all steps shown plays
    ended

pub returns-clause-spent : goal.returns-clause-spent
returns-clause-spent c = λ text b is method device answers steps shown plays all spent.
    shown_begins is.accepted.resolved b is.valid is.agrees method device answers all steps shown
    plays spent

pub returns-clause-plays : goal.returns-clause-plays
returns-clause-plays c = λ text b is method device answers turns are all ended.
    shown_of is.accepted.resolved b is.valid is.agrees method device answers all are turns ended

pub returns-clause-in_progress : goal.returns-clause-in_progress
returns-clause-in_progress c = λ text b is method device answers turns are all going.
    shown_on is.accepted.resolved b is.valid is.agrees method device answers all are turns going

pub returns-clause-refused : goal.returns-clause-refused
returns-clause-refused c = λ text b is method device answers steps fault refused all.
    play_refused is.accepted.resolved b is.valid is.agrees method device answers all steps fault
    refused
