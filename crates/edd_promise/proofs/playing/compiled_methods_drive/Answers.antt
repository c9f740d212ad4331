use Rattle.edd_promise.proofs.ShownRuns.{drive_begins, drive_over}
use Rattle.edd_promise.proofs.playing.compiled_methods_drive.Goals as goal

pub returns-clause-over : goal.returns-clause-over
returns-clause-over c = λ text b is method device steps pairs now drives ended.
    drive_over is.accepted.resolved b is.valid is.agrees method device steps pairs now drives ended

pub returns-clause-spent : goal.returns-clause-spent
returns-clause-spent c = λ text b is method device steps pairs now drives spent.
    drive_begins is.accepted.resolved b is.valid is.agrees method device steps pairs now drives
    spent
