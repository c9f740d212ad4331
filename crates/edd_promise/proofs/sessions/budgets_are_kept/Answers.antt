use Rattle.edd_image.specs.Contents.{contents_in}
use Rattle.edd_instructions.specs.AbortMethods.{next, start_in}
use Rattle.edd_instructions.specs.Reading.{environment_of}
use Rattle.edd_instructions.proofs.StepCounts.{at_most_following}
use Rattle.std.proofs.Common.{[]}
use Rattle.edd_promise.proofs.sessions.budgets_are_kept.Goals as goal

pub returns : goal.returns
returns c = λ r budget.
    at_most_following (next (start_in (contents_in r.image))) (environment_of (contents_in r.image))
    budget r.state []
