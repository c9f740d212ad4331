use Rattle.std.proofs.Common.{ap, ◌∙◌}
use Rattle.edd_image.specs.Contents.{contents_in}
use Rattle.edd_instructions.specs.AbortMethods.{next, start_in}
use Rattle.edd_port.proofs.Accepted.{next_machine}
use Rattle.edd_port.proofs.steps.go_on.Goals as goal

pub returns-clause-state : goal.returns-clause-state
returns-clause-state c = λ values. c.follow.ensures.follows values
    ∙ ap (next (start_in (contents_in c.args.image.now)))
    (c.take_code.ensures.state c.args.image.now values)

pub returns-clause-machine : goal.returns-clause-machine
returns-clause-machine c = λ values r is asks. c.follow.ensures.machine values
    (next_machine c.args.image.now c.args.machine.now c.take_code.new.machine values c.args.code r
    is asks c.take_code.ensures.fits c.take_code.ensures.unit
    (c.take_code.ensures.state c.args.image.now values))
