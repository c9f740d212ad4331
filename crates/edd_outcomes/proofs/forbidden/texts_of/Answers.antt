use Rattle.std.proofs.Common.{◌∙◌}
use Rattle.edd_outcomes.proofs.Printing.{printed_step}
use Rattle.edd_outcomes.proofs.forbidden.texts_of.Goals as goal

pub loop-line-preserved : goal.loop-line-preserved
loop-line-preserved c = λ text.
    printed_step c.loop-line.printed c.insert.new.self c.loop-line.line-index c.args.seen.now _ text
    c.loop-line-test.true c.in_ok-insert.ensures.updates ∙ c.loop-line.invariant text
