use Rattle.std.proofs.Common.{false, true, ap, sym, ◌∙◌}
use Rattle.std.specs.Prelude.{is_none}
use Rattle.edd_outcomes.specs.Expected.{texts}
use Rattle.edd_outcomes.proofs.Printing.{lacks_step}
use Rattle.edd_outcomes.proofs.forbidden.find_forbidden.Goals as goal

pub returns-in-Some : goal.returns-in-Some
returns-in-Some c =
    sym (lacks_step c.args.lines.now c.loop-line.line-index _ (texts c.args.seen.now) false
    c.loop-line-test.true
    (ap is_none (sym c.in-Some.is) ∙ c.forbidden_in.ensures (texts c.args.seen.now) c.in_ok-printed.ensures))
    ∙ c.loop-line.invariant

pub loop-line-preserved : goal.loop-line-preserved
loop-line-preserved c =
    sym (lacks_step c.args.lines.now c.loop-line.line-index _ (texts c.args.seen.now) true
    c.loop-line-test.true
    (ap is_none (sym c.in-None.is) ∙ c.forbidden_in.ensures (texts c.args.seen.now) c.in_ok-printed.ensures))
    ∙ c.loop-line.invariant
