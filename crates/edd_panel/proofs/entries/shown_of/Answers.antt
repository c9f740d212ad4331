use Rattle.std.proofs.Common.{arith}
use Rattle.edd_image.specs.Fields.{counts_in}
use Rattle.edd_panel.specs.Edits.{reads_of}
use Rattle.edd_panel.proofs.ShownLines.{shows_all, shows_step}
use Rattle.edd_panel.proofs.entries.shown_of.Goals as goal

pub loop-line-preserved : goal.loop-line-preserved
loop-line-preserved c = shows_step (counts_in c.args.image.now)
    (reads_of c.args.image.now c.args.values.now.numbers.items) c.args.written.now
    c.loop-line.line-index _ c.loop-line.shown.items c.add_line.new.lines.items
    c.in_ok-add_line.ensures.0 c.loop-line-test.true c.in_ok-add_line.ensures.1
    c.in_ok-add_line.ensures.2 c.loop-line.invariant

pub returns : goal.returns
returns c = shows_all (counts_in c.args.image.now)
    (reads_of c.args.image.now c.args.values.now.numbers.items) c.args.written.now
    c.loop-line.line-index c.loop-line.shown.items (omega (arith, c.loop-line-test.false))
    c.loop-line.invariant
