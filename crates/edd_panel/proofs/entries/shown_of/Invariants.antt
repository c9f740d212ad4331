use Rattle.edd_image.specs.Fields.{counts_in}
use Rattle.edd_panel.specs.Edits.{reads_of}
use Rattle.edd_panel.proofs.ShownLines.{ShowsFrom}
use Rattle.edd_panel.proofs.entries.shown_of.Given as goal

abbrev pub invariant-loop-line : goal.invariant-loop-line
invariant-loop-line l = ShowsFrom (counts_in l.image) (reads_of l.image l.values.numbers.items)
    l.written l.line-index l.shown.items
