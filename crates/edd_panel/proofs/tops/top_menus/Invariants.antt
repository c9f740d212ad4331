use Rattle.std.proofs.Common.{◌≡◌, length}
use Rattle.edd_image.specs.Fields.{counts_in}
use Rattle.edd_panel.specs.Edits.{reads_of}
use Rattle.edd_panel.proofs.TopMarks.{MarksFrom}
use Rattle.edd_panel.proofs.tops.top_menus.Given as goal

abbrev pub invariant-loop-number : goal.invariant-loop-number
invariant-loop-number l = record {
  marked : MarksFrom (counts_in l.image) (reads_of l.image l.values.numbers.items) l.count
      l.number l.named.items;
  long : length l.named.items ≡ l.count;
}
