use Rattle.std.specs.Io.KnownBytes.{Appends}
use Rattle.std.specs.List.{flat_map, range_with_len}
use Rattle.edd_image.specs.Contents.{contents_in}
use Rattle.edd_display.specs.Played.{value_line}
use Rattle.edd_display.proofs.plays.print_values.Given as goal

abbrev pub invariant-loop-number : goal.invariant-loop-number
invariant-loop-number g l =
    Appends (g.W.Write.contents l.initial.out) (g.W.Write.contents l.out)
    (flat_map (value_line (contents_in l.page.image.now) l.values.numbers.items)
    (range_with_len 0 l.number))
