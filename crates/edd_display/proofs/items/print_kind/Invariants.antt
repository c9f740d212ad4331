use Rattle.std.specs.List.{flat_map, range_with_len}
use Rattle.edd_syntax.specs.Numbers.{item_number}
use Rattle.edd_image.specs.Contents.{contents_in}
use Rattle.edd_display.specs.Shown.{Prints, item_entries}
use Rattle.edd_display.proofs.items.print_kind.Given as goal

abbrev pub invariant-loop-number : goal.invariant-loop-number
invariant-loop-number g l =
    Prints l.page.image.now l.values.numbers.items l.page.language.now
    (flat_map (λ n. item_entries (contents_in l.page.image.now) (item_number l.kind n))
    (range_with_len 0 l.number))
    (g.W.Write.contents l.initial.out) (g.W.Write.contents l.out)
