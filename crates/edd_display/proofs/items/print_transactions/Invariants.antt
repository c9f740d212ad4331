use Rattle.std.specs.List.{flat_map, range_with_len}
use Rattle.edd_image.specs.Contents.{contents_in}
use Rattle.edd_display.specs.Shown.{Prints, transaction_entries}
use Rattle.edd_display.proofs.Positions.{AllBelow}
use Rattle.edd_display.proofs.items.print_transactions.Given as goal

abbrev pub invariant-loop-sub : goal.invariant-loop-sub
invariant-loop-sub g l =
    AllBelow (contents_in l.page.image.now) l.item l.sub
    × Prints l.page.image.now l.values.numbers.items l.page.language.now
    (flat_map (transaction_entries l.item) (range_with_len 0 l.sub))
    (g.W.Write.contents l.initial.out) (g.W.Write.contents l.out)
