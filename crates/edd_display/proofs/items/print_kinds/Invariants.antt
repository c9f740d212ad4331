use Rattle.std.proofs.Common.{take}
use Rattle.std.specs.List.{flat_map}
use Rattle.edd_image.specs.Contents.{contents_in}
use Rattle.edd_display.specs.Shown.{Prints, kinds, kind_entries}
use Rattle.edd_display.proofs.items.print_kinds.Given as goal

abbrev pub invariant-loop-kind : goal.invariant-loop-kind
invariant-loop-kind g l =
    Prints l.page.image.now l.values.numbers.items l.page.language.now
    (flat_map (kind_entries (contents_in l.page.image.now)) (take l.kind-index kinds))
    (g.W.Write.contents l.initial.out) (g.W.Write.contents l.out)
