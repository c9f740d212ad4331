use Rattle.std.proofs.Common.{take}
use Rattle.std.specs.List.{flat_map}
use Rattle.edd_image.specs.Contents.{contents_in}
use Rattle.edd_display.specs.Shown.{Prints, attributes, attribute_entries}
use Rattle.edd_display.proofs.items.print_attributes.Given as goal

abbrev pub invariant-loop-attr : goal.invariant-loop-attr
invariant-loop-attr g l =
    Prints l.page.image.now l.values.numbers.items l.page.language.now
    (flat_map (attribute_entries (contents_in l.page.image.now) l.item)
    (take l.attr-index attributes))
    (g.W.Write.contents l.initial.out) (g.W.Write.contents l.out)
