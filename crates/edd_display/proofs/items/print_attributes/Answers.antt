use Rattle.edd_image.specs.Contents.{contents_in}
use Rattle.edd_display.specs.Shown.{attributes, attribute_entries}
use Rattle.edd_display.proofs.Printing.{prints_items}
use Rattle.edd_display.proofs.items.print_attributes.Goals as goal

pub loop-attr-preserved : goal.loop-attr-preserved
loop-attr-preserved g c =
    prints_items _ _ _ (attribute_entries (contents_in c.args.page.now.image.now) c.args.item)
    attributes c.loop-attr.attr-index _ _ (g.W.Write.contents c.loop-attr.out) _
    c.loop-attr-test.true c.loop-attr.invariant c.in_ok-print_attribute.ensures.sound
