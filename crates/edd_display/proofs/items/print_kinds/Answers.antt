use Rattle.edd_image.specs.Contents.{contents_in}
use Rattle.edd_display.specs.Shown.{kinds, kind_entries}
use Rattle.edd_display.proofs.Printing.{prints_items}
use Rattle.edd_display.proofs.items.print_kinds.Goals as goal

pub loop-kind-preserved : goal.loop-kind-preserved
loop-kind-preserved g c =
    prints_items _ _ _ (kind_entries (contents_in c.args.page.now.image.now)) kinds
    c.loop-kind.kind-index _ _ (g.W.Write.contents c.loop-kind.out) _ c.loop-kind-test.true
    c.loop-kind.invariant c.in_ok-print_kind.ensures.sound
