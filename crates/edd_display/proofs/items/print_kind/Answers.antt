use Rattle.edd_syntax.specs.Numbers.{item_number}
use Rattle.edd_image.specs.Contents.{contents_in}
use Rattle.edd_display.specs.Shown.{item_entries}
use Rattle.edd_display.proofs.Printing.{prints_numbers}
use Rattle.edd_display.proofs.items.print_kind.Goals as goal

pub loop-number-preserved : goal.loop-number-preserved
loop-number-preserved g c =
    prints_numbers _ _ _
    (λ n. item_entries (contents_in c.args.page.now.image.now) (item_number c.args.kind n))
    c.loop-number.number _ (g.W.Write.contents c.loop-number.out) _ c.loop-number.invariant
    (rw c.item-item.ensures at c.in_ok-print_item.ensures.sound)
