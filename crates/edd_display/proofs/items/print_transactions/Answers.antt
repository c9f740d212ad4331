use Rattle.std.proofs.Common.{◌≡◌, ◌∙◌, sym, arith}
use Rattle.edd_image.specs.Contents.{contents_in}
use Rattle.edd_display.specs.Shown.{transaction_entries}
use Rattle.edd_display.proofs.Positions.{all_there, ends_at, from_first, one_more}
use Rattle.edd_display.proofs.Printing.{prints_end, prints_nothing, prints_numbers}
use Rattle.edd_display.proofs.items.print_transactions.Goals as goal

pub loop-sub-init : goal.loop-sub-init
loop-sub-init g c = (
  from_first (contents_in c.args.page.now.image.now) c.args.item,
  prints_nothing _ _ _ (g.W.Write.contents c.args.out.now),
)

pub loop-sub-preserved : goal.loop-sub-preserved
loop-sub-preserved g c = (
  one_more (contents_in c.args.page.now.image.now) c.args.item c.loop-sub.sub c.loop-sub-test.true
      (sym c.in_ok-exists.ensures.exists ∙ c.if-not-exists.false) c.loop-sub.invariant.0,
  prints_numbers _ _ _ (transaction_entries c.args.item) c.loop-sub.sub _
      (g.W.Write.contents c.loop-sub.out) _
      c.loop-sub.invariant.1 (rw c.if-not-exists.false at c.in_ok-exists.ensures.sound),
)

pub returns-clause-sound : goal.returns-clause-sound
returns-clause-sound g c =
    let last : c.loop-sub.sub ≡ 65536 =
    omega (arith, c.loop-sub.auto.sub-end, c.loop-sub-test.false) in
    rw (all_there (contents_in c.args.page.now.image.now) c.args.item c.loop-sub.sub last
    c.loop-sub.invariant.0) c.loop-sub.invariant.1

pub returns-then-not-exists-clause-sound : goal.returns-then-not-exists-clause-sound
returns-then-not-exists-clause-sound g c =
    rw (ends_at (contents_in c.args.page.now.image.now) c.args.item c.loop-sub.sub
    c.loop-sub-test.true (sym c.in_ok-exists.ensures.exists ∙ c.if-not-exists.true)
    c.loop-sub.invariant.0)
    (prints_end _ _ _ _ _ (g.W.Write.contents c.loop-sub.out) _ c.loop-sub.invariant.1
    (rw c.if-not-exists.true at c.in_ok-exists.ensures.sound))
