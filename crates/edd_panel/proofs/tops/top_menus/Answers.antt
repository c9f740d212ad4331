use Rattle.std.proofs.Common.{◌≡◌, List, Bool, length, ap, ◌∙◌, arith}
use Rattle.std.proofs.lemmas.Result.{IfOk-weaker}
use Rattle.edd_image.specs.declared.parts.Counts.{Counts}
use Rattle.edd_image.specs.Fields.{counts_in}
use Rattle.edd_panel.specs.Edits.{reads_of}
use Rattle.edd_panel.specs.Screens.{records_of, tops_of}
use Rattle.edd_panel.proofs.TopMarks.{as_long, marks_all, marks_step}
use Rattle.edd_panel.proofs.tops.top_menus.Goals as goal

pub loop-number-preserved : goal.loop-number-preserved
loop-number-preserved c = record {
  marked = marks_step (counts_in c.args.image.now)
      (reads_of c.args.image.now c.args.values.now.numbers.items) _ c.loop-number.number
      c.loop-number.named.items c.mark_named.new.named.items c.in_ok-mark_named.ensures.0
      c.in_ok-mark_named.ensures.1 c.in_ok-mark_named.ensures.2 c.loop-number.invariant.marked;
  long = ap (λ (xs : List Bool). length xs) c.in_ok-mark_named.ensures.2
      ∙ as_long c.loop-number.number (records_of c.in_ok-mark_named.ensures.0)
      c.loop-number.named.items ∙ c.loop-number.invariant.long;
}

pub returns : goal.returns
returns c = IfOk-weaker c.unmarked.result (λ menus. menus.items ≡ tops_of c.deref.result.now) _
    (λ menus are. marks_all (counts_in c.args.image.now)
    (reads_of c.args.image.now c.args.values.now.numbers.items) c.counts-count.result.menus
    c.loop-number.number c.loop-number.named.items menus.items
    (ap (λ (x : Counts). x.menus) c.counts-count.ensures)
    (grind (arith, c.loop-number-test.false, c.loop-number.auto.number-end))
    (are ∙ ap tops_of c.deref.ensures.value) c.loop-number.invariant.marked)
    c.unmarked.ensures
