use Rattle.std.proofs.Common.{◌∙◌, ◌∷◌, [], ◌++◌, ap, arith}
use Rattle.edd_syntax.specs.declared.numbers.ItemNo.TheVariants as items
use Rattle.edd_panel.specs.declared.entries.Entry.{Entry}
use Rattle.edd_panel.specs.declared.entries.Listed.TheVariants as listed
use Rattle.edd_panel.proofs.ShownLines.{numbered_step}
use Rattle.edd_panel.proofs.entries.add_variables.Goals as goal

pub loop-number-preserved : goal.loop-number-preserved
loop-number-preserved c = numbered_step (λ n. items.Variable (record { 0 = n })) c.loop-number.number
    c.args.count c.args.lines.now.items c.loop-number.lines.items c.push.new.self.items
    (omega (arith, c.loop-number-test.true))
    (c.in_ok-push.ensures.items
    ∙ ap (λ (e : Entry). c.loop-number.lines.items ++ listed.Entry e ∷ []) c.plain.ensures)
    c.loop-number.invariant
