use Rattle.std.proofs.Common.{arith, sym, ap, ◌∙◌}
use Rattle.edd_device.proofs.Firsts.{passes}
use Rattle.edd_device.proofs.names.method_named.Goals as goal

pub loop-number-preserved : goal.loop-number-preserved
loop-number-preserved c = c.loop-number.invariant ∙ passes _ _ c.loop-number.number
    (omega (arith, c.loop-number-test.true, ap (λ n. n.methods) c.counts-number-end.ensures))
    (sym c.is_named.ensures ∙ c.if-is_named.false)
