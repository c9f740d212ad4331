use Rattle.std.proofs.Common.{arith}
use Rattle.edd_types.specs.Expressions.{optional_told}
use Rattle.edd_breaches.proofs.TellLaws.{tells_more}
use Rattle.edd_types.proofs.statements.tell_declarators.Goals as goal

pub loop-d-preserved : goal.loop-d-preserved
loop-d-preserved c =
    tells_more (λ d. optional_told c.args.sought d.value) c.loop-d.d-index c.args.declarators.now
    c.d-item.result c.args.told.now.items c.loop-d.told.items c.tell_optional.new.told.items
    (omega arith) c.d-item.is c.loop-d.invariant c.in_ok-tell_optional.ensures.told
