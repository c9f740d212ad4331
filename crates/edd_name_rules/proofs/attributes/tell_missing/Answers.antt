use Rattle.std.proofs.Common.{arith}
use Rattle.edd_breaches.proofs.TellLaws.{tells_more}
use Rattle.edd_name_rules.specs.RulesTold.{missing_in}
use Rattle.edd_name_rules.proofs.attributes.tell_missing.Goals as goal

pub loop-item-preserved : goal.loop-item-preserved
loop-item-preserved c =
    tells_more missing_in c.loop-item.item-index c.args.items.now c.item-item.result
    c.args.told.now.items c.loop-item.told.items c.tell_of_item.new.told.items (omega arith)
    c.item-item.is c.loop-item.invariant c.in_ok-tell_of_item.ensures.told
