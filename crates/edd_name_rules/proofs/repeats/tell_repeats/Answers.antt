use Rattle.std.proofs.Common.{arith}
use Rattle.edd_breaches.proofs.TellLaws.{tells_more}
use Rattle.edd_name_rules.specs.WordsTold.{words_told_in}
use Rattle.edd_name_rules.proofs.repeats.tell_repeats.Goals as goal

pub loop-item-preserved : goal.loop-item-preserved
loop-item-preserved c =
    tells_more words_told_in c.loop-item.item-index c.args.items.now c.item-item.result
    c.args.told.now.items c.loop-item.told.items c.tell_in_item.new.told.items (omega arith)
    c.item-item.is c.loop-item.invariant c.in_ok-tell_in_item.ensures.told
