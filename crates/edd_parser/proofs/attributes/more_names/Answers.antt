use Rattle.std.proofs.Common.{arith}
use Rattle.std.proofs.lemmas.Grind.{common_steps}
use Rattle.edd_parser.proofs.ClassNames.{one_more_name}
use Rattle.edd_parser.proofs.attributes.more_names.Goals as goal

pub loop-name-preserved : goal.loop-name-preserved
loop-name-preserved c =
    let h = one_more_name _ _ _ c.in-Some.ensures in
    let m = c.in_ok-push.ensures.items in
    let s = c.in_ok-new.ensures in
    (grind (arith, common_steps, h.0), grind (arith, common_steps, h.1))
