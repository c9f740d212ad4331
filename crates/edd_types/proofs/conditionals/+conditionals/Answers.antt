use Rattle.std.proofs.Common.{rules, false, arith}
use Rattle.std.specs.Prelude.{is_some}
use Rattle.edd_breaches.specs.Along.{told_along}
use Rattle.edd_types.specs.Conditionals.{has_default, arm_told}
use Rattle.edd_breaches.proofs.AlongLaws.{tells_on}
use Rattle.edd_types.proofs.Weights.{element_is_smaller, arm_is_smaller}
use Rattle.edd_types.proofs.conditionals.+conditionals.Goals as goal

pub tell_arms-tell_arm-requires : goal.tell_arms-tell_arm-requires
tell_arms-tell_arm-requires g t c κs within = search (rules, arm_is_smaller)

pub tell_conds-tell_cond-requires : goal.tell_conds-tell_cond-requires
tell_conds-tell_cond-requires g t c κs within = search (rules, element_is_smaller)

pub tell_arms-loop-arm-preserved : goal.tell_arms-loop-arm-preserved
tell_arms-loop-arm-preserved g t c =
    tells_on (arm_told c.args.sought (g.V.TellValue.told_in c.args.sought)) has_default
    (told_along (arm_told c.args.sought (g.V.TellValue.told_in c.args.sought)) has_default false
    c.args.arms.now) c.args.told.now.items c.loop-arm.told.items c.tell_arm.new.told.items
    (is_some c.loop-arm.default) (is_some c.default_after-default.result) c.loop-arm.arm-index
    c.args.arms.now c.arm-item.result c.default_after-default.ensures (omega arith) c.arm-item.is
    c.loop-arm.invariant c.in_ok-tell_arm.ensures.told
