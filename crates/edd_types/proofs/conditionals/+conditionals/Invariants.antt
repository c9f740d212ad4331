use Rattle.std.proofs.Common.{take, map, false}
use Rattle.std.specs.Prelude.{is_some}
use Rattle.std.specs.List.{flat_map}
use Rattle.edd_breaches.specs.Told.{Tells}
use Rattle.edd_syntax.specs.Conditional.{conds_from, arms_from}
use Rattle.edd_syntax.specs.ItemView.{numbered_arm, numbered_cond}
use Rattle.edd_breaches.specs.Along.{told_along}
use Rattle.edd_types.specs.Conditionals.{has_default, cond_told, arm_told}
use Rattle.edd_breaches.proofs.AlongLaws.{Underway}
use Rattle.edd_types.proofs.Weights.{weight, weight_of_all, weight_of_arm, weight_of_arms}
use Rattle.edd_types.proofs.conditionals.+conditionals.Given as goal

abbrev pub decreases-tell_cond : goal.decreases-tell_cond
decreases-tell_cond g l = weight (numbered_cond (λ v. v) l.c.now)

abbrev pub decreases-tell_conds : goal.decreases-tell_conds
decreases-tell_conds g l = weight_of_all (conds_from (map (numbered_cond (λ v. v)) l.all.now))

abbrev pub decreases-tell_arms : goal.decreases-tell_arms
decreases-tell_arms g l = weight_of_arms (arms_from (map (numbered_arm (λ v. v)) l.arms.now))

abbrev pub decreases-tell_arm : goal.decreases-tell_arm
decreases-tell_arm g l = weight_of_arm (numbered_arm (λ v. v) l.arm.now)

-- what was told of the elements so far
abbrev pub invariant-tell_conds-loop-c : goal.invariant-tell_conds-loop-c
invariant-tell_conds-loop-c g l =
    Tells (flat_map (cond_told l.sought (g.V.TellValue.told_in l.sought)) (take l.c-index l.all))
    l.fn.told.items l.told.items

-- what was told of the arms so far
abbrev pub invariant-tell_arms-loop-arm : goal.invariant-tell_arms-loop-arm
invariant-tell_arms-loop-arm g l =
    Underway (arm_told l.sought (g.V.TellValue.told_in l.sought)) has_default
    (told_along (arm_told l.sought (g.V.TellValue.told_in l.sought)) has_default false l.arms)
    l.fn.told.items l.told.items (is_some l.default) l.arm-index l.arms
