use Rattle.std.proofs.Common.{◌≡◌}
use Rattle.edd_syntax.specs.Conditional.{conds_from, arms_from}
use Rattle.edd_syntax.specs.ItemView.{cond_of, arm_of}
use Rattle.edd_syntax.specs.Size.{conds_nodes, arms_nodes}
use Rattle.edd_syntax.specs.TreeView.{path_of}
use Rattle.edd_name_rules.proofs.Spends.{spent_from}
use Rattle.edd_name_rules.proofs.CondSpends.{conds_nodes_split, arms_nodes_split, cond_depth, conds_depth, arm_depth, arms_depth}
use Rattle.edd_name_rules.proofs.conditionals.+conds.Given as goal

-- what is left after those to come is what is left of the budget after all
abbrev pub invariant-spend_conds-loop-c : goal.invariant-spend_conds-loop-c
invariant-spend_conds-loop-c g l =
    spent_from (λ xs. conds_nodes g.V.CountValue.below (conds_from xs)) (cond_of path_of (λ v. v))
    (conds_nodes_split g.V.CountValue.below) l.left l.c-index l.all
    ≡ spent_from (λ xs. conds_nodes g.V.CountValue.below (conds_from xs))
    (cond_of path_of (λ v. v)) (conds_nodes_split g.V.CountValue.below) l.fn.budget 0 l.all

abbrev pub invariant-spend_arms-loop-arm : goal.invariant-spend_arms-loop-arm
invariant-spend_arms-loop-arm g l =
    spent_from (λ xs. arms_nodes g.V.CountValue.below (arms_from xs)) (arm_of path_of (λ v. v))
    (arms_nodes_split g.V.CountValue.below) l.left l.arm-index l.arms
    ≡ spent_from (λ xs. arms_nodes g.V.CountValue.below (arms_from xs)) (arm_of path_of (λ v. v))
    (arms_nodes_split g.V.CountValue.below) l.fn.budget 0 l.arms

abbrev pub decreases-spend_cond : goal.decreases-spend_cond
decreases-spend_cond g l = cond_depth path_of (λ v. v) l.c.now

abbrev pub decreases-spend_conds : goal.decreases-spend_conds
decreases-spend_conds g l = conds_depth path_of (λ v. v) l.all.now

abbrev pub decreases-spend_arm : goal.decreases-spend_arm
decreases-spend_arm g l = arm_depth path_of (λ v. v) l.arm.now

abbrev pub decreases-spend_arms : goal.decreases-spend_arms
decreases-spend_arms g l = arms_depth path_of (λ v. v) l.arms.now
