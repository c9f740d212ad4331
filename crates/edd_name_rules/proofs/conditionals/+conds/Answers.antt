use Rattle.std.proofs.Common.{rules, ◌∙◌, ◌-◌, sym, ap, arith}
use Rattle.edd_syntax.specs.Conditional.{conds_from, arms_from}
use Rattle.edd_syntax.specs.ItemView.{cond_of, arm_of}
use Rattle.edd_syntax.specs.Size.{conds_nodes, arms_nodes}
use Rattle.edd_syntax.specs.TreeView.{path_of}
use Rattle.edd_name_rules.proofs.CondSpends.{conds_nodes_split, arms_nodes_split, one_cond, spent_value, spent_if, spent_select, spent_case, spent_default, first_falls, otherwise_falls, arms_fall, case_falls, default_falls, element_falls, arm_falls}
use Rattle.edd_name_rules.proofs.Spends.{goes_on}
use Rattle.edd_name_rules.proofs.conditionals.+conds.Goals as goal

pub spend_cond-returns-in-Value : goal.spend_cond-returns-in-Value
spend_cond-returns-in-Value g t c =
    spent_value path_of (λ v. v) g.V.CountValue.below _ _ c.saturating_sub-left.ensures _ _ _ c.in-Value.is
    c.spend_below.ensures

pub spend_cond-returns-in-If : goal.spend_cond-returns-in-If
spend_cond-returns-in-If g t c =
    spent_if path_of (λ v. v) g.V.CountValue.below _ _ c.saturating_sub-left.ensures _ _ _ _ _ _ _ _ _ c.in-If.is
    c.deref.ensures.value c.deref-in-If.ensures.value c.spend-left.ensures
    c.spend_conds-left.ensures c.spend_conds.ensures

pub spend_cond-returns-in-Select : goal.spend_cond-returns-in-Select
spend_cond-returns-in-Select g t c =
    spent_select path_of (λ v. v) g.V.CountValue.below _ _ c.saturating_sub-left.ensures _ _ _ _ _ _ c.in-Select.is
    c.deref-in-Select.ensures.value c.spend.ensures c.spend_arms.ensures

pub spend_arm-returns-in-Case : goal.spend_arm-returns-in-Case
spend_arm-returns-in-Case g t c =
    spent_case path_of (λ v. v) g.V.CountValue.below _ _ c.saturating_sub-left.ensures _ _ _ _ _ c.in-Case.is
    c.deref.ensures.value c.spend_conds.ensures

pub spend_arm-returns-in-Default : goal.spend_arm-returns-in-Default
spend_arm-returns-in-Default g t c =
    spent_default path_of (λ v. v) g.V.CountValue.below _ _ c.saturating_sub-left.ensures _ _ _ _ _ c.in-Default.is
    c.deref-in-Default.ensures.value c.spend_conds-in-Default.ensures

pub spend_conds-loop-c-preserved : goal.spend_conds-loop-c-preserved
spend_conds-loop-c-preserved g t c =
    goes_on (λ xs. conds_nodes g.V.CountValue.below (conds_from xs)) (cond_of path_of (λ v. v))
    (conds_nodes_split g.V.CountValue.below) _ _ c.loop-c.c-index c.args.all.now c.c-item.result _
    (omega arith) c.c-item.is (c.spend_cond-left.ensures
    ∙ ap (λ n. c.loop-c.left - n) (one_cond g.V.CountValue.below _)) c.loop-c.invariant

pub spend_arms-loop-arm-preserved : goal.spend_arms-loop-arm-preserved
spend_arms-loop-arm-preserved g t c =
    goes_on (λ xs. arms_nodes g.V.CountValue.below (arms_from xs)) (arm_of path_of (λ v. v))
    (arms_nodes_split g.V.CountValue.below) _ _ c.loop-arm.arm-index c.args.arms.now
    c.arm-item.result _ (omega arith) c.arm-item.is c.spend_arm-left.ensures c.loop-arm.invariant

pub spend_cond-spend_conds-left-requires : goal.spend_cond-spend_conds-left-requires
spend_cond-spend_conds-left-requires g t c κs within = (
  first_falls path_of (λ v. v) t _ _ _ _ _ c.in-If.is c.deref.ensures.value (sym c.decreases),
  search rules,
)

pub spend_cond-spend_conds-requires : goal.spend_cond-spend_conds-requires
spend_cond-spend_conds-requires g t c κs within = (
  otherwise_falls path_of (λ v. v) t _ _ _ _ _ c.in-If.is c.deref-in-If.ensures.value
      (sym c.decreases),
  search rules,
)

pub spend_cond-spend_arms-requires : goal.spend_cond-spend_arms-requires
spend_cond-spend_arms-requires g t c κs within = (
  arms_fall path_of (λ v. v) t _ _ _ _ c.in-Select.is c.deref-in-Select.ensures.value
      (sym c.decreases),
  search rules,
)

pub spend_arm-spend_conds-requires : goal.spend_arm-spend_conds-requires
spend_arm-spend_conds-requires g t c κs within = (
  case_falls path_of (λ v. v) t _ _ _ _ c.in-Case.is c.deref.ensures.value (sym c.decreases),
  search rules,
)

pub spend_arm-spend_conds-requires-in-Default : goal.spend_arm-spend_conds-requires-in-Default
spend_arm-spend_conds-requires-in-Default g t c κs within = (
  default_falls path_of (λ v. v) t _ _ _ _ c.in-Default.is c.deref-in-Default.ensures.value
      (sym c.decreases),
  search rules,
)

pub spend_conds-spend_cond-left-requires : goal.spend_conds-spend_cond-left-requires
spend_conds-spend_cond-left-requires g t c κs within = (
  element_falls path_of (λ v. v) t c.loop-c.c-index c.args.all.now c.c-item.result (omega arith)
      c.c-item.is (sym c.decreases),
  search rules,
)

pub spend_arms-spend_arm-left-requires : goal.spend_arms-spend_arm-left-requires
spend_arms-spend_arm-left-requires g t c κs within = (
  arm_falls path_of (λ v. v) t c.loop-arm.arm-index c.args.arms.now c.arm-item.result
      (omega arith) c.arm-item.is (sym c.decreases),
  search rules,
)
