use Rattle.std.proofs.Common.{◌≡◌, rules, refl, subst, sym, arith, Some}
use Rattle.std.proofs.Math.ListN.{drop_of_length-le}
use Rattle.std.proofs.lemmas.Int.{to_z-of_z}
use mir.Val.{SFits}
use mir.Syntax.{w64}
use Rattle.edd_syntax.specs.declared.cond.Arm.TheVariants.{Case}
use Rattle.edd_syntax.specs.declared.reference.Target.{Target}
use Rattle.edd_syntax.specs.Conditional.{conds_from, arms_from}
use Rattle.edd_syntax.specs.ItemView.{cond_of, arm_of, numbered_arm, numbered_cond}
use Rattle.edd_syntax.specs.NameUses.{conds_uses, arms_uses}
use Rattle.edd_syntax.specs.ResolvedTrees.{at_attribute, resolved_cond, resolved_conds, resolved_arms}
use Rattle.edd_syntax.specs.TreeView.{path_of}
use Rattle.edd_name_meanings.specs.Directory.{description_of, read_by}
use Rattle.edd_name_meanings.specs.PathsIn.{paths_in_arms, paths_in_conds}
use Rattle.edd_name_meanings.proofs.UseLaws.{retold}
use Rattle.edd_expression_names.specs.ResolvedParts.{resolved_arm}
use Rattle.edd_expression_names.proofs.BranchSteps.{conds_split, arms_split, conds_paths_split, arms_paths_split, one_path, conds_joined, arms_joined, no_conds, no_arms, one_cond, value_told, value_means, if_told, if_means, select_told, select_means, case_told, case_means, default_told, default_means}
use Rattle.edd_name_rules.proofs.CondSpends.{cond_depth, arm_depth, conds_depth, arms_depth, first_falls, otherwise_falls, arms_fall, case_falls, default_falls, element_falls, arm_falls}
use Rattle.edd_expression_names.proofs.Copying.{one_more, told_at_end, meant_at_end}
use Rattle.edd_expression_names.proofs.TokenSteps.{value_kept, if_kept, select_kept, case_kept, default_kept, kept_more, kept_at_end}
use Rattle.edd_name_meanings.specs.TokensIn.{tokens_in_arm, tokens_in_cond}
use Rattle.edd_expression_names.proofs.conditionals.+branches.Goals as goal

pub copy_cond-returns-in_ok-copy-in-Value-clause-kept :
    goal.copy_cond-returns-in_ok-copy-in-Value-clause-kept
copy_cond-returns-in_ok-copy-in-Value-clause-kept g t c =
    value_kept Target g.V.ResolveValue.tokens g.V.ResolveValue.copied_tokens c.args.c.now _
    c.in_ok-copy-in-Value.field-0 c.in-Value.is c.in_ok-copy-in-Value.ensures.kept

pub copy_cond-returns-in_ok-otherwise-in-If-clause-kept :
    goal.copy_cond-returns-in_ok-otherwise-in-If-clause-kept
copy_cond-returns-in_ok-otherwise-in-If-clause-kept g t c =
    if_kept g.V.ResolveValue.tokens g.V.ResolveValue.copied_tokens c.args.c.now _ _ _
    c.deref.result.now c.deref-in-If.result.now c.in_ok-condition-in-If.condition
    c.in_ok-first-in-If.first c.in_ok-otherwise-in-If.otherwise c.in-If.is c.deref.ensures.value
    c.deref-in-If.ensures.value c.in_ok-condition-in-If.ensures.kept
    c.in_ok-first-in-If.ensures.kept c.in_ok-otherwise-in-If.ensures.kept

pub copy_cond-returns-in_ok-arms-in-Select-clause-kept :
    goal.copy_cond-returns-in_ok-arms-in-Select-clause-kept
copy_cond-returns-in_ok-arms-in-Select-clause-kept g t c =
    select_kept g.V.ResolveValue.tokens g.V.ResolveValue.copied_tokens c.args.c.now _ _
    c.deref-in-Select.result.now c.in_ok-on-in-Select.on c.in_ok-arms-in-Select.arms
    c.in-Select.is c.deref-in-Select.ensures.value c.in_ok-on-in-Select.ensures.kept
    c.in_ok-arms-in-Select.ensures.kept

pub copy_arm-returns-in_ok-body-in-Case-clause-kept :
    goal.copy_arm-returns-in_ok-body-in-Case-clause-kept
copy_arm-returns-in_ok-body-in-Case-clause-kept g t c =
    case_kept g.V.ResolveValue.tokens g.V.ResolveValue.copied_tokens c.args.arm.now _ _ _
    c.deref.result.now c.in_ok-body-in-Case.body c.in-Case.is c.deref.ensures.value
    c.in_ok-body-in-Case.ensures.kept

pub copy_arm-returns-in_ok-body-in-Default-clause-kept :
    goal.copy_arm-returns-in_ok-body-in-Default-clause-kept
copy_arm-returns-in_ok-body-in-Default-clause-kept g t c =
    default_kept g.V.ResolveValue.tokens g.V.ResolveValue.copied_tokens c.args.arm.now _ _
    c.deref-in-Default.result.now c.in_ok-body-in-Default.body c.in-Default.is
    c.deref-in-Default.ensures.value c.in_ok-body-in-Default.ensures.kept

pub copy_cond-returns-in_ok-copy-in-Value-clause-told :
    goal.copy_cond-returns-in_ok-copy-in-Value-clause-told
copy_cond-returns-in_ok-copy-in-Value-clause-told g t c =
    value_told (description_of c.args.names.now) (read_by c.args.names.now)
    g.V.ResolveValue.before g.V.ResolveValue.after
    g.V.ResolveValue.uses g.V.ResolveValue.meant g.V.ResolveValue.placed g.V.ResolveValue.paths
    c.args.c.now _ c.in-Value.is
    c.args.told.now.items c.copy.new.told.items c.in_ok-copy-in-Value.ensures.told

pub copy_cond-returns-in_ok-copy-in-Value-clause-sound :
    goal.copy_cond-returns-in_ok-copy-in-Value-clause-sound
copy_cond-returns-in_ok-copy-in-Value-clause-sound g t c =
    value_means (description_of c.args.names.now) (read_by c.args.names.now)
    g.V.ResolveValue.before g.V.ResolveValue.after
    g.V.ResolveValue.uses g.V.ResolveValue.meant g.V.ResolveValue.placed g.V.ResolveValue.paths
    c.args.c.now _ c.in-Value.is
    c.in_ok-copy-in-Value.field-0 c.in_ok-copy-in-Value.ensures.sound

pub copy_cond-returns-in_ok-otherwise-in-If-clause-told :
    goal.copy_cond-returns-in_ok-otherwise-in-If-clause-told
copy_cond-returns-in_ok-otherwise-in-If-clause-told g t c =
    if_told (description_of c.args.names.now) (read_by c.args.names.now)
    g.V.ResolveValue.before g.V.ResolveValue.after
    g.V.ResolveValue.uses g.V.ResolveValue.meant g.V.ResolveValue.placed g.V.ResolveValue.paths
    c.args.c.now _ _ _ c.deref.result.now
    c.deref-in-If.result.now c.in-If.is c.deref.ensures.value c.deref-in-If.ensures.value
    c.args.told.now.items c.copy_expr.new.told.items c.copy_conds.new.told.items
    c.copy_conds-in-If.new.told.items c.in_ok-condition-in-If.ensures.told
    c.in_ok-first-in-If.ensures.told c.in_ok-otherwise-in-If.ensures.told

pub copy_cond-returns-in_ok-otherwise-in-If-clause-sound :
    goal.copy_cond-returns-in_ok-otherwise-in-If-clause-sound
copy_cond-returns-in_ok-otherwise-in-If-clause-sound g t c =
    if_means (description_of c.args.names.now) (read_by c.args.names.now)
    g.V.ResolveValue.before g.V.ResolveValue.after
    g.V.ResolveValue.uses g.V.ResolveValue.meant g.V.ResolveValue.placed g.V.ResolveValue.paths
    c.args.c.now _ _ _ c.deref.result.now
    c.deref-in-If.result.now c.in-If.is c.deref.ensures.value c.deref-in-If.ensures.value
    c.in_ok-condition-in-If.condition c.in_ok-first-in-If.first c.in_ok-otherwise-in-If.otherwise
    c.in_ok-condition-in-If.ensures.sound c.in_ok-first-in-If.ensures.sound
    c.in_ok-otherwise-in-If.ensures.sound

pub copy_cond-returns-in_ok-arms-in-Select-clause-told :
    goal.copy_cond-returns-in_ok-arms-in-Select-clause-told
copy_cond-returns-in_ok-arms-in-Select-clause-told g t c =
    select_told (description_of c.args.names.now) (read_by c.args.names.now)
    g.V.ResolveValue.before g.V.ResolveValue.after
    g.V.ResolveValue.uses g.V.ResolveValue.meant g.V.ResolveValue.placed g.V.ResolveValue.paths
    c.args.c.now _ _ c.deref-in-Select.result.now
    c.in-Select.is c.deref-in-Select.ensures.value c.args.told.now.items
    c.copy_expr-in-Select.new.told.items c.copy_arms.new.told.items
    c.in_ok-on-in-Select.ensures.told c.in_ok-arms-in-Select.ensures.told

pub copy_cond-returns-in_ok-arms-in-Select-clause-sound :
    goal.copy_cond-returns-in_ok-arms-in-Select-clause-sound
copy_cond-returns-in_ok-arms-in-Select-clause-sound g t c =
    select_means (description_of c.args.names.now) (read_by c.args.names.now)
    g.V.ResolveValue.before g.V.ResolveValue.after
    g.V.ResolveValue.uses g.V.ResolveValue.meant g.V.ResolveValue.placed g.V.ResolveValue.paths
    c.args.c.now _ _ c.deref-in-Select.result.now
    c.in-Select.is c.deref-in-Select.ensures.value c.in_ok-on-in-Select.on
    c.in_ok-arms-in-Select.arms c.in_ok-on-in-Select.ensures.sound
    c.in_ok-arms-in-Select.ensures.sound

pub copy_arm-returns-in_ok-body-in-Case-clause-told :
    goal.copy_arm-returns-in_ok-body-in-Case-clause-told
copy_arm-returns-in_ok-body-in-Case-clause-told g t c =
    case_told (description_of c.args.names.now) (read_by c.args.names.now)
    g.V.ResolveValue.before g.V.ResolveValue.after
    g.V.ResolveValue.uses g.V.ResolveValue.meant g.V.ResolveValue.placed g.V.ResolveValue.paths
    c.args.arm.now c.deref.result.now _ _ c.in-Case.is
    c.deref.ensures.value c.args.told.now.items c.copy_conds.new.told.items
    c.in_ok-body-in-Case.ensures.told

pub copy_arm-returns-in_ok-body-in-Case-clause-sound :
    goal.copy_arm-returns-in_ok-body-in-Case-clause-sound
copy_arm-returns-in_ok-body-in-Case-clause-sound g t c =
    let f : SFits w64 c.in-Case.label = search rules in
    subst (λ z. resolved_arm (at_attribute (read_by c.args.names.now))
    (g.V.ResolveValue.meant (read_by c.args.names.now))
    (arm_of path_of g.V.ResolveValue.before c.args.arm.now)
    ≡ Some (numbered_arm g.V.ResolveValue.after (Case z c.in_ok-body-in-Case.body)))
    (sym (to_z-of_z w64 c.in-Case.label f))
    (case_means (description_of c.args.names.now) (read_by c.args.names.now)
    g.V.ResolveValue.before g.V.ResolveValue.after
    g.V.ResolveValue.uses g.V.ResolveValue.meant g.V.ResolveValue.placed g.V.ResolveValue.paths
    c.args.arm.now c.deref.result.now _ _ c.in-Case.is
    c.deref.ensures.value c.in_ok-body-in-Case.body c.in_ok-body-in-Case.ensures.sound)

pub copy_arm-returns-in_ok-body-in-Default-clause-told :
    goal.copy_arm-returns-in_ok-body-in-Default-clause-told
copy_arm-returns-in_ok-body-in-Default-clause-told g t c =
    default_told (description_of c.args.names.now) (read_by c.args.names.now)
    g.V.ResolveValue.before g.V.ResolveValue.after
    g.V.ResolveValue.uses g.V.ResolveValue.meant g.V.ResolveValue.placed g.V.ResolveValue.paths
    c.args.arm.now c.deref-in-Default.result.now _ _
    c.in-Default.is c.deref-in-Default.ensures.value c.args.told.now.items
    c.copy_conds-in-Default.new.told.items c.in_ok-body-in-Default.ensures.told

pub copy_arm-returns-in_ok-body-in-Default-clause-sound :
    goal.copy_arm-returns-in_ok-body-in-Default-clause-sound
copy_arm-returns-in_ok-body-in-Default-clause-sound g t c =
    default_means (description_of c.args.names.now) (read_by c.args.names.now)
    g.V.ResolveValue.before g.V.ResolveValue.after
    g.V.ResolveValue.uses g.V.ResolveValue.meant g.V.ResolveValue.placed g.V.ResolveValue.paths
    c.args.arm.now c.deref-in-Default.result.now _ _
    c.in-Default.is c.deref-in-Default.ensures.value c.in_ok-body-in-Default.body
    c.in_ok-body-in-Default.ensures.sound

pub copy_conds-loop-c-preserved : goal.copy_conds-loop-c-preserved
copy_conds-loop-c-preserved g t c = (
  one_more (description_of c.args.names.now) (cond_of path_of g.V.ResolveValue.before)
      (numbered_cond g.V.ResolveValue.after)
      (λ xs. conds_uses g.V.ResolveValue.uses (conds_from xs))
      (conds_split g.V.ResolveValue.uses)
      (paths_in_conds g.V.ResolveValue.placed g.V.ResolveValue.paths)
      (conds_paths_split g.V.ResolveValue.placed g.V.ResolveValue.paths)
      (resolved_cond (at_attribute (read_by c.args.names.now))
      (g.V.ResolveValue.meant (read_by c.args.names.now)))
      (λ xs. resolved_conds (at_attribute (read_by c.args.names.now))
      (g.V.ResolveValue.meant (read_by c.args.names.now))
      (conds_from xs)) conds_from
      (conds_joined (at_attribute (read_by c.args.names.now))
      (g.V.ResolveValue.meant (read_by c.args.names.now)))
      c.args.told.now.items c.loop-c.c-index c.args.all.now
      c.c-item.result c.loop-c.copies.items c.push.new.self.items c.in_ok-copy_cond.field-0
      c.loop-c.told.items c.copy_cond.new.told.items (omega arith) c.c-item.is
      (retold (description_of c.args.names.now) _ _ _ _ c.loop-c.told.items
      c.copy_cond.new.told.items
      (one_cond g.V.ResolveValue.uses (cond_of path_of g.V.ResolveValue.before c.c-item.result))
      (one_path g.V.ResolveValue.placed g.V.ResolveValue.paths c.c-item.result)
      c.in_ok-copy_cond.ensures.told)
      c.in_ok-copy_cond.ensures.sound
      c.in_ok-push.ensures.items c.loop-c.invariant.0,
  kept_more (tokens_in_cond g.V.ResolveValue.tokens) (tokens_in_cond g.V.ResolveValue.copied_tokens)
      c.loop-c.c-index c.args.all.now c.c-item.result c.loop-c.copies.items
      c.push.new.self.items c.in_ok-copy_cond.field-0 (omega arith) c.c-item.is
      c.in_ok-copy_cond.ensures.kept c.in_ok-push.ensures.items c.loop-c.invariant.1,
)

pub copy_conds-returns-clause-kept : goal.copy_conds-returns-clause-kept
copy_conds-returns-clause-kept g t c =
    kept_at_end (tokens_in_cond g.V.ResolveValue.tokens)
    (tokens_in_cond g.V.ResolveValue.copied_tokens)
    c.loop-c.c-index c.args.all.now c.loop-c.copies.items
    (drop_of_length-le c.args.all.now (omega arith)) c.loop-c.invariant.1

pub copy_conds-returns-clause-told : goal.copy_conds-returns-clause-told
copy_conds-returns-clause-told g t c =
    told_at_end (description_of c.args.names.now) (cond_of path_of g.V.ResolveValue.before)
    (numbered_cond g.V.ResolveValue.after) (λ xs. conds_uses g.V.ResolveValue.uses (conds_from xs))
    (conds_split g.V.ResolveValue.uses)
    (paths_in_conds g.V.ResolveValue.placed g.V.ResolveValue.paths)
    (conds_paths_split g.V.ResolveValue.placed g.V.ResolveValue.paths)
    (resolved_cond (at_attribute (read_by c.args.names.now))
    (g.V.ResolveValue.meant (read_by c.args.names.now)))
    (λ xs. resolved_conds (at_attribute (read_by c.args.names.now))
    (g.V.ResolveValue.meant (read_by c.args.names.now))
    (conds_from xs)) conds_from
    (conds_joined (at_attribute (read_by c.args.names.now))
    (g.V.ResolveValue.meant (read_by c.args.names.now)))
    c.args.told.now.items refl refl c.loop-c.c-index c.args.all.now
    c.loop-c.copies.items c.loop-c.told.items
    (drop_of_length-le c.args.all.now (omega arith)) c.loop-c.invariant.0

pub copy_conds-returns-clause-sound : goal.copy_conds-returns-clause-sound
copy_conds-returns-clause-sound g t c =
    meant_at_end (description_of c.args.names.now) (cond_of path_of g.V.ResolveValue.before)
    (numbered_cond g.V.ResolveValue.after) (λ xs. conds_uses g.V.ResolveValue.uses (conds_from xs))
    (conds_split g.V.ResolveValue.uses)
    (paths_in_conds g.V.ResolveValue.placed g.V.ResolveValue.paths)
    (conds_paths_split g.V.ResolveValue.placed g.V.ResolveValue.paths)
    (resolved_cond (at_attribute (read_by c.args.names.now))
    (g.V.ResolveValue.meant (read_by c.args.names.now)))
    (λ xs. resolved_conds (at_attribute (read_by c.args.names.now))
    (g.V.ResolveValue.meant (read_by c.args.names.now))
    (conds_from xs)) conds_from
    (conds_joined (at_attribute (read_by c.args.names.now))
    (g.V.ResolveValue.meant (read_by c.args.names.now)))
    c.args.told.now.items
    (no_conds (at_attribute (read_by c.args.names.now))
    (g.V.ResolveValue.meant (read_by c.args.names.now)))
    c.loop-c.c-index c.args.all.now c.loop-c.copies.items c.loop-c.told.items
    (drop_of_length-le c.args.all.now (omega arith)) c.loop-c.invariant.0

pub copy_arms-loop-arm-preserved : goal.copy_arms-loop-arm-preserved
copy_arms-loop-arm-preserved g t c = (
  one_more (description_of c.args.names.now) (arm_of path_of g.V.ResolveValue.before)
      (numbered_arm g.V.ResolveValue.after) (λ xs. arms_uses g.V.ResolveValue.uses (arms_from xs))
      (arms_split g.V.ResolveValue.uses)
      (paths_in_arms g.V.ResolveValue.placed g.V.ResolveValue.paths)
      (arms_paths_split g.V.ResolveValue.placed g.V.ResolveValue.paths)
      (resolved_arm (at_attribute (read_by c.args.names.now))
      (g.V.ResolveValue.meant (read_by c.args.names.now)))
      (λ xs. resolved_arms (at_attribute (read_by c.args.names.now))
      (g.V.ResolveValue.meant (read_by c.args.names.now))
      (arms_from xs)) arms_from
      (arms_joined (at_attribute (read_by c.args.names.now))
      (g.V.ResolveValue.meant (read_by c.args.names.now)))
      c.args.told.now.items c.loop-arm.arm-index c.args.arms.now
      c.arm-item.result c.loop-arm.copies.items c.push.new.self.items c.in_ok-copy_arm.field-0
      c.loop-arm.told.items c.copy_arm.new.told.items (omega arith) c.arm-item.is
      c.in_ok-copy_arm.ensures.told c.in_ok-copy_arm.ensures.sound
      c.in_ok-push.ensures.items c.loop-arm.invariant.0,
  kept_more (tokens_in_arm g.V.ResolveValue.tokens) (tokens_in_arm g.V.ResolveValue.copied_tokens)
      c.loop-arm.arm-index c.args.arms.now c.arm-item.result c.loop-arm.copies.items
      c.push.new.self.items c.in_ok-copy_arm.field-0 (omega arith) c.arm-item.is
      c.in_ok-copy_arm.ensures.kept c.in_ok-push.ensures.items c.loop-arm.invariant.1,
)

pub copy_arms-returns-clause-kept : goal.copy_arms-returns-clause-kept
copy_arms-returns-clause-kept g t c =
    kept_at_end (tokens_in_arm g.V.ResolveValue.tokens)
    (tokens_in_arm g.V.ResolveValue.copied_tokens)
    c.loop-arm.arm-index c.args.arms.now c.loop-arm.copies.items
    (drop_of_length-le c.args.arms.now (omega arith)) c.loop-arm.invariant.1

pub copy_arms-returns-clause-told : goal.copy_arms-returns-clause-told
copy_arms-returns-clause-told g t c =
    told_at_end (description_of c.args.names.now) (arm_of path_of g.V.ResolveValue.before)
    (numbered_arm g.V.ResolveValue.after) (λ xs. arms_uses g.V.ResolveValue.uses (arms_from xs))
    (arms_split g.V.ResolveValue.uses)
    (paths_in_arms g.V.ResolveValue.placed g.V.ResolveValue.paths)
    (arms_paths_split g.V.ResolveValue.placed g.V.ResolveValue.paths)
    (resolved_arm (at_attribute (read_by c.args.names.now))
    (g.V.ResolveValue.meant (read_by c.args.names.now)))
    (λ xs. resolved_arms (at_attribute (read_by c.args.names.now))
    (g.V.ResolveValue.meant (read_by c.args.names.now))
    (arms_from xs)) arms_from
    (arms_joined (at_attribute (read_by c.args.names.now))
    (g.V.ResolveValue.meant (read_by c.args.names.now)))
    c.args.told.now.items refl refl c.loop-arm.arm-index c.args.arms.now
    c.loop-arm.copies.items c.loop-arm.told.items
    (drop_of_length-le c.args.arms.now (omega arith)) c.loop-arm.invariant.0

pub copy_arms-returns-clause-sound : goal.copy_arms-returns-clause-sound
copy_arms-returns-clause-sound g t c =
    meant_at_end (description_of c.args.names.now) (arm_of path_of g.V.ResolveValue.before)
    (numbered_arm g.V.ResolveValue.after) (λ xs. arms_uses g.V.ResolveValue.uses (arms_from xs))
    (arms_split g.V.ResolveValue.uses)
    (paths_in_arms g.V.ResolveValue.placed g.V.ResolveValue.paths)
    (arms_paths_split g.V.ResolveValue.placed g.V.ResolveValue.paths)
    (resolved_arm (at_attribute (read_by c.args.names.now))
    (g.V.ResolveValue.meant (read_by c.args.names.now)))
    (λ xs. resolved_arms (at_attribute (read_by c.args.names.now))
    (g.V.ResolveValue.meant (read_by c.args.names.now))
    (arms_from xs)) arms_from
    (arms_joined (at_attribute (read_by c.args.names.now))
    (g.V.ResolveValue.meant (read_by c.args.names.now)))
    c.args.told.now.items
    (no_arms (at_attribute (read_by c.args.names.now))
    (g.V.ResolveValue.meant (read_by c.args.names.now)))
    c.loop-arm.arm-index c.args.arms.now c.loop-arm.copies.items c.loop-arm.told.items
    (drop_of_length-le c.args.arms.now (omega arith)) c.loop-arm.invariant.0

pub copy_cond-copy_conds-requires : goal.copy_cond-copy_conds-requires
copy_cond-copy_conds-requires g t c κs within =
    let h = first_falls path_of (λ v. v) (cond_depth path_of (λ v. v) c.args.c.now) c.args.c.now _ _
    _ c.deref.result.now c.in-If.is c.deref.ensures.value refl in let m =
    c.decreases in (omega (arith, h, m), search rules)

pub copy_cond-copy_conds-requires-in-If : goal.copy_cond-copy_conds-requires-in-If
copy_cond-copy_conds-requires-in-If g t c κs within =
    let h = otherwise_falls path_of (λ v. v) (cond_depth path_of (λ v. v) c.args.c.now) c.args.c.now
    _ _ _ c.deref-in-If.result.now c.in-If.is c.deref-in-If.ensures.value refl in let m =
    c.decreases in (omega (arith, h, m), search rules)

pub copy_cond-copy_arms-requires : goal.copy_cond-copy_arms-requires
copy_cond-copy_arms-requires g t c κs within =
    let h = arms_fall path_of (λ v. v) (cond_depth path_of (λ v. v) c.args.c.now) c.args.c.now _ _
    c.deref-in-Select.result.now c.in-Select.is c.deref-in-Select.ensures.value refl in let m =
    c.decreases in (omega (arith, h, m), search rules)

pub copy_arm-copy_conds-requires : goal.copy_arm-copy_conds-requires
copy_arm-copy_conds-requires g t c κs within =
    let h = case_falls path_of (λ v. v) (arm_depth path_of (λ v. v) c.args.arm.now) c.args.arm.now _
    _ c.deref.result.now c.in-Case.is c.deref.ensures.value refl in let m =
    c.decreases in (omega (arith, h, m), search rules)

pub copy_arm-copy_conds-requires-in-Default : goal.copy_arm-copy_conds-requires-in-Default
copy_arm-copy_conds-requires-in-Default g t c κs within =
    let h = default_falls path_of (λ v. v) (arm_depth path_of (λ v. v) c.args.arm.now)
    c.args.arm.now _ _ c.deref-in-Default.result.now c.in-Default.is
    c.deref-in-Default.ensures.value refl in let m =
    c.decreases in (omega (arith, h, m), search rules)

pub copy_conds-copy_cond-requires : goal.copy_conds-copy_cond-requires
copy_conds-copy_cond-requires g t c κs within =
    let h = element_falls path_of (λ v. v) (conds_depth path_of (λ v. v) c.args.all.now)
    c.loop-c.c-index c.args.all.now c.c-item.result (omega arith) c.c-item.is refl in let m =
    c.decreases in (omega (arith, h, m), search rules)

pub copy_arms-copy_arm-requires : goal.copy_arms-copy_arm-requires
copy_arms-copy_arm-requires g t c κs within =
    let h = arm_falls path_of (λ v. v) (arms_depth path_of (λ v. v) c.args.arms.now)
    c.loop-arm.arm-index c.args.arms.now c.arm-item.result (omega arith) c.arm-item.is
    refl in let m = c.decreases in (omega (arith, h, m), search rules)
