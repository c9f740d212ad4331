use Rattle.std.proofs.Common.{◌+◌, ◌*◌, [], ◌∷◌, map}
use Rattle.edd_syntax.specs.Conditional.{conds_from, arms_from}
use Rattle.edd_syntax.specs.ItemView.{cond_of, arm_of, numbered_arm, numbered_cond}
use Rattle.edd_syntax.specs.Size.{cond_nodes, conds_nodes, arms_nodes, leaf}
use Rattle.edd_syntax.specs.TreeView.{path_of}
use Rattle.edd_syntax.specs.NameUses.{conds_uses, arms_uses}
use Rattle.edd_syntax.specs.ResolvedTrees.{at_attribute, resolved_cond, resolved_conds, resolved_arms}
use Rattle.edd_name_meanings.specs.PathsIn.{paths_in_arms, paths_in_conds}
use Rattle.edd_name_meanings.specs.Directory.{description_of, read_by}
use Rattle.edd_expression_names.specs.ResolvedParts.{resolved_arm}
use Rattle.edd_expression_names.proofs.BranchSteps.{conds_split, arms_split, conds_paths_split, arms_paths_split, conds_joined, arms_joined}
use Rattle.edd_expression_names.proofs.Copying.{Copied}
use Rattle.edd_expression_names.proofs.TokenSteps.{Kept}
use Rattle.edd_name_meanings.specs.TokensIn.{tokens_in_arm, tokens_in_cond}
use Rattle.edd_expression_names.proofs.conditionals.+branches.Given as goal

abbrev pub decreases-copy_cond : goal.decreases-copy_cond
decreases-copy_cond g l = 3 * cond_nodes leaf (cond_of path_of (λ v. v) l.c.now)

abbrev pub decreases-copy_conds : goal.decreases-copy_conds
decreases-copy_conds g l =
    3 * conds_nodes leaf (conds_from (map (cond_of path_of (λ v. v)) l.all.now)) + 2

abbrev pub decreases-copy_arm : goal.decreases-copy_arm
decreases-copy_arm g l = 3 * arms_nodes leaf (arms_from (arm_of path_of (λ v. v) l.arm.now ∷ []))

abbrev pub decreases-copy_arms : goal.decreases-copy_arms
decreases-copy_arms g l = 3 * arms_nodes leaf (arms_from (map (arm_of path_of (λ v. v)) l.arms.now))
    + 2

-- the conditionals so far are copied, with their tokens
abbrev pub invariant-copy_conds-loop-c : goal.invariant-copy_conds-loop-c
invariant-copy_conds-loop-c g l = Copied (description_of l.fn.names)
    (cond_of path_of g.V.ResolveValue.before)
    (numbered_cond g.V.ResolveValue.after) (λ xs. conds_uses g.V.ResolveValue.uses (conds_from xs))
    (conds_split g.V.ResolveValue.uses)
    (paths_in_conds g.V.ResolveValue.placed g.V.ResolveValue.paths)
    (conds_paths_split g.V.ResolveValue.placed g.V.ResolveValue.paths)
    (resolved_cond (at_attribute (read_by l.fn.names))
    (g.V.ResolveValue.meant (read_by l.fn.names)))
    (λ xs. resolved_conds (at_attribute (read_by l.fn.names))
    (g.V.ResolveValue.meant (read_by l.fn.names))
    (conds_from xs)) conds_from
    (conds_joined (at_attribute (read_by l.fn.names))
    (g.V.ResolveValue.meant (read_by l.fn.names)))
    l.fn.told.items l.c-index l.all l.copies.items l.told.items
    × Kept (tokens_in_cond g.V.ResolveValue.tokens) (tokens_in_cond g.V.ResolveValue.copied_tokens)
    l.c-index l.all l.copies.items

abbrev pub invariant-copy_arms-loop-arm : goal.invariant-copy_arms-loop-arm
invariant-copy_arms-loop-arm g l = Copied (description_of l.fn.names)
    (arm_of path_of g.V.ResolveValue.before)
    (numbered_arm g.V.ResolveValue.after) (λ xs. arms_uses g.V.ResolveValue.uses (arms_from xs))
    (arms_split g.V.ResolveValue.uses)
    (paths_in_arms g.V.ResolveValue.placed g.V.ResolveValue.paths)
    (arms_paths_split g.V.ResolveValue.placed g.V.ResolveValue.paths)
    (resolved_arm (at_attribute (read_by l.fn.names))
    (g.V.ResolveValue.meant (read_by l.fn.names)))
    (λ xs. resolved_arms (at_attribute (read_by l.fn.names))
    (g.V.ResolveValue.meant (read_by l.fn.names))
    (arms_from xs)) arms_from
    (arms_joined (at_attribute (read_by l.fn.names))
    (g.V.ResolveValue.meant (read_by l.fn.names)))
    l.fn.told.items l.arm-index l.arms l.copies.items l.told.items
    × Kept (tokens_in_arm g.V.ResolveValue.tokens) (tokens_in_arm g.V.ResolveValue.copied_tokens)
    l.arm-index l.arms l.copies.items
