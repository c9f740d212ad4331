use Rattle.std.proofs.Common.{◌+◌}
use Rattle.edd_syntax.specs.Expression.{arguments_from}
use Rattle.edd_syntax.specs.NameUses.{argument_uses}
use Rattle.edd_syntax.specs.ResolvedTrees.{at_scope, resolved_arguments}
use Rattle.edd_syntax.specs.TreeView.{path_of, argument_of, numbered_argument}
use Rattle.edd_name_meanings.specs.Directory.{description_of, read_by}
use Rattle.edd_name_meanings.specs.Meanings.{scope_of}
use Rattle.edd_expression_names.specs.ResolvedParts.{resolved_argument}
use Rattle.edd_name_meanings.specs.PathsIn.{paths_in_arguments}
use Rattle.edd_expression_names.proofs.Copying.{Copied}
use Rattle.edd_expression_names.proofs.ExprSteps.{argument_uses_split, paths_split, arguments_joined, expr_depth, argument_depth, arguments_depth}
use Rattle.edd_expression_names.proofs.TokenSteps.{Kept}
use Rattle.edd_name_meanings.specs.TokensIn.{tokens_in_argument}
use Rattle.edd_expression_names.proofs.exprs.+exprs.Given as goal

abbrev pub decreases-copy_among : goal.decreases-copy_among
decreases-copy_among l = expr_depth l.e.now

abbrev pub decreases-copy_boxed : goal.decreases-copy_boxed
decreases-copy_boxed l = expr_depth l.e.now + 1

abbrev pub decreases-copy_pair : goal.decreases-copy_pair
decreases-copy_pair l = expr_depth l.left.now + expr_depth l.right.now + 2

abbrev pub decreases-copy_assigned : goal.decreases-copy_assigned
decreases-copy_assigned l = expr_depth l.value.now + 2

abbrev pub decreases-copy_indexed : goal.decreases-copy_indexed
decreases-copy_indexed l = expr_depth l.index.now + 2

abbrev pub decreases-copy_call : goal.decreases-copy_call
decreases-copy_call l = arguments_depth l.arguments.now + 5

abbrev pub decreases-copy_arguments : goal.decreases-copy_arguments
decreases-copy_arguments l = arguments_depth l.arguments.now + 4

abbrev pub decreases-copy_argument : goal.decreases-copy_argument
decreases-copy_argument l = argument_depth l.argument.now + 1

-- the arguments so far are copied, with their tokens
abbrev pub invariant-copy_arguments-loop-argument : goal.invariant-copy_arguments-loop-argument
invariant-copy_arguments-loop-argument l = Copied (description_of l.fn.names) (argument_of path_of)
    numbered_argument (λ xs. argument_uses (scope_of l.fn.scope) l.fn.kinds (arguments_from xs))
    (argument_uses_split (scope_of l.fn.scope) l.fn.kinds) paths_in_arguments paths_split
    (resolved_argument (at_scope (read_by l.fn.names) (scope_of l.fn.scope))
    ((read_by l.fn.names).reference (scope_of l.fn.scope) l.fn.kinds))
    (λ xs. resolved_arguments (at_scope (read_by l.fn.names) (scope_of l.fn.scope))
    ((read_by l.fn.names).reference (scope_of l.fn.scope) l.fn.kinds)
    (arguments_from xs)) arguments_from
    (arguments_joined (at_scope (read_by l.fn.names) (scope_of l.fn.scope))
    ((read_by l.fn.names).reference (scope_of l.fn.scope) l.fn.kinds))
    l.fn.told.items l.argument-index l.arguments l.all.items l.told.items
    × Kept tokens_in_argument tokens_in_argument l.argument-index l.arguments l.all.items
