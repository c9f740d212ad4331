use Rattle.std.proofs.Common.{◌≡◌}
use Rattle.edd_syntax.specs.Expression.{arguments_from}
use Rattle.edd_syntax.specs.TreeView.{path_of, argument_of}
use Rattle.edd_syntax.specs.Size.{argument_nodes}
use Rattle.edd_name_rules.proofs.Spends.{spent_from, argument_nodes_split}
use Rattle.edd_name_rules.proofs.nodes.+spend.Given as goal

-- what is left after those to come is what is left of the budget after all
abbrev pub invariant-spend_arguments-loop-a : goal.invariant-spend_arguments-loop-a
invariant-spend_arguments-loop-a l =
    spent_from (λ xs. argument_nodes (arguments_from xs)) (argument_of path_of) argument_nodes_split
    l.left l.a-index l.arguments ≡ spent_from (λ xs. argument_nodes (arguments_from xs))
    (argument_of path_of) argument_nodes_split l.fn.budget 0 l.arguments
