use Rattle.std.proofs.Common.{arith}
use Rattle.edd_syntax.specs.Expression.{arguments_from}
use Rattle.edd_syntax.specs.TreeView.{path_of, argument_of}
use Rattle.edd_syntax.specs.Size.{argument_nodes}
use Rattle.edd_name_rules.proofs.Spends.{goes_on, argument_nodes_split, spent_call}
use Rattle.edd_name_rules.proofs.nodes.+spend.Goals as goal

pub spend_arguments-loop-a-preserved : goal.spend_arguments-loop-a-preserved
spend_arguments-loop-a-preserved t c =
    goes_on (λ xs. argument_nodes (arguments_from xs)) (argument_of path_of) argument_nodes_split _
    _ c.loop-a.a-index c.args.arguments.now c.a-item.result _ (omega arith) c.a-item.is
    c.spend_argument-left.ensures c.loop-a.invariant

pub spend-returns-in-Call : goal.spend-returns-in-Call
spend-returns-in-Call t c = spent_call _ _ _ _ _ _ _ _ _ c.in-Call.is c.deref-in-Call.ensures.value
    c.saturating_sub-left.ensures c.spend_arguments.ensures
