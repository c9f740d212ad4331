use Rattle.std.proofs.Common.{arith}
use Rattle.edd_syntax.specs.Statement.{body_from}
use Rattle.edd_syntax.specs.TreeView.{path_of, part_of}
use Rattle.edd_syntax.specs.Size.{body_nodes}
use Rattle.edd_name_rules.proofs.Spends.{goes_on, body_nodes_split, spent_block, spent_switch}
use Rattle.edd_name_rules.proofs.nodes.+spend_statement.Goals as goal

pub spend_parts-loop-part-preserved : goal.spend_parts-loop-part-preserved
spend_parts-loop-part-preserved t c =
    goes_on (λ xs. body_nodes (body_from xs)) (part_of path_of) body_nodes_split _ _
    c.loop-part.part-index c.args.parts.now c.part-item.result _ (omega arith) c.part-item.is
    c.spend_part-left.ensures c.loop-part.invariant

pub spend_statement-returns-in-Block : goal.spend_statement-returns-in-Block
spend_statement-returns-in-Block t c = spent_block _ _ _ _ _ _ _ c.in-Block.is c.deref.ensures.value
    c.saturating_sub-left.ensures c.spend_parts.ensures

pub spend_statement-returns-in-Switch :
    goal.spend_statement-returns-in-Switch
spend_statement-returns-in-Switch t c =
    spent_switch _ _ _ _ _ _ _ _ _ c.in-Switch.is c.deref-in-Switch.ensures.value
    c.saturating_sub-left.ensures c.spend-in-Switch.ensures c.spend_parts-in-Switch.ensures
