use Rattle.std.proofs.Common.{arith}
use Rattle.edd_syntax.specs.TreeView.{path_of, declarator_of}
use Rattle.edd_syntax.specs.Size.{declarator_nodes}
use Rattle.edd_name_rules.proofs.Spends.{goes_on, declarator_nodes_split}
use Rattle.edd_name_rules.proofs.nodes.spend_declarators.Goals as goal

pub loop-d-preserved : goal.loop-d-preserved
loop-d-preserved c =
    goes_on declarator_nodes (declarator_of path_of) declarator_nodes_split _ _ c.loop-d.d-index
    c.args.declarators.now c.d-item.result _ (omega arith) c.d-item.is c.spend_declarator-left.ensures
    c.loop-d.invariant
