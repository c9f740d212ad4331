use Rattle.std.proofs.Common.{◌≡◌}
use Rattle.edd_syntax.specs.TreeView.{path_of, declarator_of}
use Rattle.edd_syntax.specs.Size.{declarator_nodes}
use Rattle.edd_name_rules.proofs.Spends.{spent_from, declarator_nodes_split}
use Rattle.edd_name_rules.proofs.nodes.spend_declarators.Given as goal

-- what is left after those to come is what is left of the budget after all
abbrev pub invariant-loop-d : goal.invariant-loop-d
invariant-loop-d l =
    spent_from declarator_nodes (declarator_of path_of) declarator_nodes_split l.left l.d-index
    l.declarators ≡ spent_from declarator_nodes (declarator_of path_of) declarator_nodes_split
    l.fn.budget 0 l.declarators
