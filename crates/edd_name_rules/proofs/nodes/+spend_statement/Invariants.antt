use Rattle.std.proofs.Common.{◌≡◌}
use Rattle.edd_syntax.specs.Statement.{body_from}
use Rattle.edd_syntax.specs.TreeView.{path_of, part_of}
use Rattle.edd_syntax.specs.Size.{body_nodes}
use Rattle.edd_name_rules.proofs.Spends.{spent_from, body_nodes_split}
use Rattle.edd_name_rules.proofs.nodes.+spend_statement.Given as goal

-- what is left after those to come is what is left of the budget after all
abbrev pub invariant-spend_parts-loop-part : goal.invariant-spend_parts-loop-part
invariant-spend_parts-loop-part l =
    spent_from (λ xs. body_nodes (body_from xs)) (part_of path_of) body_nodes_split l.left
    l.part-index l.parts ≡ spent_from (λ xs. body_nodes (body_from xs)) (part_of path_of)
    body_nodes_split l.fn.budget 0 l.parts
