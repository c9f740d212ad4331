use Rattle.std.proofs.Common.{◌≡◌}
use Rattle.edd_syntax.specs.ItemView.{numbered_type_part}
use Rattle.edd_attrs.specs.Trees.{trees_of_part, trees_of_parts}
use Rattle.edd_attrs.proofs.Looking.{found_from, parts_split}
use Rattle.edd_attrs.proofs.trees.tree_among_parts.Given as goal

-- there is none so far
abbrev pub invariant-loop-part : goal.invariant-loop-part
invariant-loop-part l = found_from l.attr numbered_type_part trees_of_part trees_of_parts
    parts_split l.part-index l.parts ≡ found_from l.attr numbered_type_part trees_of_part
    trees_of_parts parts_split 0 l.parts
