use Rattle.std.proofs.Common.{◌≡◌}
use Rattle.edd_syntax.specs.ItemView.{numbered_attribute}
use Rattle.edd_attrs.specs.Trees.{trees_of_attribute, trees_of}
use Rattle.edd_attrs.proofs.Looking.{found_from, attributes_split}
use Rattle.edd_attrs.proofs.trees.tree_among.Given as goal

-- there is none so far
abbrev pub invariant-loop-attribute : goal.invariant-loop-attribute
invariant-loop-attribute l = found_from l.attr numbered_attribute trees_of_attribute trees_of
    attributes_split l.attribute-index l.attributes ≡ found_from l.attr numbered_attribute
    trees_of_attribute trees_of attributes_split 0 l.attributes
