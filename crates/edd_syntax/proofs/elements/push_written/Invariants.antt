use Rattle.std.proofs.Common.{◌≡◌}
use Rattle.edd_syntax.proofs.RowLaws.{each_and_rest}
use Rattle.edd_syntax.proofs.ElementRows.{of_attribute}
use Rattle.edd_syntax.proofs.elements.push_written.Given as goal

-- what was pushed and what is to come are all elements
abbrev pub invariant-loop-attribute : goal.invariant-loop-attribute
invariant-loop-attribute l = each_and_rest (of_attribute l.array) l.found.items l.attribute-index
    l.attributes ≡ each_and_rest (of_attribute l.array) l.initial.found.items 0 l.attributes
