use Rattle.std.proofs.Common.{◌≡◌}
use Rattle.edd_syntax.proofs.RowLaws.{each_and_rest}
use Rattle.edd_syntax.proofs.ElementRows.{one_element}
use Rattle.edd_syntax.proofs.elements.push_elements.Given as goal

-- what was pushed and what is to come are all elements
abbrev pub invariant-loop-element : goal.invariant-loop-element
invariant-loop-element l = each_and_rest (one_element l.array) l.found.items l.element-index
    l.elements ≡ each_and_rest (one_element l.array) l.initial.found.items 0 l.elements
