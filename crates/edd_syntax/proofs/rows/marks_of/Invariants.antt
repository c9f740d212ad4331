use Rattle.std.proofs.Common.{◌≡◌, false}
use Rattle.edd_syntax.specs.declared.numbers.Attr.{Attr}
use Rattle.edd_syntax.specs.ItemView.{numbered_attribute}
use Rattle.edd_syntax.specs.Marks.{is_marked}
use Rattle.edd_syntax.specs.Rows.{stands_for}
use Rattle.edd_syntax.proofs.RowLaws.{found_and_rest}
use Rattle.edd_syntax.proofs.rows.marks_of.Given as goal

-- what is marked and what the attributes to come mark are all
abbrev pub invariant-loop-attribute : goal.invariant-loop-attribute
invariant-loop-attribute l = (a : Attr)
    → found_and_rest (stands_for a) numbered_attribute (is_marked l.all a) l.attribute-index
    l.attributes ≡ found_and_rest (stands_for a) numbered_attribute false 0 l.attributes
