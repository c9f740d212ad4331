use Rattle.std.proofs.Common.{◌≡◌}
use Rattle.edd_syntax.specs.declared.numbers.Attr.{Attr}
use Rattle.edd_syntax.specs.ItemView.{numbered_type_part}
use Rattle.edd_syntax.specs.Marks.{is_marked}
use Rattle.edd_syntax.specs.Rows.{part_stands_for}
use Rattle.edd_syntax.proofs.RowLaws.{found_and_rest}
use Rattle.edd_syntax.proofs.rows.mark_parts.Given as goal

-- what is marked and what the parts to come mark are all
abbrev pub invariant-loop-part : goal.invariant-loop-part
invariant-loop-part l = (a : Attr)
    → found_and_rest (part_stands_for a) numbered_type_part (is_marked l.all a) l.part-index l.parts
    ≡ found_and_rest (part_stands_for a) numbered_type_part (is_marked l.marks a) 0 l.parts
