use Rattle.std.proofs.Common.{◌∙◌, ap, arith}
use Rattle.std.specs.Prelude.{◌||◌}
use Rattle.edd_syntax.specs.ItemView.{numbered_type_part}
use Rattle.edd_syntax.specs.Marks.{is_marked}
use Rattle.edd_syntax.specs.Rows.{part_stands_for}
use Rattle.edd_syntax.proofs.RowLaws.{found_more, found_all, marks_part}
use Rattle.edd_syntax.proofs.rows.mark_parts.Goals as goal

pub loop-part-preserved : goal.loop-part-preserved
loop-part-preserved c = λ a.
    found_more (part_stands_for a) numbered_type_part (is_marked c.loop-part.all a) _ _
    c.loop-part.part-index c.args.parts.now c.part-item.result (omega arith) c.part-item.is
    (c.mark-all.ensures a ∙ ap (λ b. is_marked c.loop-part.all a || b)
    (marks_part a _ _ c.part_attr.ensures)) (c.loop-part.invariant a)

pub returns : goal.returns
returns c = λ a. found_all (part_stands_for a) numbered_type_part (is_marked c.loop-part.all a) _
    c.loop-part.part-index c.args.parts.now (omega arith) (c.loop-part.invariant a)
