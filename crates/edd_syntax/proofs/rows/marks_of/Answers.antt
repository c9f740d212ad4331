use Rattle.std.proofs.Common.{ap, arith}
use Rattle.std.specs.Prelude.{◌||◌}
use Rattle.edd_syntax.specs.ItemView.{numbered_attribute}
use Rattle.edd_syntax.specs.Marks.{is_marked}
use Rattle.edd_syntax.specs.Rows.{stands_for}
use Rattle.edd_syntax.proofs.Marking.{none_marked}
use Rattle.edd_syntax.proofs.RowLaws.{any_from, found_more, found_all}
use Rattle.edd_syntax.proofs.rows.marks_of.Goals as goal

pub loop-attribute-init : goal.loop-attribute-init
loop-attribute-init c = λ a. ap (λ b. b
    || any_from (stands_for a) numbered_attribute 0 c.args.attributes.now) (none_marked a)

pub loop-attribute-preserved : goal.loop-attribute-preserved
loop-attribute-preserved c = λ a.
    found_more (stands_for a) numbered_attribute (is_marked c.loop-attribute.all a) _ _
    c.loop-attribute.attribute-index c.args.attributes.now c.attribute-item.result (omega arith)
    c.attribute-item.is (c.mark_attribute-all.ensures a) (c.loop-attribute.invariant a)

pub returns : goal.returns
returns c = λ a. found_all (stands_for a) numbered_attribute (is_marked c.loop-attribute.all a) _
    c.loop-attribute.attribute-index c.args.attributes.now (omega arith)
    (c.loop-attribute.invariant a)
