use Rattle.std.proofs.Common.{◌∙◌, ap}
use Rattle.edd_instructions.specs.declared.instruction.Instruction.TheVariants as instruction
use Rattle.edd_syntax.specs.TreeView.{numbered_expr}
use Rattle.edd_code.specs.Blocks.{Straight, Then, WhenNotZero, WhenZero}
use Rattle.edd_code.specs.Closing.{closed}
use Rattle.edd_code.specs.Expressions.{expression_block, instead, then_test, truth_block}
use Rattle.edd_code.proofs.Closing.{either_closed, when_not_zero_closed, when_zero_closed}
use Rattle.edd_code.proofs.Writing.{goes_on, goes_on_ok, one_more}
use Rattle.edd_code.proofs.expression.+expressions.Goals as goal

pub write_two-returns : goal.write_two-returns
write_two-returns t c = goes_on_ok c.write_expression-2.result c.args.code.now _ _ _
    c.in_ok-write_expression.ensures c.write_expression-2.ensures

pub write_instead-returns : goal.write_instead-returns
write_instead-returns t c =
    let right = expression_block (numbered_expr c.args.right.now) in
    goes_on_ok c.write_truth.result c.args.code.now _ (Straight instruction.Pop) (Then right
    truth_block) (one_more c.args.code.now c.put.new.code instruction.Pop c.in_ok-put.ensures.code)
    (goes_on_ok c.write_truth.result c.put.new.code _ right truth_block
    c.in_ok-write_expression.ensures c.write_truth.ensures)

pub write_and-returns : goal.write_and-returns
write_and-returns t c =
    let body = instead (expression_block (numbered_expr c.args.right.now)) in
    goes_on c.args.code.now c.put.new.code _ (Straight instruction.Duplicate) (WhenNotZero body)
    (one_more c.args.code.now c.put.new.code instruction.Duplicate c.in_ok-put.ensures.code)
    (c.close.ensures ∙ ap (closed c.write_instead.new.code) c.in_ok-hole.ensures.place
    ∙ when_not_zero_closed c.put.new.code body c.in_ok-hole.ensures.code
    c.in_ok-write_instead.ensures)

pub write_or-returns : goal.write_or-returns
write_or-returns t c =
    let body = instead (expression_block (numbered_expr c.args.right.now)) in
    goes_on c.args.code.now c.write_truth.new.code _ truth_block (then_test (WhenZero body))
    c.in_ok-write_truth.ensures (goes_on c.write_truth.new.code c.put.new.code _
    (Straight instruction.Duplicate) (WhenZero body)
    (one_more c.write_truth.new.code c.put.new.code instruction.Duplicate c.in_ok-put.ensures.code)
    (c.close.ensures ∙ ap (closed c.write_instead.new.code) c.in_ok-hole.ensures.place
    ∙ when_zero_closed c.put.new.code body c.in_ok-hole.ensures.code c.in_ok-write_instead.ensures))

pub write_either-returns : goal.write_either-returns
write_either-returns t c =
    c.close-2.ensures ∙ ap (closed c.write_expression-2.new.code) c.in_ok-end.ensures.place
    ∙ either_closed c.args.code.now c.open.new.code c.write_expression.new.code c.open-2.new.code
    c.close.new.code c.write_expression-2.new.code _ _
    c.in_ok-otherwise.ensures.code c.in_ok-write_expression.ensures c.in_ok-end.ensures.code
    (c.close.ensures ∙ ap (closed c.open-2.new.code) c.in_ok-otherwise.ensures.place)
    c.in_ok-write_expression-2.ensures
