use Rattle.std.proofs.Common.{◌∙◌, sym}
use Rattle.edd_syntax.specs.TreeView.{numbered_expr}
use Rattle.edd_methods.proofs.WrittenPieces.{abort_written, popped_written}
use Rattle.edd_methods.proofs.pieces.write_alone.Goals as goal

pub returns-then-is_abort_call : goal.returns-then-is_abort_call
returns-then-is_abort_call c = abort_written (numbered_expr c.args.e.now) c.args.table.now
    c.args.code.now (sym c.is_abort_call.ensures ∙ c.if-is_abort_call.true) c.in_ok-put.ensures.code

pub returns : goal.returns
returns c =
    popped_written (numbered_expr c.args.e.now) c.args.code.now c.write_one.new.code
    (sym c.is_abort_call.ensures
    ∙ c.if-is_abort_call.false) c.in_ok-write_one.ensures c.in_ok-put-2.ensures.code
