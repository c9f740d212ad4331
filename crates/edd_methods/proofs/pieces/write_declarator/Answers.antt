use Rattle.edd_syntax.specs.TreeView.{numbered_declarator}
use Rattle.edd_methods.proofs.WrittenPieces.{declarator_written}
use Rattle.edd_methods.proofs.pieces.write_declarator.Goals as goal

pub returns : goal.returns
returns c =
    declarator_written (numbered_declarator c.args.d.now) c.args.code.now c.write_initial.new.code _
    c.in_ok-write_initial.ensures c.in_ok-write_store.ensures c.in_ok-put.ensures.code
