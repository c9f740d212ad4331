use Rattle.std.proofs.Common.{ap}
use Rattle.std.specs.Prelude.{option_map}
use Rattle.edd_syntax.specs.TreeView.{numbered_expr}
use Rattle.edd_methods.proofs.WrittenPieces.{initial_missing}
use Rattle.edd_methods.proofs.pieces.write_initial.Goals as goal

pub returns-in_ok-put-in-None : goal.returns-in_ok-put-in-None
returns-in_ok-put-in-None c =
    initial_missing (option_map numbered_expr c.args.value.now) c.args.table.now c.args.code.now
    (ap (option_map numbered_expr) c.in-None.is) c.in_ok-put-in-None.ensures.code
