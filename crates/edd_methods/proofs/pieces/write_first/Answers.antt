use Rattle.std.proofs.Common.{ap}
use Rattle.std.specs.Prelude.{option_map}
use Rattle.edd_syntax.specs.TreeView.{numbered_expr}
use Rattle.edd_methods.proofs.WrittenPieces.{first_missing}
use Rattle.edd_methods.proofs.pieces.write_first.Goals as goal

pub returns-in-None : goal.returns-in-None
returns-in-None c = first_missing (option_map numbered_expr c.args.first.now) c.args.table.now
    c.args.code.now (ap (option_map numbered_expr) c.in-None.is)
