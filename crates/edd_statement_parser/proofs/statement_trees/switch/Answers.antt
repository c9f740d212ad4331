use Rattle.std.proofs.Common.{refl}
use Rattle.edd_syntax.specs.TreeView.{path_of}
use Rattle.edd_syntax.proofs.TreeRows.{switch_is}
use Rattle.edd_statement_parser.proofs.statement_trees.switch.Goals as goal

pub returns : goal.returns
returns c = switch_is path_of _ c.args.on c.args.parts refl
