use Rattle.std.proofs.Common.{refl}
use Rattle.edd_syntax.specs.TreeView.{path_of}
use Rattle.edd_syntax.proofs.TreeRows.{block_is}
use Rattle.edd_statement_parser.proofs.statement_trees.block.Goals as goal

pub returns : goal.returns
returns c = block_is path_of _ c.args.parts refl
