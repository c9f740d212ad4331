use Rattle.std.proofs.Common.{◌≡◌, length}
use Rattle.edd_token_reader.proofs.Fronts.{with_elements}
use Rattle.edd_parser.proofs.RowLoops.{elements_here}
use Rattle.edd_parser.proofs.rows.row.Given as goal

abbrev pub invariant-loop-all : goal.invariant-loop-all
invariant-loop-all g l =
    let view = g.T.RowElement.view in
    let read = elements_here view g.T.RowElement.read l.height_left in
    with_elements view l.all.items (read l.cursor) ≡ read l.fn.cursor

abbrev pub decreases-loop-all : goal.decreases-loop-all
decreases-loop-all g l = length l.cursor
