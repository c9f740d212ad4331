use Rattle.std.proofs.Common.{◌≡◌, length}
use Rattle.edd_parser.specs.Items.{attribute_view}
use Rattle.edd_token_reader.proofs.Fronts.{with_elements}
use Rattle.edd_parser.proofs.RowLoops.{attributes_here}
use Rattle.edd_parser.proofs.items.attribute_row.Given as goal

abbrev pub invariant-loop-kind : goal.invariant-loop-kind
invariant-loop-kind l = with_elements attribute_view l.all.items
    (attributes_here l.kind l.height_left l.cursor) ≡ attributes_here l.kind l.height_left
    l.fn.cursor

abbrev pub decreases-loop-kind : goal.decreases-loop-kind
decreases-loop-kind l = length l.cursor
