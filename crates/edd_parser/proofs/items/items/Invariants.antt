use Rattle.std.proofs.Common.{◌≡◌, length}
use Rattle.edd_parser.specs.Units.{item_view}
use Rattle.edd_token_reader.proofs.Fronts.{with_elements}
use Rattle.edd_parser.proofs.RowLoops.{items_here}
use Rattle.edd_parser.proofs.items.items.Given as goal

abbrev pub invariant-loop-all : goal.invariant-loop-all
invariant-loop-all l = with_elements item_view l.all.items (items_here l.cursor)
    ≡ items_here l.fn.cursor

abbrev pub decreases-loop-all : goal.decreases-loop-all
decreases-loop-all l = length l.cursor
