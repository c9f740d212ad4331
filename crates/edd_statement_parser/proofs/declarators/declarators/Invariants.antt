use Rattle.std.proofs.Common.{◌≡◌, length}
use Rattle.edd_statement_parser.proofs.BodyLoops.{with_declarators, declarators_here}
use Rattle.edd_statement_parser.proofs.declarators.declarators.Given as goal

abbrev pub invariant-loop-all : goal.invariant-loop-all
invariant-loop-all l = with_declarators l.all.items (declarators_here l.height_left l.cursor)
    ≡ declarators_here l.height_left l.fn.cursor

abbrev pub decreases-loop-all : goal.decreases-loop-all
decreases-loop-all l = length l.cursor
