use Rattle.std.proofs.Common.{◌≡◌, ◌+◌, ◌*◌, length}
use Rattle.edd_statement_parser.proofs.BodyLoops.{with_parts, parts_here}
use Rattle.edd_statement_parser.proofs.statements.+statement.Given as goal

abbrev pub decreases-statement : goal.decreases-statement
decreases-statement l = 8 * l.height_left

abbrev pub decreases-child : goal.decreases-child
decreases-child l = 8 * l.height_left + 1

abbrev pub decreases-layer : goal.decreases-layer
decreases-layer l = 8 * l.height_left + 7

abbrev pub decreases-after_switch : goal.decreases-after_switch
decreases-after_switch l = 8 * l.height_left + 6

abbrev pub decreases-body : goal.decreases-body
decreases-body l = 8 * l.height_left + 5

abbrev pub decreases-parts : goal.decreases-parts
decreases-parts l = 8 * l.height_left + 4

abbrev pub decreases-part : goal.decreases-part
decreases-part l = 8 * l.height_left + 3

abbrev pub decreases-after_if : goal.decreases-after_if
decreases-after_if l = 8 * l.height_left + 3

abbrev pub decreases-after_first_branch : goal.decreases-after_first_branch
decreases-after_first_branch l = 8 * l.height_left + 2

abbrev pub decreases-after_while : goal.decreases-after_while
decreases-after_while l = 8 * l.height_left + 2

abbrev pub decreases-after_do : goal.decreases-after_do
decreases-after_do l = 8 * l.height_left + 2

abbrev pub decreases-after_for : goal.decreases-after_for
decreases-after_for l = 8 * l.height_left + 2

abbrev pub invariant-parts-loop-all : goal.invariant-parts-loop-all
invariant-parts-loop-all l = with_parts l.all.items (parts_here l.height_left l.labels l.cursor)
    ≡ parts_here l.height_left l.labels l.fn.cursor

abbrev pub decreases-parts-loop-all : goal.decreases-parts-loop-all
decreases-parts-loop-all l = length l.cursor
