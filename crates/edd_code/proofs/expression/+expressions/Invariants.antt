use Rattle.std.proofs.Common.{◌+◌, ◌*◌}
use Rattle.edd_syntax.specs.Size.{nodes}
use Rattle.edd_syntax.specs.TreeView.{numbered_expr}
use Rattle.edd_code.proofs.expression.+expressions.Given as goal

abbrev pub decreases-write_expression : goal.decreases-write_expression
decreases-write_expression l = 3 * nodes (numbered_expr l.e.now)

abbrev pub decreases-write_two : goal.decreases-write_two
decreases-write_two l = 3 * (nodes (numbered_expr l.left.now) + nodes (numbered_expr l.right.now))
    + 1

abbrev pub decreases-write_and : goal.decreases-write_and
decreases-write_and l = 3 * nodes (numbered_expr l.right.now) + 2

abbrev pub decreases-write_or : goal.decreases-write_or
decreases-write_or l = 3 * nodes (numbered_expr l.right.now) + 2

abbrev pub decreases-write_instead : goal.decreases-write_instead
decreases-write_instead l = 3 * nodes (numbered_expr l.right.now) + 1

abbrev pub decreases-write_either : goal.decreases-write_either
decreases-write_either l =
    3 * (nodes (numbered_expr l.first.now) + nodes (numbered_expr l.second.now)) + 1
