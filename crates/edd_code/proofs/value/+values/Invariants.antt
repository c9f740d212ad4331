use Rattle.std.proofs.Common.{◌+◌, ◌*◌, [], ◌∷◌, length, map}
use Rattle.edd_syntax.specs.Expression.{arguments_from}
use Rattle.edd_syntax.specs.Size.{nodes, argument_nodes}
use Rattle.edd_syntax.specs.TreeView.{numbered_argument, numbered_expr}
use Rattle.edd_code.proofs.value.+values.Given as goal

abbrev pub decreases-write_value : goal.decreases-write_value
decreases-write_value l = 7 * nodes (numbered_expr l.e.now)

abbrev pub decreases-write_operands : goal.decreases-write_operands
decreases-write_operands l =
    7 * (nodes (numbered_expr l.left.now) + nodes (numbered_expr l.right.now)) + 1

abbrev pub decreases-write_and : goal.decreases-write_and
decreases-write_and l = 7 * (nodes (numbered_expr l.left.now) + nodes (numbered_expr l.right.now))
    + 2

abbrev pub decreases-write_or : goal.decreases-write_or
decreases-write_or l = 7 * (nodes (numbered_expr l.left.now) + nodes (numbered_expr l.right.now))
    + 2

abbrev pub decreases-write_instead : goal.decreases-write_instead
decreases-write_instead l = 7 * nodes (numbered_expr l.right.now) + 1

abbrev pub decreases-write_either : goal.decreases-write_either
decreases-write_either l =
    7 * (nodes (numbered_expr l.first.now) + nodes (numbered_expr l.second.now)) + 1

abbrev pub decreases-write_compound : goal.decreases-write_compound
decreases-write_compound l = 7 * nodes (numbered_expr l.value.now) + 1

abbrev pub decreases-write_call : goal.decreases-write_call
decreases-write_call l = 7 * argument_nodes (arguments_from (map numbered_argument l.arguments.now))
    + 6

abbrev pub decreases-write_builtin : goal.decreases-write_builtin
decreases-write_builtin l =
    7 * argument_nodes (arguments_from (map numbered_argument l.arguments.now)) + 5

abbrev pub decreases-write_only : goal.decreases-write_only
decreases-write_only l = 7 * argument_nodes (arguments_from (map numbered_argument l.arguments.now))
    + 1

abbrev pub decreases-write_assigned : goal.decreases-write_assigned
decreases-write_assigned l =
    7 * argument_nodes (arguments_from (map numbered_argument l.arguments.now)) + 1

abbrev pub decreases-write_ask : goal.decreases-write_ask
decreases-write_ask l = 7 * argument_nodes (arguments_from (map numbered_argument l.arguments.now))
    + 4

abbrev pub decreases-write_arguments : goal.decreases-write_arguments
decreases-write_arguments l =
    7 * argument_nodes (arguments_from (map numbered_argument l.arguments.now)) + 1
    + length l.parameters.now

abbrev pub decreases-write_argument : goal.decreases-write_argument
decreases-write_argument l =
    7 * argument_nodes (arguments_from (numbered_argument l.argument.now ∷ [])) + 1
