use Rattle.std.proofs.Common.{◌≡◌, ℕ, ◌+◌, ◌-◌, ◌*◌, ◌≤◌, List, length}
use Rattle.edd_syntax.specs.Token.{Token}
use Rattle.edd_syntax.specs.Reference.{Path}
use Rattle.edd_syntax.specs.Expression.{Expr}
use Rattle.edd_grammar.specs.ExpressionReading.{expr_at, chain}
use Rattle.edd_token_reader.specs.Views.{site_view}
use Rattle.edd_expression_parser.specs.Expressions.{expr_view}
use Rattle.edd_expression_parser.proofs.Loops.{with_front, arguments_here}
use Rattle.edd_expression_parser.proofs.expr.+expr.Given as goal

abbrev pub decreases-expr : goal.decreases-expr
decreases-expr l = 8 * l.height_left

abbrev pub decreases-child : goal.decreases-child
decreases-child l = 8 * l.height_left + 1

abbrev pub decreases-up_to : goal.decreases-up_to
decreases-up_to l = 8 * l.height_left + 2

abbrev pub decreases-layer : goal.decreases-layer
decreases-layer l = 8 * l.height_left + 7

abbrev pub decreases-operand : goal.decreases-operand
decreases-operand l = 8 * l.height_left + 6

abbrev pub decreases-chain : goal.decreases-chain
decreases-chain l = 8 * l.height_left + 3

abbrev pub decreases-choice : goal.decreases-choice
decreases-choice l = 8 * l.height_left + 3

abbrev pub decreases-assignment : goal.decreases-assignment
decreases-assignment l = 8 * l.height_left + 2

abbrev pub decreases-named : goal.decreases-named
decreases-named l = 8 * l.height_left + 5

abbrev pub decreases-indexed : goal.decreases-indexed
decreases-indexed l = 8 * l.height_left + 4

abbrev pub decreases-signed : goal.decreases-signed
decreases-signed l = 8 * l.height_left + 5

abbrev pub decreases-unary : goal.decreases-unary
decreases-unary l = 8 * l.height_left + 2

abbrev pub decreases-arguments : goal.decreases-arguments
decreases-arguments l = 8 * l.height_left + 4

abbrev pub decreases-some_arguments : goal.decreases-some_arguments
decreases-some_arguments l = 8 * l.height_left + 3

abbrev pub decreases-argument : goal.decreases-argument
decreases-argument l = 8 * l.height_left + 2

abbrev pub decreases-joined : goal.decreases-joined
decreases-joined l = 8 * l.height_left + 2

abbrev pub invariant-chain-loop : goal.invariant-chain-loop
invariant-chain-loop l =
    let read = λ (n : ℕ) (left : Expr Path) (here : List Token). chain (site_view l.site)
    (expr_at (site_view l.site) l.height_left) l.height_left l.precedence n left here in
    (l.left.levels ≤ l.height_left + 1)
    × (read (l.height_left + 1 - l.counter) (expr_view l.left.expr) l.cursor
    ≡ read (l.height_left + 1) (expr_view l.fn.first.expr) l.fn.cursor)

abbrev pub invariant-some_arguments-loop-all : goal.invariant-some_arguments-loop-all
invariant-some_arguments-loop-all l =
    let read = arguments_here (site_view l.site) l.height_left in
    (l.all.levels ≤ l.height_left) × (with_front l.all.arguments.items (read l.cursor)
    ≡ read l.fn.cursor)

abbrev pub decreases-some_arguments-loop-all : goal.decreases-some_arguments-loop-all
decreases-some_arguments-loop-all l = length l.cursor
