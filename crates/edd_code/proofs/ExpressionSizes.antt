-- The block of an expression is short.
use Rattle.std.proofs.Common.{◌*◌, ◌≤◌, arith}
use Rattle.edd_syntax.specs.declared.numbers.ItemNo.{ItemNo}
use Rattle.edd_syntax.specs.declared.numbers.ItemNo.TheVariants as item_no
use Rattle.edd_syntax.specs.declared.operators.UnaryOperator.{UnaryOperator}
use Rattle.edd_syntax.specs.declared.operators.UnaryOperator.TheVariants as unary_operator
use Rattle.edd_syntax.specs.declared.reference.Target.{Target}
use Rattle.edd_syntax.specs.declared.reference.Target.TheVariants.{Item}
use Rattle.edd_syntax.specs.Expression.{Expr, Reference, Indexed, Parentheses, Unary, Binary, Compare, LogicalAnd, LogicalOr, Conditional}
use Rattle.edd_syntax.specs.Size.{nodes}
use Rattle.edd_code.specs.Blocks.{size}
use Rattle.edd_code.specs.Expressions.{expression_block, item_block, read_block, item_element_block, element_block, unary_block}

item_size : (i : ItemNo) → size (item_block i) ≤ 5
item_size (item_no.Variable v) = omega arith
item_size _ = omega arith

read_size : (t : Target) → size (read_block t) ≤ 5
read_size (Item i) = item_size i
read_size _ = omega arith

item_element_size : (i : ItemNo) → size (item_element_block i) ≤ 6
item_element_size (item_no.Variable v) = omega arith
item_element_size _ = omega arith

pub element_size : (t : Target) → size (element_block t) ≤ 6
element_size (Item i) = item_element_size i
element_size _ = omega arith

unary_size : (op : UnaryOperator) → size (unary_block op) ≤ 1
unary_size unary_operator.Plus = omega arith
unary_size _ = omega arith

pub is_short : (e : Expr Target) → size (expression_block e) ≤ 32 * nodes e
unfolding expression_block
is_short (Reference from) = omega (arith, read_size from)
is_short (Indexed array index) = omega (arith, is_short index, element_size array)
is_short (Parentheses inner) = omega (arith, is_short inner)
is_short (Unary op operand) = omega (arith, is_short operand, unary_size op)
is_short (Binary op left right) = omega (arith, is_short left, is_short right)
is_short (Compare by left right) = omega (arith, is_short left, is_short right)
is_short (LogicalAnd left right) = omega (arith, is_short left, is_short right)
is_short (LogicalOr left right) = omega (arith, is_short left, is_short right)
is_short (Conditional test first second) =
    omega (arith, is_short test, is_short first, is_short second)
is_short _ = omega arith
