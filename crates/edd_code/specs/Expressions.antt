-- The block of an expression of an attribute, which leaves its value on top. What is only in
-- methods has the block of 0.
use Rattle.edd_syntax.specs.declared.numbers.ItemNo.{ItemNo}
use Rattle.edd_syntax.specs.declared.numbers.ItemNo.TheVariants as item_no
use Rattle.edd_syntax.specs.declared.operators.UnaryOperator.{UnaryOperator}
use Rattle.edd_syntax.specs.declared.operators.UnaryOperator.TheVariants as unary_operator
use Rattle.edd_syntax.specs.declared.reference.Target.{Target}
use Rattle.edd_syntax.specs.declared.reference.Target.TheVariants.{Local, Item, Function}
use Rattle.edd_syntax.specs.Expression.{Expr, Literal, Decimal, Reference, Indexed, Parentheses, Unary, Binary, Compare, LogicalAnd, LogicalOr, Conditional}
use Rattle.edd_instructions.specs.declared.instruction.Instruction.TheVariants as instruction
use Rattle.edd_code.specs.Blocks.{Block, Nothing, Straight, Then, WhenNotZero, WhenZero, Either}

-- no checked description has it
abbrev pub no_value : Block
no_value = Straight (instruction.Push 0)

-- a variable; no attribute reads another item
abbrev pub item_block : ItemNo → Block
item_block (item_no.Variable v) = Straight (instruction.Variable v)
item_block _ = no_value

-- no attribute refers to a local or a function
abbrev pub read_block : Target → Block
read_block (Item i) = item_block i
read_block (Local slot) = no_value
read_block (Function f) = no_value

-- the value of an element, in place of its number on top; in a checked description nothing but an
-- array is before an index
abbrev pub no_element : Block
no_element = Then (Straight instruction.Pop) no_value

-- an element of an array, by the instruction that reads it
abbrev pub item_element_block : ItemNo → Block
item_element_block (item_no.Array n) = Straight (instruction.ReadElement n)
item_element_block _ = no_element

-- an element of what is before the index; only an item can be an array
abbrev pub element_block : Target → Block
element_block (Item i) = item_element_block i
element_block (Local slot) = no_element
element_block (Function f) = no_element

-- unary plus changes nothing
abbrev pub unary_block : UnaryOperator → Block
unary_block unary_operator.Plus = Nothing
unary_block unary_operator.Minus = Straight instruction.Negate
unary_block unary_operator.Not = Straight instruction.Not
unary_block unary_operator.Complement = Straight instruction.Complement

-- 1 where the topmost operand isn't 0, else 0
abbrev pub truth_block : Block
truth_block = Then (Straight instruction.Not) (Straight instruction.Not)

-- the topmost operand once more, to be tested
abbrev pub then_test : Block → Block
then_test next = Then (Straight instruction.Duplicate) next

-- the truth of the right side, in place of the topmost operand
abbrev pub instead : Block → Block
instead right = Then (Straight instruction.Pop) (Then right truth_block)

-- the operands from left to right; the right side of `&&` and `||` only where the left side doesn't
-- decide
unfoldable pub expression_block : Expr Target → Block
expression_block (Literal value) = Straight (instruction.Push value)
expression_block (Reference from) = read_block from
expression_block (Indexed array index) = Then (expression_block index) (element_block array)
expression_block (Parentheses inner) = expression_block inner
expression_block (Unary op operand) = Then (expression_block operand) (unary_block op)
expression_block (Binary op left right) =
    Then (expression_block left) (Then (expression_block right) (Straight (instruction.Operate op)))
expression_block (Compare by left right) =
    Then (expression_block left) (Then (expression_block right) (Straight (instruction.Compare by)))
expression_block (LogicalAnd left right) =
    Then (expression_block left) (then_test (WhenNotZero (instead (expression_block right))))
expression_block (LogicalOr left right) =
    Then (expression_block left)
    (Then truth_block (then_test (WhenZero (instead (expression_block right)))))
expression_block (Conditional test first second) =
    Then (expression_block test) (Either (expression_block first) (expression_block second))
-- these are in no attribute of a checked description
expression_block Decimal = no_value
expression_block _ = no_value
