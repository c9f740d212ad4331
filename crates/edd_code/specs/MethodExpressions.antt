-- The block of an expression of a method, which leaves its value on top. What no checked
-- description has is the block of 0.
use Rattle.std.specs.Prelude.{List, [], ◌∷◌, if◌then◌else◌}
use Rattle.edd_syntax.specs.declared.numbers.ItemNo.{ItemNo}
use Rattle.edd_syntax.specs.declared.numbers.ItemNo.TheVariants as item_no
use Rattle.edd_syntax.specs.declared.numbers.StrNo.{StrNo}
use Rattle.edd_syntax.specs.declared.operators.Operator.{Operator}
use Rattle.edd_syntax.specs.declared.operators.Operator.TheVariants as operator
use Rattle.edd_syntax.specs.declared.operators.IncrementOperator.{IncrementOperator}
use Rattle.edd_syntax.specs.declared.operators.IncrementOperator.TheVariants.{PreIncrement, PostIncrement, PreDecrement, PostDecrement}
use Rattle.edd_syntax.specs.declared.operators.Builtin.{Builtin}
use Rattle.edd_syntax.specs.declared.operators.Builtin.TheVariants as builtin
use Rattle.edd_syntax.specs.declared.operators.Parameter.{Parameter}
use Rattle.edd_syntax.specs.declared.operators.Parameter.TheVariants as parameter
use Rattle.edd_syntax.specs.declared.operators.RequestKind.{RequestKind}
use Rattle.edd_syntax.specs.declared.reference.Target.{Target}
use Rattle.edd_syntax.specs.declared.reference.Target.TheVariants.{Local, Item, Function}
use Rattle.edd_syntax.specs.Expression.{Expr, Literal, Decimal, Reference, Indexed, Parentheses, Unary, Binary, Compare, LogicalAnd, LogicalOr, Conditional, Assign, CompoundAssign, Increment, Call, Argument, Text, Value, Arguments, Nil, Cons}
use Rattle.edd_syntax.specs.Builtins.{request_parameters}
use Rattle.edd_syntax.specs.SubsetRules.{all_fit}
use Rattle.edd_syntax.specs.Words.{Words}
use Rattle.edd_instructions.specs.declared.instruction.Ask.{Ask}
use Rattle.edd_instructions.specs.declared.instruction.Instruction.TheVariants as instruction
use Rattle.edd_code.specs.Arguments.{asking, names_of}
use Rattle.edd_code.specs.Blocks.{Block, Nothing, Straight, Then, WhenNotZero, WhenZero, Either}
use Rattle.edd_code.specs.Expressions.{no_value, item_block, element_block, unary_block, truth_block, then_test, instead}

-- ---- locals and variables

-- the value of a local or of a variable
abbrev pub load_block : Target → Block
load_block (Local slot) = Straight (instruction.GetLocal slot)
load_block (Item i) = item_block i
load_block (Function f) = no_value

-- a variable; no checked unit stores to another item
abbrev pub store_item_block : ItemNo → Block
store_item_block (item_no.Variable v) = Straight (instruction.Store v)
store_item_block _ = Nothing

-- the topmost operand is stored, and in its place is what is then read back
abbrev pub store_block : Target → Block
store_block (Local slot) = Straight (instruction.SetLocal slot)
store_block (Item i) = store_item_block i
store_block (Function f) = Nothing

-- 1 more or 1 less than the topmost operand is stored
abbrev pub store_next_block : Operator → Target → Block
store_next_block op to = Then (Straight (instruction.Push 1))
    (Then (Straight (instruction.Operate op)) (store_block to))

-- the same, and what was on top stays there
abbrev pub store_behind_block : Operator → Target → Block
store_behind_block op to = Then (Straight instruction.Duplicate)
    (Then (store_next_block op to) (Straight instruction.Pop))

-- `++` and `--`, before and after
abbrev pub increment_block : IncrementOperator → Target → Block
increment_block PreIncrement to = Then (load_block to) (store_next_block operator.Add to)
increment_block PostIncrement to = Then (load_block to) (store_behind_block operator.Add to)
increment_block PreDecrement to = Then (load_block to) (store_next_block operator.Subtract to)
increment_block PostDecrement to = Then (load_block to) (store_behind_block operator.Subtract to)

-- ---- requests

-- a request, whose numbers are in front of it
abbrev pub ask_block : Ask → Block
ask_block a = Straight (instruction.Ask a)

-- an argument that is a number is an operand; the instruction names the others
abbrev pub number_block : Parameter → Block → Block
number_block parameter.Number value = value
number_block _ value = Nothing

-- the numbers among the arguments, in their order
abbrev pub numbers_block : List Parameter → (values : List Block) → Block
numbers_block [] values = Nothing
numbers_block (p ∷ parameters) [] = Nothing
numbers_block (p ∷ parameters) (value ∷ values) = Then (number_block p value)
    (numbers_block parameters values)

-- a request whose arguments have these values
abbrev pub request_block : (number : Words → StrNo) → RequestKind → Arguments Target
    → (values : List Block) → Block
request_block number kind arguments values =
    if all_fit (request_parameters kind) arguments then
    Then (numbers_block (request_parameters kind) values)
    (ask_block (asking kind (names_of number (request_parameters kind) arguments))) else
    no_value

-- ---- expressions

module _ (number : Words → StrNo) where
  -- The operands from left to right, and what is read before a right side is read in front of it. A
  -- call that aborts is ABORT and leaves nothing; in a checked description it is a whole statement,
  -- after which there may be no POP.
  unfoldable mutual
    pub method_block : Expr Target → Block
    method_block (Literal value) = Straight (instruction.Push value)
    method_block Decimal = no_value
    method_block (Reference from) = load_block from
    method_block (Indexed array index) = Then (method_block index) (element_block array)
    method_block (Parentheses inner) = method_block inner
    method_block (Unary op operand) = Then (method_block operand) (unary_block op)
    method_block (Binary op left right) =
        Then (method_block left) (Then (method_block right) (Straight (instruction.Operate op)))
    method_block (Compare by left right) =
        Then (method_block left) (Then (method_block right) (Straight (instruction.Compare by)))
    method_block (LogicalAnd left right) =
        Then (method_block left) (then_test (WhenNotZero (instead (method_block right))))
    method_block (LogicalOr left right) =
        Then (method_block left)
        (Then truth_block (then_test (WhenZero (instead (method_block right)))))
    method_block (Conditional test first second) =
        Then (method_block test) (Either (method_block first) (method_block second))
    method_block (Assign to value) = Then (method_block value) (store_block to)
    method_block (CompoundAssign op to value) =
        Then (load_block to) (Then (method_block value)
        (Then (Straight (instruction.Operate op)) (store_block to)))
    method_block (Increment op to) = increment_block op to
    method_block (Call (Function f) arguments) = call_block f arguments
    method_block (Call (Local slot) arguments) = no_value
    method_block (Call (Item i) arguments) = no_value

    -- a request, or what else a function does; the value of an assignment by a function is 0
    pub call_block : Builtin → Arguments Target → Block
    call_block (builtin.Ask kind) Nil = request_block number kind Nil []
    call_block (builtin.Ask kind) (Cons first rest) = request_block number kind (Cons first rest)
        (argument_block first ∷ argument_blocks rest)
    call_block builtin.IvarValue (Cons (Value e) Nil) = method_block e
    call_block builtin.LvarValue (Cons (Value e) Nil) = method_block e
    call_block builtin.Iassign (Cons (Value (Reference to)) (Cons (Value e) Nil)) =
        Then (method_block e) (Then (store_block to) (Then (Straight instruction.Pop) no_value))
    call_block builtin.Lassign (Cons (Value (Reference to)) (Cons (Value e) Nil)) =
        Then (method_block e) (Then (store_block to) (Then (Straight instruction.Pop) no_value))
    call_block builtin.Abort Nil = Straight instruction.Abort
    call_block builtin.ProcessAbort Nil = Straight instruction.Abort
    call_block builtin.AddAbortMethod (Cons (Value (Reference (Item (item_no.Method m)))) Nil) =
        Straight (instruction.AddAbortMethod m)
    call_block _ _ = no_value

    -- the value of an argument; a text has none
    pub argument_block : Argument Target → Block
    argument_block (Text text) = Nothing
    argument_block (Value e) = method_block e

    -- the values of all of them, in their order
    pub argument_blocks : Arguments Target → List Block
    argument_blocks Nil = []
    argument_blocks (Cons first rest) = argument_block first ∷ argument_blocks rest
