-- The block of an expression of a method is short.
use Rattle.std.proofs.Common.{◌≡◌, ◌+◌, ◌*◌, ◌≤◌, Bool, true, false, [], ◌++◌, arith, List, ◌∷◌}
use Rattle.edd_syntax.specs.declared.numbers.ItemNo.{ItemNo}
use Rattle.edd_syntax.specs.declared.numbers.ItemNo.TheVariants as item_no
use Rattle.edd_syntax.specs.declared.numbers.StrNo.{StrNo}
use Rattle.edd_syntax.specs.declared.operators.Builtin.{Builtin}
use Rattle.edd_syntax.specs.declared.operators.Builtin.TheVariants as builtin
use Rattle.edd_syntax.specs.declared.operators.UnaryOperator.{UnaryOperator}
use Rattle.edd_syntax.specs.declared.operators.UnaryOperator.TheVariants as unary_operator
use Rattle.edd_syntax.specs.declared.operators.IncrementOperator.{IncrementOperator}
use Rattle.edd_syntax.specs.declared.operators.IncrementOperator.TheVariants.{PreIncrement}
use Rattle.edd_syntax.specs.declared.reference.Target.{Target}
use Rattle.edd_syntax.specs.declared.reference.Target.TheVariants.{Item, Function}
use Rattle.edd_syntax.specs.Expression.{Expr, Literal, Decimal, Reference, Indexed, Parentheses, Unary, Binary, Compare, LogicalAnd, LogicalOr, Conditional, Assign, CompoundAssign, Increment, Call, Text, Value, Arguments, Nil, Cons}
use Rattle.edd_syntax.specs.Size.{nodes, argument_nodes}
use Rattle.edd_syntax.specs.declared.operators.Parameter.{Parameter}
use Rattle.edd_syntax.specs.declared.operators.Parameter.TheVariants as parameter
use Rattle.edd_syntax.specs.Builtins.{parameters, request_parameters}
use Rattle.edd_syntax.specs.SubsetRules.{all_fit, call_breaches, call_mismatches, argument_mismatches}
use Rattle.edd_syntax.specs.Words.{Words}
use Rattle.edd_code.specs.Blocks.{size}
use Rattle.edd_code.specs.Expressions.{item_block, unary_block}
use Rattle.edd_code.proofs.ExpressionSizes.{element_size}
use Rattle.edd_code.specs.MethodExpressions.{load_block, store_item_block, store_block, increment_block, method_block, call_block, argument_block, argument_blocks, numbers_block}
use Rattle.edd_code.proofs.Asking.{asks_block}
use Rattle.edd_code.proofs.Fitting.{front_none, fits, of_none, of_variable, of_method, of_variable_number}

-- ---- locals, variables and operators

item_size : (i : ItemNo) → size (item_block i) ≤ 5
item_size (item_no.Variable v) = omega arith
item_size _ = omega arith

read_size : (t : Target) → size (load_block t) ≤ 5
read_size (Item i) = item_size i
read_size _ = omega arith

store_item_size : (i : ItemNo) → size (store_item_block i) ≤ 3
store_item_size (item_no.Variable v) = omega arith
store_item_size _ = omega arith

store_size : (t : Target) → size (store_block t) ≤ 3
store_size (Item i) = store_item_size i
store_size _ = omega arith

unary_size : (op : UnaryOperator) → size (unary_block op) ≤ 1
unary_size unary_operator.Plus = omega arith
unary_size _ = omega arith

increment_size : (op : IncrementOperator) (to : Target) → size (increment_block op to) ≤ 16
increment_size PreIncrement to = omega (arith, read_size to, store_size to)
increment_size _ to = omega (arith, read_size to, store_size to)

module _ (number : Words → StrNo) where
  abbrev IsShort : Expr Target → Type 0
  IsShort e = size (method_block number e) ≤ 32 * nodes e

  abbrev AreShort : Arguments Target → Type 0
  AreShort Nil = Unit {0}
  AreShort (Cons (Text t) rest) = AreShort rest
  AreShort (Cons (Value e) rest) = IsShort e × AreShort rest

  abbrev CallShort : Builtin → Arguments Target → Type 0
  CallShort f arguments = AreShort arguments → size (call_block number f arguments)
      ≤ 32 * (1 + argument_nodes arguments)

  numbers_short : (ps : List Parameter) (arguments : Arguments Target) → AreShort arguments
      → size (numbers_block ps (argument_blocks number arguments)) ≤ 32 * argument_nodes arguments
  unfolding argument_block argument_blocks
  numbers_short [] arguments short = omega arith
  numbers_short (p ∷ ps) Nil short = omega arith
  numbers_short (parameter.Number ∷ ps) (Cons (Text t) rest) short =
      omega (arith, numbers_short ps rest short)
  numbers_short (p ∷ ps) (Cons (Text t) rest) short = omega (arith, numbers_short ps rest short)
  numbers_short (parameter.Number ∷ ps) (Cons (Value e) rest) short =
      omega (arith, short.0, numbers_short ps rest short.1)
  numbers_short (p ∷ ps) (Cons (Value e) rest) short =
      omega (arith, numbers_short ps rest short.1)

  call_short : (f : Builtin) (arguments : Arguments Target) → all_fit (parameters f) arguments
      ≡ true → CallShort f arguments
  unfolding method_block call_block
  call_short (builtin.Ask kind) = λ arguments is short.
      rw (asks_block number kind arguments is)
      (omega (arith, numbers_short (request_parameters kind) arguments short))
  call_short builtin.IvarValue = of_variable (CallShort builtin.IvarValue) (λ v short. omega arith)
  call_short builtin.LvarValue = of_variable (CallShort builtin.LvarValue) (λ v short. omega arith)
  call_short builtin.Abort = of_none (CallShort builtin.Abort) (λ short. omega arith)
  call_short builtin.ProcessAbort = of_none (CallShort builtin.ProcessAbort) (λ short. omega arith)
  call_short builtin.AddAbortMethod = of_method (CallShort builtin.AddAbortMethod)
      (λ m short. omega arith)
  call_short x = of_variable_number (CallShort x)
      (λ v e short. omega (arith, short.1.0))

  mutual
    unfolding method_block

    pub is_short : (is_statement : Bool) (e : Expr Target) → call_mismatches is_statement e ≡ []
        → IsShort e
    is_short b (Literal value) fit = omega arith
    is_short b Decimal fit = omega arith
    is_short b (Reference from) fit = omega (arith, read_size from)
    is_short b (Indexed array index) fit =
        omega (arith, is_short false index fit, element_size array)
    is_short b (Parentheses inner) fit = omega (arith, is_short false inner fit)
    is_short b (Unary op operand) fit = omega (arith, is_short false operand fit, unary_size op)
    is_short b (Binary op left right) fit =
        let fits = front_none (call_mismatches false left) (call_mismatches false right) fit in
        omega (arith, is_short false left fits.0, is_short false right fits.1)
    is_short b (Compare by left right) fit =
        let fits = front_none (call_mismatches false left) (call_mismatches false right) fit in
        omega (arith, is_short false left fits.0, is_short false right fits.1)
    is_short b (LogicalAnd left right) fit =
        let fits = front_none (call_mismatches false left) (call_mismatches false right) fit in
        omega (arith, is_short false left fits.0, is_short false right fits.1)
    is_short b (LogicalOr left right) fit =
        let fits = front_none (call_mismatches false left) (call_mismatches false right) fit in
        omega (arith, is_short false left fits.0, is_short false right fits.1)
    is_short b (Conditional test first second) fit =
        let fits = front_none (call_mismatches false test) (call_mismatches false first
        ++ call_mismatches false second) fit in
        let both = front_none (call_mismatches false first) (call_mismatches false second) fits.1 in
        omega (
          arith,
          is_short false test fits.0,
          is_short false first both.0,
          is_short false second both.1,
        )
    is_short b (Assign to value) fit = omega (arith, is_short false value fit, store_size to)
    is_short b (CompoundAssign op to value) fit =
        omega (arith, is_short false value fit, read_size to, store_size to)
    is_short b (Increment op to) fit = omega (arith, increment_size op to)
    is_short b (Call (Function f) arguments) fit =
        let parts = front_none (call_breaches b (Function f) arguments)
        (argument_mismatches arguments) fit in
        call_short f arguments (fits b f arguments parts.0).0 (all_short arguments parts.1)
    is_short b (Call _ arguments) fit = absurd cc

    all_short : (arguments : Arguments Target) → argument_mismatches arguments ≡ []
        → AreShort arguments
    all_short Nil fit = tt
    all_short (Cons (Text t) rest) fit = all_short rest fit
    all_short (Cons (Value e) rest) fit =
        let parts = front_none (call_mismatches false e) (argument_mismatches rest) fit in
        (is_short false e parts.0, all_short rest parts.1)
