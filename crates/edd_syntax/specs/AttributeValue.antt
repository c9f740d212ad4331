-- The values of expressions in attributes, and what conditionals choose.
use Rattle.std.specs.Prelude.{true, false, not, ℤ, pos, List, [], ◌∷◌, ◌++◌, Result, Ok, Err}
use Rattle.std.specs.Ordering.{int_eq}
use Rattle.edd_syntax.specs.declared.numbers.ItemNo.{ItemNo}
use Rattle.edd_syntax.specs.declared.numbers.ItemNo.TheVariants as item_no
use Rattle.edd_syntax.specs.declared.answer.Trap.{Trap}
use Rattle.edd_syntax.specs.Reference.{Target, Local, Item, Function}
use Rattle.edd_syntax.specs.Expression.{Expr, Literal, Decimal, Reference, Indexed, Parentheses, Unary, Binary, Compare, LogicalAnd, LogicalOr, Conditional}
use Rattle.edd_syntax.specs.Conditional.{Cond, Value, If, Select, Conds, Nil, Cons, Arms, NoArms, ConsArm, Case, Default}
use Rattle.edd_syntax.specs.TwosComplement.{wrap, truth, is_zero, operate, compare, apply}
use Rattle.edd_syntax.specs.DeviceValues.{value_at}
use Rattle.edd_syntax.specs.Elements.{indexed_value}
use Rattle.edd_syntax.specs.Device.{Environment}

-- a result, or the first trap
abbrev pub Trapping : Type 0 → Type 0
Trapping A = Result A Trap

infixl 10 ◌>>=◌
-- goes on with the result; a trap is passed on
abbrev pub ◌>>=◌ : {A B : Type 0} → Trapping A → (A → Trapping B) → Trapping B
Ok x >>= next = next x
Err why >>= next = Err why

-- ---- expressions

-- a variable is read with 64 bits; no checked unit reads another item
abbrev pub item_value : List ℤ → ItemNo → ℤ
item_value d (item_no.Variable v) = wrap 64 (value_at d v)
item_value d _ = pos 0

-- no attribute refers to a local or a function
abbrev pub read : List ℤ → Target → ℤ
read d (Item i) = item_value d i
read d (Local slot) = pos 0
read d (Function f) = pos 0

module _ (env : Environment) (d : List ℤ) where
  -- the value of an expression, operands from left to right, each number of 64 bits
  unfoldable pub value : Expr Target → Trapping ℤ
  value (Literal n) = Ok (wrap 64 (pos n))
  value (Reference from) = Ok (read d from)
  value (Indexed array index) = do
    number ← value index
    indexed_value env.elements 64 d array number
  value (Parentheses inner) = value inner
  value (Unary op operand) = do
    a ← value operand
    Ok (apply 64 op a)
  value (Binary op left right) = do
    a ← value left
    b ← value right
    operate 64 op a b
  value (Compare by left right) = do
    a ← value left
    b ← value right
    Ok (compare by a b)
  value (LogicalAnd left right) = do
    a ← value left
    elim (is_zero a) [
      | true ↦ Ok (pos 0)
      | false ↦ (do b ← value right; Ok (truth (not (is_zero b))))
    ]
  value (LogicalOr left right) = do
    a ← value left
    elim (is_zero a) [
      | true ↦ (do b ← value right; Ok (truth (not (is_zero b))))
      | false ↦ Ok (pos 1)
    ]
  value (Conditional test first second) = do
    a ← value test
    elim (is_zero a) [ true ↦ value second | false ↦ value first ]
  -- no attribute of a checked unit has these
  value Decimal = Ok (pos 0)
  value _ = Ok (pos 0)

  -- ---- conditionals: the values that apply

  unfoldable mutual
    -- IF takes its first branch where the condition isn't 0, else what is after ELSE
    pub chosen : {V : Type 0} → Cond Target V → Trapping (List V)
    chosen (Value v) = Ok (v ∷ [])
    chosen (If condition first otherwise) = do
      a ← value condition
      elim (is_zero a) [ true ↦ all_chosen otherwise | false ↦ all_chosen first ]
    chosen (Select on arms) = do
      a ← value on
      case_chosen a arms (default_chosen arms)

    -- of a list: what each of its conditionals chooses, in order
    pub all_chosen : {V : Type 0} → Conds Target V → Trapping (List V)
    all_chosen Nil = Ok []
    all_chosen (Cons first rest) = do
      xs ← chosen first
      ys ← all_chosen rest
      Ok (xs ++ ys)

    -- of the first CASE whose label equals the value, else the default
    pub case_chosen : {V : Type 0} → ℤ → Arms Target V → (otherwise : Trapping (List V))
        → Trapping (List V)
    case_chosen a NoArms otherwise = otherwise
    case_chosen a (ConsArm (Case label body) rest) otherwise =
        elim (int_eq a label) [ true ↦ all_chosen body | false ↦ case_chosen a rest otherwise ]
    case_chosen a (ConsArm (Default body) rest) otherwise = case_chosen a rest otherwise

    -- of DEFAULT, wherever it is
    pub default_chosen : {V : Type 0} → Arms Target V → Trapping (List V)
    default_chosen NoArms = Ok []
    default_chosen (ConsArm (Case label body) rest) = default_chosen rest
    default_chosen (ConsArm (Default body) rest) = all_chosen body
