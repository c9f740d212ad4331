-- Expressions of attributes and of methods. Those of attributes have no assignment, increment or
-- call.
use Rattle.std.specs.Prelude.{ℕ, List, [], ◌∷◌}
use Rattle.edd_syntax.specs.declared.operators.Operator.{Operator}
use Rattle.edd_syntax.specs.declared.operators.Comparison.{Comparison}
use Rattle.edd_syntax.specs.declared.operators.UnaryOperator.{UnaryOperator}
use Rattle.edd_syntax.specs.declared.operators.IncrementOperator.{IncrementOperator}
use Rattle.edd_syntax.specs.Text as texts

-- an expression, whose references are of the type R
mutual
  pub data Expr (R : Type 0) : Type 0 where
    -- an integer literal
    Literal : (value : ℕ) → Expr R
    -- a decimal, which no checked unit has
    Decimal : Expr R
    Reference : (from : R) → Expr R
    -- `array [ index ]`
    Indexed : (array : R) → (index : Expr R) → Expr R
    Parentheses : (inner : Expr R) → Expr R
    Unary : UnaryOperator → (operand : Expr R) → Expr R
    Binary : Operator → (left right : Expr R) → Expr R
    Compare : Comparison → (left right : Expr R) → Expr R
    -- `&&` and `||`
    LogicalAnd : (left right : Expr R) → Expr R
    LogicalOr : (left right : Expr R) → Expr R
    -- `test ? first : second`
    Conditional : (test first second : Expr R) → Expr R
    -- `to = value`
    Assign : (to : R) → (value : Expr R) → Expr R
    -- `to op= value`
    CompoundAssign : Operator → (to : R) → (value : Expr R) → Expr R
    -- `++` or `--`, before or after `to`
    Increment : IncrementOperator → (to : R) → Expr R
    Call : (function : R) → (arguments : Arguments R) → Expr R

  -- an argument of a call
  pub data Argument (R : Type 0) : Type 0 where
    Text : texts.Text → Argument R
    Value : Expr R → Argument R

  -- a list of arguments
  pub data Arguments (R : Type 0) : Type 0 where
    Nil : Arguments R
    Cons : (first : Argument R) → (rest : Arguments R) → Arguments R

-- arguments from a list of them
abbrev pub arguments_from : {R : Type 0} → List (Argument R) → Arguments R
arguments_from [] = Nil
arguments_from (a ∷ rest) = Cons a (arguments_from rest)
