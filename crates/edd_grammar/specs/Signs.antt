-- Which signs and words are the same, and what the signs of expressions are.
use Rattle.std.specs.Prelude.{ℕ, Bool, Option, Some, None}
use Rattle.edd_syntax.specs.declared.operators.Operator.{Operator}
use Rattle.edd_syntax.specs.declared.operators.Operator.TheVariants as operator
use Rattle.edd_syntax.specs.declared.operators.Comparison.{Comparison}
use Rattle.edd_syntax.specs.declared.operators.UnaryOperator.{UnaryOperator}
use Rattle.edd_syntax.specs.declared.operators.UnaryOperator.TheVariants as unary_operator
use Rattle.edd_syntax.specs.declared.operators.IncrementOperator.{IncrementOperator}
use Rattle.edd_syntax.specs.declared.operators.IncrementOperator.TheVariants.{PreIncrement, PostIncrement, PreDecrement, PostDecrement}
use Rattle.edd_syntax.specs.declared.symbols.Keyword.{Keyword}
use Rattle.edd_syntax.specs.contracts.symbols.KeywordPartialEq.TheImpl as keyword_eq
use Rattle.edd_syntax.specs.declared.symbols.Symbol.{Symbol}
use Rattle.edd_syntax.specs.declared.symbols.Symbol.TheVariants as sign
use Rattle.edd_syntax.specs.contracts.symbols.SymbolPartialEq.TheImpl as symbol_eq
use Rattle.edd_syntax.specs.Reference.{Path}
use Rattle.edd_syntax.specs.Expression.{Expr, Binary, Compare, LogicalAnd, LogicalOr, Assign, CompoundAssign}
use Rattle.edd_syntax.specs.Grammar.{precedence_of, comparison_precedence}

-- ---- comparing

-- `==` of signs
abbrev pub same_sign : Symbol → Symbol → Bool
same_sign = (symbol_eq.ghosts).eq

-- `==` of words
abbrev pub same_word : Keyword → Keyword → Bool
same_word = (keyword_eq.ghosts).eq

-- ---- operators between two operands

-- an operator of a precedence from 3 to 12
pub data Infix : Type 0 where
  Plain : Operator → Infix
  Comparing : Comparison → Infix
  Both : Infix
  Either : Infix

-- the precedence of an operator between two operands
abbrev pub infix_precedence : Infix → ℕ
infix_precedence (Plain op) = precedence_of op
infix_precedence (Comparing by) = comparison_precedence by
infix_precedence Both = 4
infix_precedence Either = 3

-- the sign of an operator between two operands
abbrev pub infix_sign : Infix → Symbol
infix_sign (Plain op) = sign.Operator op
infix_sign (Comparing by) = sign.Comparison by
infix_sign Both = sign.LogicalAnd
infix_sign Either = sign.LogicalOr

-- the tree of an operator with its operands
abbrev pub infix_tree : Infix → Expr Path → Expr Path → Expr Path
infix_tree (Plain op) left right = Binary op left right
infix_tree (Comparing by) left right = Compare by left right
infix_tree Both left right = LogicalAnd left right
infix_tree Either left right = LogicalOr left right

-- the operator that this sign is between two operands
abbrev pub infix_of : Symbol → Option Infix
infix_of (sign.Operator op) = Some (Plain op)
infix_of (sign.Comparison by) = Some (Comparing by)
infix_of sign.LogicalAnd = Some Both
infix_of sign.LogicalOr = Some Either
infix_of _ = None

-- ---- operators before an operand, after a reference, and assignments

-- the unary operator that this sign is before an operand
abbrev pub unary_of : Symbol → Option UnaryOperator
unary_of (sign.Operator operator.Add) = Some unary_operator.Plus
unary_of (sign.Operator operator.Subtract) = Some unary_operator.Minus
unary_of sign.Exclamation = Some unary_operator.Not
unary_of sign.Tilde = Some unary_operator.Complement
unary_of _ = None

-- `++` or `--` before a reference
abbrev pub before_of : Symbol → Option IncrementOperator
before_of sign.Increment = Some PreIncrement
before_of sign.Decrement = Some PreDecrement
before_of _ = None

-- `++` or `--` after a reference
abbrev pub after_of : Symbol → Option IncrementOperator
after_of sign.Increment = Some PostIncrement
after_of sign.Decrement = Some PostDecrement
after_of _ = None

-- `=`, or an operator and `=` after it
pub data Assignment : Type 0 where
  Simple : Assignment
  Compound : Operator → Assignment

-- the sign of an assignment
abbrev pub assignment_sign : Assignment → Symbol
assignment_sign Simple = sign.Equals
assignment_sign (Compound op) = sign.CompoundAssign op

-- the tree of an assignment of a value to a path
abbrev pub assignment_tree : Assignment → Path → Expr Path → Expr Path
assignment_tree Simple to value = Assign to value
assignment_tree (Compound op) to value = CompoundAssign op to value

-- the assignment that has this sign
abbrev pub assignment_of : Symbol → Option Assignment
assignment_of sign.Equals = Some Simple
assignment_of (sign.CompoundAssign op) = Some (Compound op)
assignment_of _ = None
