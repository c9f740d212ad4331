-- The grammar of texts and expressions, as a relation between a tree, the tokens from where it
-- begins (`here`) and those after it (`rest`). The lists of tokens that are named in between are
-- the tokens from a place on.
use Rattle.std.specs.Prelude.{◌≡◌, ℕ, suc, ◌≤◌, ◌⊎◌, List, [], ◌∷◌, ◌++◌}
use Rattle.edd_syntax.specs.declared.operators.Operator.{Operator}
use Rattle.edd_syntax.specs.declared.operators.Operator.TheVariants as operator
use Rattle.edd_syntax.specs.declared.operators.Comparison.{Comparison}
use Rattle.edd_syntax.specs.declared.operators.Comparison.TheVariants as comparison
use Rattle.edd_syntax.specs.declared.operators.UnaryOperator.{UnaryOperator}
use Rattle.edd_syntax.specs.declared.operators.UnaryOperator.TheVariants as unary_operator
use Rattle.edd_syntax.specs.declared.operators.IncrementOperator.TheVariants.{PreIncrement, PostIncrement, PreDecrement, PostDecrement}
use Rattle.edd_syntax.specs.declared.symbols.Keyword.{Keyword}
use Rattle.edd_syntax.specs.declared.symbols.Symbol.{Symbol}
use Rattle.edd_syntax.specs.declared.symbols.Symbol.TheVariants as sign
use Rattle.edd_syntax.specs.Text as texts
use Rattle.edd_syntax.specs.Text.{Name, Quoted, Key}
use Rattle.edd_syntax.specs.Token.{Token, Reserved, Identifier, Integer, String, Sign}
use Rattle.edd_syntax.specs.Token as token
use Rattle.edd_syntax.specs.Reference.{Path}
use Rattle.edd_syntax.specs.Expression.{Expr, Literal, Decimal, Reference, Indexed, Parentheses, Unary, Binary, Compare, LogicalAnd, LogicalOr, Conditional, Assign, CompoundAssign, Increment, Call, Text, Value, Arguments, Nil, Cons}

-- ---- single tokens

-- the next token is this one
abbrev pub Next : Token → List Token → List Token → Type 0
Next t here rest = here ≡ t ∷ rest

-- the next token is this sign
abbrev pub NextSign : Symbol → List Token → List Token → Type 0
NextSign s here rest = Next (Sign s) here rest

-- the next token is this reserved word
abbrev pub NextWord : Keyword → List Token → List Token → Type 0
NextWord k here rest = Next (Reserved k) here rest

-- a sign that may be there
abbrev pub OptionalSign : Symbol → List Token → List Token → Type 0
OptionalSign s here rest = (here ≡ rest) ⊎ NextSign s here rest

-- ---- references and texts

-- `.m.n`
abbrev pub MembersHere : List Name → List Token → List Token → Type 0
MembersHere [] here rest = here ≡ rest
MembersHere (m ∷ ms) here rest = (behind : List Token)
    × (here ≡ Sign sign.Dot ∷ Identifier m ∷ behind) × MembersHere ms behind rest

-- `name.m.n`
abbrev pub PathHere : Path → List Token → List Token → Type 0
PathHere p here rest = (behind : List Token) × Next (Identifier p.base) here behind
    × MembersHere p.members behind rest

-- a plain name
abbrev pub PlainHere : Path → List Token → List Token → Type 0
PlainHere p here rest = (p.members ≡ []) × Next (Identifier p.base) here rest

-- the next token is a string
abbrev pub BeginsString : List Token → Type 0
BeginsString [] = ⊥
BeginsString (String raw ∷ rest) = Unit {0}
BeginsString (Reserved k ∷ rest) = ⊥
BeginsString (Identifier n ∷ rest) = ⊥
BeginsString (Integer n ∷ rest) = ⊥
BeginsString (token.Decimal ∷ rest) = ⊥
BeginsString (Sign s ∷ rest) = ⊥

-- these strings follow each other, and no further one follows
abbrev pub StringsHere : List (List ℕ) → List Token → List Token → Type 0
StringsHere [] here rest = (here ≡ rest) × ¬ BeginsString rest
StringsHere (s ∷ ss) here rest = (behind : List Token) × Next (String s) here behind
    × StringsHere ss behind rest

-- the strings as one
abbrev pub joined : List (List ℕ) → List ℕ
joined [] = []
joined (s ∷ ss) = s ++ joined ss

-- one or more strings, whose insides are joined, or `[key]`
abbrev pub TextHere : texts.Text → List Token → List Token → Type 0
TextHere (Quoted raw) here rest =
    (first : List ℕ) × (others : List (List ℕ)) × (raw ≡ joined (first ∷ others))
    × StringsHere (first ∷ others) here rest
TextHere (Key name) here rest = here ≡ Sign sign.OpenBracket ∷ Identifier name
    ∷ Sign sign.CloseBracket ∷ rest

-- ---- precedence of operators, from 1, the loosest, to 15

-- the precedence of an arithmetic or bitwise operator
abbrev pub precedence_of : Operator → ℕ
precedence_of operator.Or = 5
precedence_of operator.Xor = 6
precedence_of operator.And = 7
precedence_of operator.ShiftLeft = 10
precedence_of operator.ShiftRight = 10
precedence_of operator.Add = 11
precedence_of operator.Subtract = 11
precedence_of operator.Multiply = 12
precedence_of operator.Divide = 12
precedence_of operator.Remainder = 12

-- the precedence of a comparison
abbrev pub comparison_precedence : Comparison → ℕ
comparison_precedence comparison.Equal = 8
comparison_precedence comparison.NotEqual = 8
comparison_precedence _ = 9

-- the sign of an operator before its operand
abbrev pub unary_sign : UnaryOperator → Symbol
unary_sign unary_operator.Plus = sign.Operator operator.Add
unary_sign unary_operator.Minus = sign.Operator operator.Subtract
unary_sign unary_operator.Not = sign.Exclamation
unary_sign unary_operator.Complement = sign.Tilde

-- where an expression is: only in a method may it assign, step and call
pub data Site : Type 0 where
  InAttribute : Site
  InMethod : Site

-- the loosest precedence of a site: attributes have no assignment
abbrev pub loosest : Site → ℕ
loosest InAttribute = 2
loosest InMethod = 1

-- what methods alone have
abbrev pub IsMethod : Site → Type 0
IsMethod InAttribute = ⊥
IsMethod InMethod = Unit {0}

-- ---- expressions, at a site for this precedence or a tighter one

-- an expression whose operator, if it has one, has this precedence or a tighter one
abbrev mutual
  pub ExprHere : Site → (precedence : ℕ) → Expr Path → List Token → List Token → Type 0
  -- precedence 15
  ExprHere p precedence (Literal n) here rest = Next (Integer n) here rest
  ExprHere p precedence Decimal here rest = Next token.Decimal here rest
  ExprHere p precedence (Reference from) here rest = PathHere from here rest
  ExprHere p precedence (Indexed array index) here rest =
      (bracket inside : List Token) × PlainHere array here bracket
      × NextSign sign.OpenBracket bracket inside
      × ExprHere p (loosest p) index inside (Sign sign.CloseBracket ∷ rest)
  ExprHere p precedence (Parentheses inner) here rest =
      (inside : List Token) × NextSign sign.OpenParenthesis here inside
      × ExprHere p (loosest p) inner inside (Sign sign.CloseParenthesis ∷ rest)
  ExprHere p precedence (Call function arguments) here rest =
      IsMethod p × (paren inside : List Token) × PlainHere function here paren
      × NextSign sign.OpenParenthesis paren inside
      × ArgumentsHere p arguments inside (Sign sign.CloseParenthesis ∷ rest)
  -- precedence 14
  ExprHere p precedence (Increment PreIncrement to) here rest =
      IsMethod p × (precedence ≤ 14) × (behind : List Token) × NextSign sign.Increment here behind
      × PathHere to behind rest
  ExprHere p precedence (Increment PreDecrement to) here rest =
      IsMethod p × (precedence ≤ 14) × (behind : List Token) × NextSign sign.Decrement here behind
      × PathHere to behind rest
  ExprHere p precedence (Increment PostIncrement to) here rest =
      IsMethod p × (precedence ≤ 14) × PathHere to here (Sign sign.Increment ∷ rest)
  ExprHere p precedence (Increment PostDecrement to) here rest =
      IsMethod p × (precedence ≤ 14) × PathHere to here (Sign sign.Decrement ∷ rest)
  -- precedence 13 groups to the right
  ExprHere p precedence (Unary op operand) here rest =
      (precedence ≤ 13) × (behind : List Token) × NextSign (unary_sign op) here behind
      × ExprHere p 13 operand behind rest
  -- precedences 3 to 12 group to the left
  ExprHere p precedence (Binary op left right) here rest =
      (precedence ≤ precedence_of op) × (behind : List Token)
      × ExprHere p (precedence_of op) left here (Sign (sign.Operator op) ∷ behind)
      × ExprHere p (suc (precedence_of op)) right behind rest
  ExprHere p precedence (Compare by left right) here rest =
      (precedence ≤ comparison_precedence by) × (behind : List Token)
      × ExprHere p (comparison_precedence by) left here (Sign (sign.Comparison by) ∷ behind)
      × ExprHere p (suc (comparison_precedence by)) right behind rest
  ExprHere p precedence (LogicalAnd left right) here rest =
      (precedence ≤ 4) × (behind : List Token)
      × ExprHere p 4 left here (Sign sign.LogicalAnd ∷ behind) × ExprHere p 5 right behind rest
  ExprHere p precedence (LogicalOr left right) here rest =
      (precedence ≤ 3) × (behind : List Token)
      × ExprHere p 3 left here (Sign sign.LogicalOr ∷ behind) × ExprHere p 4 right behind rest
  -- precedence 2 groups to the right, and any expression of the site may be in its middle
  ExprHere p precedence (Conditional test first second) here rest =
      (precedence ≤ 2) × (middle last : List Token)
      × ExprHere p 3 test here (Sign sign.Question ∷ middle)
      × ExprHere p (loosest p) first middle (Sign sign.Colon ∷ last)
      × ExprHere p 2 second last rest
  -- precedence 1 groups to the right, and its left side is a reference
  ExprHere p precedence (Assign to value) here rest =
      IsMethod p × (precedence ≤ 1) × (behind : List Token)
      × PathHere to here (Sign sign.Equals ∷ behind) × ExprHere p 1 value behind rest
  ExprHere p precedence (CompoundAssign op to value) here rest =
      IsMethod p × (precedence ≤ 1) × (behind : List Token)
      × PathHere to here (Sign (sign.CompoundAssign op) ∷ behind) × ExprHere p 1 value behind rest

  -- none, or some parted by commas
  pub ArgumentsHere : Site → Arguments Path → List Token → List Token → Type 0
  ArgumentsHere p Nil here rest = here ≡ rest
  ArgumentsHere p (Cons (Value e) others) here rest =
      (behind : List Token) × ExprHere p (loosest p) e here behind
      × MoreArgumentsHere p others behind rest
  ArgumentsHere p (Cons (Text text) others) here rest =
      (behind : List Token) × TextHere text here behind × MoreArgumentsHere p others behind rest

  -- after the first argument each further one has a comma before it
  pub MoreArgumentsHere : Site → Arguments Path → List Token → List Token → Type 0
  MoreArgumentsHere p Nil here rest = here ≡ rest
  MoreArgumentsHere p (Cons (Value e) others) here rest =
      (from behind : List Token) × NextSign sign.Comma here from
      × ExprHere p (loosest p) e from behind × MoreArgumentsHere p others behind rest
  MoreArgumentsHere p (Cons (Text text) others) here rest =
      (from behind : List Token) × NextSign sign.Comma here from
      × TextHere text from behind × MoreArgumentsHere p others behind rest

-- `( e )`
abbrev pub ConditionHere : Site → Expr Path → List Token → List Token → Type 0
ConditionHere p e here rest =
    (inside : List Token) × NextSign sign.OpenParenthesis here inside
    × ExprHere p (loosest p) e inside (Sign sign.CloseParenthesis ∷ rest)
