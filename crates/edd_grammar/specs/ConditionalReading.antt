-- Reading labels, conditions and conditionals from left to right.
use Rattle.std.specs.Prelude.{ℕ, zero, suc, Bool, true, ℤ, pos, neg_ℤ, List, ◌∷◌, drop, length, Some, None, if◌then◌else◌}
use Rattle.edd_syntax.specs.declared.operators.Operator.TheVariants as operator
use Rattle.edd_syntax.specs.declared.symbols.Keyword.TheVariants as word
use Rattle.edd_syntax.specs.declared.symbols.Symbol.TheVariants as sign
use Rattle.edd_syntax.specs.Text as texts
use Rattle.edd_syntax.specs.Token.{Token, Integer, Sign}
use Rattle.edd_syntax.specs.Reference.{Path}
use Rattle.edd_syntax.specs.Expression.{Expr}
use Rattle.edd_syntax.specs.Conditional as cond
use Rattle.edd_syntax.specs.Conditional.{Cond, Value, Select, Conds, Arms, NoArms, ConsArm, Case, Default}
use Rattle.edd_syntax.specs.Grammar.{Site, InAttribute, loosest}
use Rattle.edd_grammar.specs.Signs.{same_sign}
use Rattle.edd_grammar.specs.Reading.{◌>>=◌, Read, at, expect, at_word, is_text, text_at}
use Rattle.edd_grammar.specs.ExpressionReading.{expr_at}

-- after `-`
abbrev pub negative_at : List Token → Read ℤ
negative_at (Integer n ∷ rest) = Some (neg_ℤ (pos n), rest)
negative_at _ = None

-- an integer, or its negative
abbrev pub label_at : List Token → Read ℤ
label_at (Integer n ∷ rest) = Some (pos n, rest)
label_at (Sign s ∷ rest) = if same_sign s (sign.Operator operator.Subtract) then negative_at rest
    else None
label_at _ = None

-- `( e )`
unfoldable pub condition_at : Site → ℕ → List Token → Read (Expr Path)
condition_at p height_left here = do
  inside ← expect sign.OpenParenthesis here
  (e, behind) ← expr_at p height_left (loosest p) inside
  rest ← expect sign.CloseParenthesis behind
  Some (e, rest)

-- A conditional whose conditions have at most this height, whose values `value` reads, whose
-- branches `branch` reads, and the IF after an ELSE `inner`.
module _ {V : Type 0} (height_left : ℕ) (value : List Token → Read V) (branch : List Token
    → Read (Conds Path V)) (inner : List Token → Read (Cond Path V)) where
  -- a branch in braces
  unfoldable pub braces_at : List Token → Read (Conds Path V)
  braces_at here = do
    inside ← expect sign.OpenBrace here
    (all, behind) ← branch inside
    rest ← expect sign.CloseBrace behind
    Some (all, rest)

  -- ELSE with an IF or a branch in braces after it, or nothing
  unfoldable pub else_at : List Token → Read (Conds Path V)
  else_at here =
      if at_word word.Else here
      then (if at_word word.If (drop 1 here) then (inner (drop 1 here)
      >>= λ c. Some (cond.Cons c.0 cond.Nil, c.1)) else braces_at (drop 1 here))
      else Some (cond.Nil, here)

  -- after CASE
  unfoldable pub case_at : List Token → Read (ℤ × Conds Path V)
  case_at here = do
    (label, colon) ← label_at here
    from ← expect sign.Colon colon
    (body, rest) ← branch from
    Some ((label, body), rest)

  -- after DEFAULT
  unfoldable pub default_at : List Token → Read (Conds Path V)
  default_at here = do
    from ← expect sign.Colon here
    branch from

  -- The arms up to the closing brace. The number bounds how many there are.
  unfoldable pub arms_at : ℕ → List Token → Read (Arms Path V)
  arms_at zero here = None
  arms_at (suc n) here =
      if at sign.CloseBrace here then Some (NoArms, here)
      else if at_word word.Case here then (case_at (drop 1 here) >>= λ x. arms_at n x.1
      >>= λ arms. Some (ConsArm (Case x.0.0 x.0.1) arms.0, arms.1))
      else if at_word word.Default here then (default_at (drop 1 here) >>= λ x. arms_at n x.1
      >>= λ arms. Some (ConsArm (Default x.0) arms.0, arms.1))
      else None

  -- after IF
  unfoldable pub if_at : List Token → Read (Cond Path V)
  if_at here = do
    (condition, from) ← condition_at InAttribute height_left here
    (first, behind) ← braces_at from
    (otherwise, rest) ← else_at behind
    Some (cond.If condition first otherwise, rest)

  -- after SELECT
  unfoldable pub select_at : List Token → Read (Cond Path V)
  select_at here = do
    (on, from) ← condition_at InAttribute height_left here
    inside ← expect sign.OpenBrace from
    (arms, behind) ← arms_at (suc (length inside)) inside
    rest ← expect sign.CloseBrace behind
    Some (Select on arms, rest)

  -- an IF, a SELECT or a value
  unfoldable pub cond_layer : List Token → Read (Cond Path V)
  cond_layer here =
      if at_word word.If here then if_at (drop 1 here)
      else if at_word word.Select here then select_at (drop 1 here)
      else (value here >>= λ v. Some (Value v.0, v.1))

-- ---- a single value

-- a value and the semicolon after it
unfoldable pub ended : {V : Type 0} → (List Token → Read V) → List Token → Read V
ended value here = do
  (v, behind) ← value here
  rest ← expect sign.Semicolon behind
  Some (v, rest)

-- exactly one conditional
unfoldable pub only : {V : Type 0} → (List Token → Read (Cond Path V)) → List Token
    → Read (Conds Path V)
only inner here = inner here >>= λ c. Some (cond.Cons c.0 cond.Nil, c.1)

-- A single value of at most this height, each of whose values of at most some height `value` reads.
unfoldable pub one_at : {V : Type 0} → (ℕ → List Token → Read V) → ℕ → List Token
    → Read (Cond Path V)
one_at value zero here = None
one_at value (suc height_left) here = cond_layer height_left (ended (value height_left))
    (only (one_at value height_left)) (one_at value height_left) here

-- a text as a value of a conditional
unfoldable pub text_value : ℕ → List Token → Read texts.Text
text_value height_left here = if is_text here then text_at here else None

-- an expression as a value of a conditional
unfoldable pub expr_value : ℕ → List Token → Read (Expr Path)
expr_value height_left here = expr_at InAttribute height_left (loosest InAttribute) here

-- ---- lists

-- whether a list ends here: at a closing brace or at the next arm
abbrev pub list_ends : List Token → Bool
list_ends here = if at sign.CloseBrace here then true else if at_word word.Case here then true else
    at_word word.Default here

-- after a comma, if one is next
abbrev pub skip_comma : List Token → List Token
skip_comma here = if at sign.Comma here then drop 1 here else here

-- Elements up to the end of the list, each with a comma after it or none. The number bounds how
-- many there are.
unfoldable pub elements_at : {V : Type 0} → (List Token → Read (Cond Path V)) → ℕ → List Token
    → Read (Conds Path V)
elements_at element zero here = None
elements_at element (suc n) here =
    if list_ends here then Some (cond.Nil, here)
    else (element here >>= λ c. elements_at element n (skip_comma c.1)
    >>= λ more. Some (cond.Cons c.0 more.0, more.1))

-- all elements of a list
unfoldable pub listed : {V : Type 0} → (List Token → Read (Cond Path V)) → List Token
    → Read (Conds Path V)
listed element here = elements_at element (suc (length here)) here

-- An element of a list of at most this height, each of whose values of at most some height `value`
-- reads.
unfoldable pub element_at : {V : Type 0} → (ℕ → List Token → Read V) → ℕ → List Token
    → Read (Cond Path V)
element_at value zero here = None
element_at value (suc height_left) here = cond_layer height_left (value height_left)
    (listed (element_at value height_left)) (element_at value height_left) here

-- the elements of a list, each of at most this height and with such values
unfoldable pub list_at : {V : Type 0} → (ℕ → List Token → Read V) → ℕ → List Token
    → Read (Conds Path V)
list_at value height_left here = listed (element_at value height_left) here
