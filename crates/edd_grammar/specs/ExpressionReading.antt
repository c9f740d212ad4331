-- Reading expressions from left to right.
use Rattle.std.specs.Prelude.{ℕ, zero, suc, Bool, true, false, ◌&&◌, List, [], ◌∷◌, drop, length, Option, Some, None, nat_le, if◌then◌else◌}
use Rattle.edd_syntax.specs.declared.operators.UnaryOperator.{UnaryOperator}
use Rattle.edd_syntax.specs.declared.operators.IncrementOperator.{IncrementOperator}
use Rattle.edd_syntax.specs.declared.symbols.Symbol.{Symbol}
use Rattle.edd_syntax.specs.declared.symbols.Symbol.TheVariants as sign
use Rattle.edd_syntax.specs.Text.{Name}
use Rattle.edd_syntax.specs.Token.{Token, Reserved, Identifier, Integer, String, Sign}
use Rattle.edd_syntax.specs.Token as token
use Rattle.edd_syntax.specs.Reference.{Path}
use Rattle.edd_syntax.specs.Expression as tree
use Rattle.edd_syntax.specs.Expression.{Expr, Argument, Text, Value, Arguments}
use Rattle.edd_syntax.specs.Grammar.{Site, InAttribute, InMethod, loosest}
use Rattle.edd_syntax.specs.Size.{height}
use Rattle.edd_grammar.specs.Signs.{Infix, infix_precedence, infix_tree, infix_of, unary_of, before_of, after_of, same_sign, Assignment, assignment_tree, assignment_of}
use Rattle.edd_grammar.specs.Reading.{◌>>=◌, on_option, Read, at, expect, path_behind, path_at, is_text, text_at}

-- the site is in a method
abbrev pub is_method : Site → Bool
is_method InAttribute = false
is_method InMethod = true

-- the operator that is next, where it is of this precedence or a tighter one
abbrev pub operator_at : ℕ → List Token → Read Infix
operator_at precedence (Sign s ∷ rest) = infix_of s
    >>= λ op. if nat_le precedence (infix_precedence op) then Some (op, rest) else None
operator_at precedence _ = None

-- `=`, or a compound assignment operator
abbrev pub assignment_at : List Token → Read Assignment
assignment_at (Sign s ∷ rest) = assignment_of s >>= λ op. Some (op, rest)
assignment_at _ = None

-- `++` or `--` after a reference
abbrev pub increment_at : List Token → Read IncrementOperator
increment_at (Sign s ∷ rest) = after_of s >>= λ op. Some (op, rest)
increment_at _ = None

-- after a path
unfoldable pub postfix : Site → Path → List Token → Read (Expr Path)
postfix p r here =
    on_option (increment_at here) (Some (tree.Reference r, here))
    (λ o. if is_method p then Some (tree.Increment o.0 r, o.1) else None)

-- Reads an expression inside another one, at a site for this precedence or a tighter one.
abbrev pub Inner : Type 0
Inner = ℕ → List Token → Read (Expr Path)

-- the path of an expression that is a reference and nothing else
abbrev pub as_path : Expr Path → Option Path
as_path (tree.Reference r) = Some r
as_path _ = None

-- the left side of an assignment, where this precedence allows one
abbrev pub assigned : Site → ℕ → Expr Path → Option Path
assigned p precedence e = if nat_le precedence 1 && is_method p then as_path e else None

-- these arguments, if the tokens after the closing parenthesis are there
abbrev pub closing : Arguments Path → Option (List Token) → Read (Arguments Path)
closing all None = None
closing all (Some rest) = Some (all, rest)

-- a path after `++` or `--`
unfoldable pub step_before : Site → IncrementOperator → List Token → Read (Expr Path)
step_before p op here = if is_method p then
    (path_at here >>= λ r. Some (tree.Increment op r.0, r.1)) else None

module _ (p : Site) (inner : Inner) where
  -- a text or an expression
  unfoldable pub argument_at : List Token → Read (Argument Path)
  argument_at here =
      if is_text here
      then (text_at here >>= λ w. Some (Text w.0, w.1))
      else (inner (loosest p) here >>= λ e. Some (Value e.0, e.1))

  -- The arguments up to the closing parenthesis, one at least. The number bounds how many there
  -- are.
  unfoldable pub some_arguments : ℕ → List Token → Read (Arguments Path)
  some_arguments zero here = None
  some_arguments (suc n) here = do
    (first, behind) ← argument_at here
    (others, rest) ← if at sign.Comma behind then some_arguments n (drop 1 behind) else closing
        tree.Nil (expect sign.CloseParenthesis behind)
    Some (tree.Cons first others, rest)

  -- after an opening parenthesis: the arguments, with the closing parenthesis
  unfoldable pub arguments_at : List Token → Read (Arguments Path)
  arguments_at here = if at sign.CloseParenthesis here then Some (tree.Nil, drop 1 here) else
      some_arguments (length here) here

  -- after a name and `[`
  unfoldable pub index_behind : Name → List Token → Read (Expr Path)
  index_behind name here = do
    (e, behind) ← inner (loosest p) here
    rest ← expect sign.CloseBracket behind
    Some (tree.Indexed (record { base = name; members = [] }) e, rest)

  -- after a name
  unfoldable pub named_at : Name → List Token → Read (Expr Path)
  named_at name here =
      if at sign.OpenParenthesis here
      then (if is_method p then (arguments_at (drop 1 here)
      >>= λ args. Some (tree.Call (record { base = name; members = [] }) args.0, args.1)) else
      None)
      else if at sign.OpenBracket here then index_behind name (drop 1 here)
      else postfix p (path_behind name here).0 (path_behind name here).1

  -- after a unary operator: its operand
  unfoldable pub unary_behind : UnaryOperator → List Token → Read (Expr Path)
  unary_behind op here = inner 13 here >>= λ e. Some (tree.Unary op e.0, e.1)

  -- after an opening parenthesis: the expression inside, with the closing parenthesis
  unfoldable pub parentheses_behind : List Token → Read (Expr Path)
  parentheses_behind here = do
    (e, behind) ← inner (loosest p) here
    rest ← expect sign.CloseParenthesis behind
    Some (tree.Parentheses e, rest)

  -- after a sign
  unfoldable pub signed_at : Symbol → List Token → Read (Expr Path)
  signed_at s here =
      if same_sign s sign.OpenParenthesis then parentheses_behind here
      else on_option (unary_of s) (before_of s >>= λ op. step_before p op here)
      (λ op. unary_behind op here)

  -- precedences 13 to 15
  unfoldable pub operand_at : List Token → Read (Expr Path)
  operand_at [] = None
  operand_at (Identifier n ∷ rest) = named_at n rest
  operand_at (Integer n ∷ rest) = Some (tree.Literal n, rest)
  operand_at (token.Decimal ∷ rest) = Some (tree.Decimal, rest)
  operand_at (String s ∷ rest) = None
  operand_at (Reserved w ∷ rest) = None
  operand_at (Sign s ∷ rest) = signed_at s rest

  -- The right side of an operator, joined with its left side.
  unfoldable pub joined_at : ℕ → Infix → Expr Path → List Token → Read (Expr Path)
  joined_at height_left op left here =
      if nat_le (height left) height_left then (inner (suc (infix_precedence op)) here
      >>= λ right. Some (infix_tree op left right.0, right.1)) else None

  -- The operators of this precedence and of tighter ones that follow a left side, where operands
  -- have at most this height. The number bounds how many there are.
  unfoldable pub chain : ℕ → ℕ → ℕ → Expr Path → List Token → Read (Expr Path)
  chain height_left precedence zero left here =
      on_option (operator_at precedence here) (Some (left, here)) (λ o. None)
  chain height_left precedence (suc n) left here =
      on_option (operator_at precedence here) (Some (left, here))
      (λ o. joined_at height_left o.0 left o.1
      >>= λ whole. chain height_left precedence n whole.0 whole.1)

  -- precedence 2, after its condition
  unfoldable pub choice_at : ℕ → ℕ → Expr Path → List Token → Read (Expr Path)
  choice_at height_left precedence c here =
      if nat_le precedence 2 && at sign.Question here
      then (if nat_le (height c) height_left then (do
        (first, behind) ← inner (loosest p) (drop 1 here)
        from ← expect sign.Colon behind
        (second, rest) ← inner 2 from
        Some (tree.Conditional c first second, rest)) else None)
      else Some (c, here)

  -- precedence 1, after what may be its left side
  unfoldable pub assign_at : ℕ → Expr Path → List Token → Read (Expr Path)
  assign_at precedence e here =
      on_option (assigned p precedence e) (Some (e, here))
      (λ r. on_option (assignment_at here) (Some (e, here))
      (λ o. inner 1 o.1 >>= λ v. Some (assignment_tree o.0 r v.0, v.1)))

  -- an expression of this precedence or a tighter one, where `inner` reads those inside it
  unfoldable pub layer : ℕ → Inner
  layer height_left precedence here = do
    (first, behind) ← operand_at here
    (left, from) ← chain height_left precedence (suc height_left) first behind
    (whole, to) ← choice_at height_left precedence left from
    assign_at precedence whole to

-- An expression of at most this height.
unfoldable pub expr_at : Site → ℕ → Inner
expr_at p zero precedence here = None
expr_at p (suc height_left) precedence here =
    layer p (expr_at p height_left) height_left precedence here
