-- Reading statements and what is between braces from left to right.
use Rattle.std.specs.Prelude.{ℕ, zero, suc, Bool, true, false, ◌&&◌, ℤ, List, drop, length, Option, Some, None, if◌then◌else◌}
use Rattle.edd_syntax.specs.declared.symbols.Keyword.TheVariants as word
use Rattle.edd_syntax.specs.declared.symbols.Symbol.{Symbol}
use Rattle.edd_syntax.specs.declared.symbols.Symbol.TheVariants as sign
use Rattle.edd_syntax.specs.Token.{Token}
use Rattle.edd_syntax.specs.Reference.{Path}
use Rattle.edd_syntax.specs.Expression.{Expr}
use Rattle.edd_syntax.specs.Statement.{Declarator, Stmt, Empty, Evaluate, Block, If, IfElse, While, Do, For, Switch, Break, Continue, Return, Part, Body, Nil, Cons, Declare, Statement, CaseLabel, DefaultLabel}
use Rattle.edd_syntax.specs.Grammar.{InMethod}
use Rattle.edd_grammar.specs.Reading.{◌>>=◌, Read, at, expect, at_word, expect_word}
use Rattle.edd_grammar.specs.ExpressionReading.{expr_at}
use Rattle.edd_grammar.specs.ConditionalReading.{label_at, condition_at}
use Rattle.edd_grammar.specs.DeclarationReading.{declarators_at}

-- ---- declarations and labels

-- whether `int` or `long` is next
abbrev pub at_local_type : List Token → Bool
at_local_type here = if at_word word.Int here then true else at_word word.Long here

-- Declarators after their type and the semicolon after them. The declaration and each declarator
-- are a node above a value, so a declaration is two levels high at least.
unfoldable pub declaration_at : ℕ → List Token → Read (List (Declarator Path))
declaration_at zero here = None
declaration_at (suc zero) here = None
declaration_at (suc (suc height_left)) here = do
  (declarators, behind) ← declarators_at height_left here
  rest ← expect sign.Semicolon behind
  Some (declarators, rest)

-- a label after `case` and the colon after it
unfoldable pub case_label_at : List Token → Read ℤ
case_label_at here = do
  (label, colon) ← label_at here
  rest ← expect sign.Colon colon
  Some (label, rest)

-- ---- statements, whose expressions and bodies have at most the height `height_left`, and whose
-- statements `inner` reads

module _ (height_left : ℕ) (inner : List Token → Read (Stmt Path)) where
  -- a declaration, a label where labels may be, or a statement
  unfoldable pub part_at : (labels : Bool) → List Token → Read (Part Path)
  part_at labels here =
      if at_local_type here then (declaration_at height_left (drop 1 here)
      >>= λ d. Some (Declare d.0, d.1))
      else if labels && at_word word.MethodCase here then (case_label_at (drop 1 here)
      >>= λ z. Some (CaseLabel z.0, z.1))
      else if labels && at_word word.MethodDefault here then (expect sign.Colon (drop 1 here)
      >>= λ rest. Some (DefaultLabel, rest))
      else (inner here >>= λ s. Some (Statement s.0, s.1))

  -- The parts up to the closing brace. The number bounds how many there are.
  unfoldable pub parts_at : (labels : Bool) → ℕ → List Token → Read (Body Path)
  parts_at labels zero here = None
  parts_at labels (suc n) here =
      if at sign.CloseBrace here then Some (Nil, here)
      else (part_at labels here >>= λ p. parts_at labels n p.1
      >>= λ more. Some (Cons p.0 more.0, more.1))

  -- after an opening brace, with the closing one
  unfoldable pub body_at : (labels : Bool) → List Token → Read (Body Path)
  body_at labels here = do
    (body, behind) ← parts_at labels (suc (length here)) here
    rest ← expect sign.CloseBrace behind
    Some (body, rest)

  -- after the first branch of an `if`
  unfoldable pub method_else_at : Expr Path → Stmt Path → List Token → Read (Stmt Path)
  method_else_at condition first here =
      if at_word word.MethodElse here then (inner (drop 1 here)
      >>= λ s. Some (IfElse condition first s.0, s.1))
      else Some (If condition first, here)

  -- after `if`
  unfoldable pub method_if_at : List Token → Read (Stmt Path)
  method_if_at here = do
    (condition, from) ← condition_at InMethod height_left here
    (first, behind) ← inner from
    method_else_at condition first behind

  -- after `while`
  unfoldable pub while_at : List Token → Read (Stmt Path)
  while_at here = do
    (condition, from) ← condition_at InMethod height_left here
    (body, rest) ← inner from
    Some (While condition body, rest)

  -- after `do`
  unfoldable pub do_at : List Token → Read (Stmt Path)
  do_at here = do
    (body, behind) ← inner here
    test ← expect_word word.While behind
    (condition, from) ← condition_at InMethod height_left test
    rest ← expect sign.Semicolon from
    Some (Do body condition, rest)

  -- an expression or none up to this sign, with the sign
  unfoldable pub optional_at : Symbol → List Token → Read (Option (Expr Path))
  optional_at s here =
      if at s here then Some (None, drop 1 here)
      else (expr_at InMethod height_left 1 here >>= λ e. expect s e.1
      >>= λ rest. Some (Some e.0, rest))

  -- after `for`
  unfoldable pub for_at : List Token → Read (Stmt Path)
  for_at here = do
    inside ← expect sign.OpenParenthesis here
    (initial, second) ← optional_at sign.Semicolon inside
    (condition, third) ← optional_at sign.Semicolon second
    (update, behind) ← optional_at sign.CloseParenthesis third
    (body, rest) ← inner behind
    Some (For initial condition update body, rest)

  -- after `switch`
  unfoldable pub switch_at : List Token → Read (Stmt Path)
  switch_at here = do
    (on, brace) ← condition_at InMethod height_left here
    inside ← expect sign.OpenBrace brace
    (body, rest) ← body_at true inside
    Some (Switch on body, rest)

  -- an expression as a statement, with its semicolon
  unfoldable pub evaluate_at : List Token → Read (Stmt Path)
  evaluate_at here = do
    (e, behind) ← expr_at InMethod height_left 1 here
    rest ← expect sign.Semicolon behind
    Some (Evaluate e, rest)

  -- a statement of a word alone, or an expression
  unfoldable pub simple_at : List Token → Read (Stmt Path)
  simple_at here =
      if at_word word.Break here then (expect sign.Semicolon (drop 1 here)
      >>= λ rest. Some (Break, rest))
      else if at_word word.Continue here then (expect sign.Semicolon (drop 1 here)
      >>= λ rest. Some (Continue, rest))
      else if at_word word.Return here then (expect sign.Semicolon (drop 1 here)
      >>= λ rest. Some (Return, rest))
      else evaluate_at here

  -- a statement, where `inner` reads the statements inside it
  unfoldable pub statement_layer : List Token → Read (Stmt Path)
  statement_layer here =
      if at sign.Semicolon here then Some (Empty, drop 1 here)
      else if at sign.OpenBrace here then (body_at false (drop 1 here)
      >>= λ b. Some (Block b.0, b.1))
      else if at_word word.MethodIf here then method_if_at (drop 1 here)
      else if at_word word.While here then while_at (drop 1 here)
      else if at_word word.Do here then do_at (drop 1 here)
      else if at_word word.For here then for_at (drop 1 here)
      else if at_word word.Switch here then switch_at (drop 1 here)
      else simple_at here

-- a statement of at most this height
unfoldable pub statement_at : ℕ → List Token → Read (Stmt Path)
statement_at zero here = None
statement_at (suc height_left) here = statement_layer height_left (statement_at height_left) here

-- the body of a method of at most this height, after its opening brace, with the closing one
unfoldable pub definition_at : ℕ → List Token → Read (Body Path)
definition_at height_left here = body_at height_left (statement_at height_left) false here
