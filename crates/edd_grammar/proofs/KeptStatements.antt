-- Statements that are spelled by tokens keep what trees keep.
use Rattle.std.proofs.Common.{◌≡◌, Bool, true, false, ◌&&◌, List, [], ◌∷◌, Option, Some, None, refl, inl, inr}
use Rattle.std.specs.List.{list_all}
use Rattle.edd_syntax.specs.declared.symbols.Keyword.TheVariants as word
use Rattle.edd_syntax.specs.declared.symbols.Symbol.TheVariants as sign
use Rattle.edd_syntax.specs.Token.{Token, Reserved, Sign}
use Rattle.edd_syntax.specs.Reference.{Path}
use Rattle.edd_syntax.specs.Expression.{Expr}
use Rattle.edd_syntax.specs.Statement.{Declarator, Stmt, Empty, Evaluate, Block, If, IfElse, While, Do, For, Switch, Break, Continue, Return, Body, Nil, Cons, Declare, Statement, CaseLabel, DefaultLabel}
use Rattle.edd_syntax.specs.WellFormed.{if_some, is_not_empty, is_path, is_plain, is_expr, is_declarator, is_stmt, is_body}
use Rattle.edd_syntax.specs.Grammar.{InMethod}
use Rattle.edd_syntax.specs.StatementGrammar.{ValueHere, DeclaratorHere, DeclaratorsHere, MoreDeclaratorsHere, LocalTypeHere, OptionalExprHere, StmtHere, BodyHere}
use Rattle.edd_grammar.specs.KeptTokens.{Kept}
use Rattle.edd_grammar.proofs.KeptExpressions.{Both, kept_next, kept_tail, kept_same, plain_kept, expr_kept, condition_kept}
use Rattle.edd_grammar.proofs.KeptConditionals.{case_kept}

-- ---- declarations

value_kept : (v : Option (Expr Path)) (here rest : List Token) → ValueHere v here rest → Kept here
    → Both (if_some (is_expr is_path is_plain) v) rest
value_kept None here rest h k = (refl, kept_same here rest h k)
value_kept (Some e) here rest h k = expr_kept InMethod 1 e h.0 rest h.2
    (kept_next (Sign sign.Equals) here h.0 h.1 k).1

declarator_kept : (d : Declarator Path) (here rest : List Token) → DeclaratorHere d here rest
    → Kept here → Both (is_declarator is_path is_plain d) rest
declarator_kept d here rest h k =
    let name = plain_kept d.place here h.0 h.1 k in
    let value = value_kept d.value h.0 rest h.2 name.1 in
    (rw (name.0, value.0) refl, value.1)

more_declarators_kept : (ds : List (Declarator Path)) (here rest : List Token)
    → MoreDeclaratorsHere ds here rest → Kept here
    → Both (list_all (is_declarator is_path is_plain) ds) rest
more_declarators_kept [] here rest h k = (refl, kept_same here rest h k)
more_declarators_kept (d ∷ more) here rest h k =
    let first = declarator_kept d h.0 h.1 h.3 (kept_next (Sign sign.Comma) here h.0 h.2 k).1 in
    let others = more_declarators_kept more h.1 rest h.4 first.1 in
    (rw (first.0, others.0) refl, others.1)

-- one declarator at least
declarators_kept : (ds : List (Declarator Path)) (here rest : List Token)
    → DeclaratorsHere ds here rest → Kept here
    → (is_not_empty ds ≡ true) × (list_all (is_declarator is_path is_plain) ds ≡ true) × Kept rest
declarators_kept [] here rest h k = absurd h
declarators_kept (d ∷ more) here rest h k =
    let first = declarator_kept d here h.0 h.1 k in
    let others = more_declarators_kept more h.0 rest h.2 first.1 in
    (refl, rw (first.0, others.0) refl, others.1)

local_type_kept : (here rest : List Token) → LocalTypeHere here rest → Kept here → Kept rest
local_type_kept here rest (inl e) k = (kept_next (Reserved word.Int) here rest e k).1
local_type_kept here rest (inr e) k = (kept_next (Reserved word.Long) here rest e k).1

optional_kept : (e : Option (Expr Path)) (here rest : List Token) → OptionalExprHere e here rest
    → Kept here → Both (if_some (is_expr is_path is_plain) e) rest
optional_kept None here rest h k = (refl, kept_same here rest h k)
optional_kept (Some e) here rest h k = expr_kept InMethod 1 e here rest h k

-- ---- statements

and_true : (a b : Bool) → a ≡ true → b ≡ true → (a && b) ≡ true
and_true true b e f = f
and_true false b e f = absurd cc

and_and_true : (a b c : Bool) → a ≡ true → b ≡ true → c ≡ true → (a && b && c) ≡ true
and_and_true true true c e f g = g
and_and_true true false c e f g = absurd cc
and_and_true false b c e f g = absurd cc

mutual
  pub statement_kept : (s : Stmt Path) (here rest : List Token) → StmtHere s here rest → Kept here
      → Both (is_stmt is_path is_plain s) rest
  statement_kept Empty here rest h k = kept_next (Sign sign.Semicolon) here rest h k
  statement_kept (Evaluate e) here rest h k = let all =
      expr_kept InMethod 1 e here _ h k in (all.0, kept_tail (Sign sign.Semicolon) rest all.1)
  statement_kept (Block body) here rest h k =
      let all = body_kept false body h.0 _ h.2 (kept_next (Sign sign.OpenBrace) here h.0 h.1 k).1 in
      (all.0, kept_tail (Sign sign.CloseBrace) rest all.1)
  statement_kept (If condition first) here rest h k =
      let test = condition_kept InMethod condition h.0 h.1 h.3
      (kept_next (Reserved word.MethodIf) here h.0 h.2 k).1 in
      let one = statement_kept first h.1 rest h.4 test.1 in
      (rw (test.0, one.0) refl, one.1)
  statement_kept (IfElse condition first otherwise) here rest h k =
      let test = condition_kept InMethod condition h.0 h.1 h.4
      (kept_next (Reserved word.MethodIf) here h.0 h.3 k).1 in
      let one = statement_kept first h.1 _ h.5 test.1 in
      let other = statement_kept otherwise h.2 rest h.6
      (kept_tail (Reserved word.MethodElse) h.2 one.1) in
      (rw (test.0, one.0, other.0) refl, other.1)
  statement_kept (While condition body) here rest h k =
      let test = condition_kept InMethod condition h.0 h.1 h.3
      (kept_next (Reserved word.While) here h.0 h.2 k).1 in
      let turn = statement_kept body h.1 rest h.4 test.1 in
      (rw (test.0, turn.0) refl, turn.1)
  statement_kept (Do body condition) here rest h k =
      let turn = statement_kept body h.0 _ h.3 (kept_next (Reserved word.Do) here h.0 h.2 k).1 in
      let test = condition_kept InMethod condition h.1 _ h.4
      (kept_tail (Reserved word.While) h.1 turn.1) in
      (rw (turn.0, test.0) refl, kept_tail (Sign sign.Semicolon) rest test.1)
  statement_kept (For initial condition update body) here rest h k =
      let paren = kept_next (Reserved word.For) here h.0 h.5 k in
      let inside = kept_next (Sign sign.OpenParenthesis) h.0 h.1 h.6 paren.1 in
      let a = optional_kept initial h.1 _ h.7 inside.1 in
      let b = optional_kept condition h.2 _ h.8 (kept_tail (Sign sign.Semicolon) h.2 a.1) in
      let c = optional_kept update h.3 _ h.9 (kept_tail (Sign sign.Semicolon) h.3 b.1) in
      let turn = statement_kept body h.4 rest h.10 (kept_tail (Sign sign.CloseParenthesis) h.4 c.1)
      in
      (rw (a.0, b.0, c.0, turn.0) refl, turn.1)
  statement_kept (Switch on body) here rest h k =
      let test = condition_kept InMethod on h.0 h.1 h.4
      (kept_next (Reserved word.Switch) here h.0 h.3 k).1 in
      let all = body_kept true body h.2 _ h.6 (kept_next (Sign sign.OpenBrace) h.1 h.2 h.5 test.1).1
      in
      (rw (test.0, all.0) refl, kept_tail (Sign sign.CloseBrace) rest all.1)
  statement_kept Break here rest h k = (
    refl,
    kept_tail (Sign sign.Semicolon) rest
        (kept_next (Reserved word.Break) here (Sign sign.Semicolon ∷ rest) h k).1,
  )
  statement_kept Continue here rest h k = (
    refl,
    kept_tail (Sign sign.Semicolon) rest
        (kept_next (Reserved word.Continue) here (Sign sign.Semicolon ∷ rest) h k).1,
  )
  statement_kept Return here rest h k = (
    refl,
    kept_tail (Sign sign.Semicolon) rest
        (kept_next (Reserved word.Return) here (Sign sign.Semicolon ∷ rest) h k).1,
  )

  pub body_kept : (labels : Bool) (body : Body Path) (here rest : List Token)
      → BodyHere labels body here rest → Kept here
      → Both (is_body is_path is_plain labels body) rest
  body_kept labels Nil here rest h k = (refl, kept_same here rest h k)
  body_kept labels (Cons (Declare declarators) more) here rest h k =
      let first = declarators_kept declarators h.0 _ h.3 (local_type_kept here h.0 h.2 k) in
      let others = body_kept labels more h.1 rest h.4 (kept_tail (Sign sign.Semicolon) h.1 first.2)
      in
      (rw (first.0, first.1, others.0) refl, others.1)
  body_kept labels (Cons (Statement s) more) here rest h k =
      let first = statement_kept s here h.0 h.1 k in
      let others = body_kept labels more h.0 rest h.2 first.1 in
      (rw (first.0, others.0) refl, others.1)
  body_kept labels (Cons (CaseLabel label) more) here rest h k =
      let first = case_kept word.MethodCase label here h.1 h.2 k in
      let others = body_kept labels more h.1 rest h.3 first.1 in
      (and_and_true labels _ _ h.0 first.0 others.0, others.1)
  body_kept labels (Cons DefaultLabel more) here rest h k =
      let colon = kept_next (Reserved word.MethodDefault) here (Sign sign.Colon ∷ h.1) h.2 k in
      let others = body_kept labels more h.1 rest h.3 (kept_tail (Sign sign.Colon) h.1 colon.1) in
      (and_true labels _ h.0 others.0, others.1)
