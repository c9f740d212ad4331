-- Texts and expressions that are spelled by tokens keep what trees keep.
use Rattle.std.proofs.Common.{◌≡◌, ℕ, eqb, suc, Bool, true, false, not, ◌&&◌, List, [], ◌∷◌, ◌++◌, refl, sym, ap, ◌∙◌}
use Rattle.std.specs.List.{list_all}
use Rattle.edd_syntax.specs.declared.operators.IncrementOperator.TheVariants.{PreIncrement, PostIncrement, PreDecrement, PostDecrement}
use Rattle.edd_syntax.specs.declared.symbols.Symbol.TheVariants as sign
use Rattle.edd_syntax.specs.Text as texts
use Rattle.edd_syntax.specs.Text.{Name, Quoted, Key}
use Rattle.edd_syntax.specs.Names.{is_name}
use Rattle.edd_syntax.specs.Words.{backslash, is_escape, has_escapes, is_escaped}
use Rattle.edd_syntax.specs.Token.{Token, Identifier, Integer, String, Sign}
use Rattle.edd_syntax.specs.Token as token
use Rattle.edd_syntax.specs.Reference.{Path}
use Rattle.edd_syntax.specs.Expression as tree
use Rattle.edd_syntax.specs.Expression.{Expr, Text, Value, Arguments}
use Rattle.edd_syntax.specs.WellFormed.{is_text, is_not_empty, is_path, is_plain, is_expr, are_arguments, is_pure_expr}
use Rattle.edd_syntax.specs.Grammar.{Site, InAttribute, loosest, precedence_of, comparison_precedence, unary_sign, joined, MembersHere, PathHere, PlainHere, StringsHere, TextHere, ExprHere, ArgumentsHere, MoreArgumentsHere, ConditionHere}
use Rattle.edd_grammar.specs.KeptTokens.{is_kept_token, Kept}
use Rattle.edd_grammar.proofs.Steps.{both_true}

-- a test that holds, and tokens after that are kept
abbrev pub Both : Bool → List Token → Type 0
Both b rest = (b ≡ true) × Kept rest

pub kept_next : (t : Token) (here rest : List Token) → here ≡ t ∷ rest → Kept here
    → Both (is_kept_token t) rest
kept_next t here rest e k = both_true (is_kept_token t) (list_all is_kept_token rest)
    (sym (ap (list_all is_kept_token) e) ∙ k)

pub kept_tail : (t : Token) (rest : List Token) → Kept (t ∷ rest) → Kept rest
kept_tail t rest k = (kept_next t (t ∷ rest) rest refl k).1

pub kept_same : (here rest : List Token) → here ≡ rest → Kept here → Kept rest
kept_same here rest e k = sym (ap (list_all is_kept_token) e) ∙ k

-- ---- escapes of strings that are joined

-- one of two tests
abbrev either : Bool → Bool → Bool → Bool
either t a b = elim t [ true ↦ a | false ↦ b ]

three_true : (a b c : Bool) → (a && b && c) ≡ true → (a ≡ true) × (b ≡ true) × (c ≡ true)
three_true true true true e = (refl, refl, refl)
three_true true true false e = absurd cc
three_true true false c e = absurd cc
three_true false b c e = absurd cc

mutual
  escapes_joined : (a b : List ℕ) → has_escapes a ≡ true → has_escapes b ≡ true
      → has_escapes (a ++ b) ≡ true
  escapes_joined [] b e f = f
  escapes_joined (c ∷ a) b e f =
      (elim (eqb c backslash) as (λ t. either t (is_escaped a) (has_escapes a) ≡ true
      → either t (is_escaped (a ++ b)) (has_escapes (a ++ b)) ≡ true) [
        | true ↦ λ e. escaped_joined a b e f
        | false ↦ λ e. escapes_joined a b e f
      ]) e

  escaped_joined : (a b : List ℕ) → is_escaped a ≡ true → has_escapes b ≡ true
      → is_escaped (a ++ b) ≡ true
  escaped_joined [] b e f = absurd cc
  escaped_joined (c ∷ a) b e f =
      let parts = both_true (is_escape c) (has_escapes a) e in
      rw (parts.0, escapes_joined a b parts.1 f) refl

-- ---- references and texts

members_kept : (ms : List Name) (here rest : List Token) → MembersHere ms here rest → Kept here
    → Both (list_all is_name ms) rest
members_kept [] here rest h k = (refl, kept_same here rest h k)
members_kept (m ∷ ms) here rest h k =
    let dot = kept_next (Sign sign.Dot) here (Identifier m ∷ h.0) h.1 k in
    let name = kept_next (Identifier m) (Identifier m ∷ h.0) h.0 refl dot.1 in
    let more = members_kept ms h.0 rest h.2 name.1 in
    (rw (name.0, more.0) refl, more.1)

pub path_kept : (r : Path) (here rest : List Token) → PathHere r here rest → Kept here
    → Both (is_path r) rest
path_kept r here rest h k =
    let name = kept_next (Identifier r.base) here h.0 h.1 k in
    let members = members_kept r.members h.0 rest h.2 name.1 in
    (rw (name.0, members.0) refl, members.1)

pub plain_kept : (r : Path) (here rest : List Token) → PlainHere r here rest → Kept here
    → Both (is_plain r) rest
plain_kept r here rest h k =
    let name = kept_next (Identifier r.base) here rest h.1 k in
    (rw (name.0, h.0) refl, name.1)

strings_kept : (ss : List (List ℕ)) (here rest : List Token) → StringsHere ss here rest → Kept here
    → Both (has_escapes (joined ss)) rest
strings_kept [] here rest h k = (refl, kept_same here rest h.0 k)
strings_kept (s ∷ ss) here rest h k =
    let first = kept_next (String s) here h.0 h.1 k in
    let more = strings_kept ss h.0 rest h.2 first.1 in
    (escapes_joined s (joined ss) first.0 more.0, more.1)

pub text_kept : (w : texts.Text) (here rest : List Token) → TextHere w here rest → Kept here
    → Both (is_text w) rest
text_kept (Quoted raw) here rest h k =
    let all = strings_kept (h.0 ∷ h.1) here rest h.3 k in
    (ap has_escapes h.2 ∙ all.0, all.1)
text_kept (Key name) here rest h k =
    let bracket = kept_next (Sign sign.OpenBracket) here (Identifier name ∷ Sign sign.CloseBracket
    ∷ rest) h k in
    let key = kept_next (Identifier name) (Identifier name ∷ Sign sign.CloseBracket ∷ rest)
    (Sign sign.CloseBracket ∷ rest) refl bracket.1 in
    (key.0, kept_tail (Sign sign.CloseBracket) rest key.1)

-- ---- expressions

-- a plain name is a path
plain_path : (p : Path) → is_plain p ≡ true → is_path p ≡ true
plain_path p h = here p.members h
  where
    here : (ms : List Name) → (is_name p.base && not (is_not_empty ms)) ≡ true
        → (is_name p.base && list_all is_name ms) ≡ true
    here [] h = h
    here (m ∷ ms) h = absurd (cc ((both_true (is_name p.base) false h).1))

mutual
  pub expr_kept : (p : Site) (precedence : ℕ) (e : Expr Path) (here rest : List Token)
      → ExprHere p precedence e here rest → Kept here → Both (is_expr is_path is_plain e) rest
  expr_kept p precedence (tree.Literal n) here rest h k = kept_next (Integer n) here rest h k
  expr_kept p precedence tree.Decimal here rest h k = kept_next token.Decimal here rest h k
  expr_kept p precedence (tree.Reference from) here rest h k = path_kept from here rest h k
  expr_kept p precedence (tree.Indexed array index) here rest h k =
      let name = plain_kept array here h.0 h.2 k in
      let inside = expr_kept p (loosest p) index h.1 _ h.4
      (kept_next (Sign sign.OpenBracket) h.0 h.1 h.3 name.1).1 in (
        rw (plain_path array name.0, name.0, inside.0) refl,
        kept_tail (Sign sign.CloseBracket) rest inside.1,
      )
  expr_kept p precedence (tree.Parentheses inner) here rest h k =
      let inside = expr_kept p (loosest p) inner h.0 _ h.2
      (kept_next (Sign sign.OpenParenthesis) here h.0 h.1 k).1 in
      (inside.0, kept_tail (Sign sign.CloseParenthesis) rest inside.1)
  expr_kept p precedence (tree.Call function arguments) here rest h k =
      let name = plain_kept function here h.1 h.3 k in
      let all = arguments_kept p arguments h.2 _ h.5
      (kept_next (Sign sign.OpenParenthesis) h.1 h.2 h.4 name.1).1 in
      (rw (name.0, all.0) refl, kept_tail (Sign sign.CloseParenthesis) rest all.1)
  expr_kept p precedence (tree.Increment PreIncrement to) here rest h k =
      path_kept to h.2 rest h.4 (kept_next (Sign sign.Increment) here h.2 h.3 k).1
  expr_kept p precedence (tree.Increment PreDecrement to) here rest h k =
      path_kept to h.2 rest h.4 (kept_next (Sign sign.Decrement) here h.2 h.3 k).1
  expr_kept p precedence (tree.Increment PostIncrement to) here rest h k = let name =
      path_kept to here _ h.2 k in (name.0, kept_tail (Sign sign.Increment) rest name.1)
  expr_kept p precedence (tree.Increment PostDecrement to) here rest h k = let name =
      path_kept to here _ h.2 k in (name.0, kept_tail (Sign sign.Decrement) rest name.1)
  expr_kept p precedence (tree.Unary op operand) here rest h k = expr_kept p 13 operand h.1 rest h.3
      (kept_next (Sign (unary_sign op)) here h.1 h.2 k).1
  expr_kept p precedence (tree.Binary op left right) here rest h k =
      let first = expr_kept p (precedence_of op) left here _ h.2 k in
      let second = expr_kept p (suc (precedence_of op)) right h.1 rest h.3
      (kept_tail (Sign (sign.Operator op)) h.1 first.1) in
      (rw (first.0, second.0) refl, second.1)
  expr_kept p precedence (tree.Compare by left right) here rest h k =
      let first = expr_kept p (comparison_precedence by) left here _ h.2 k in
      let second = expr_kept p (suc (comparison_precedence by)) right h.1 rest h.3
      (kept_tail (Sign (sign.Comparison by)) h.1 first.1) in
      (rw (first.0, second.0) refl, second.1)
  expr_kept p precedence (tree.LogicalAnd left right) here rest h k =
      let first = expr_kept p 4 left here _ h.2 k in
      let second = expr_kept p 5 right h.1 rest h.3 (kept_tail (Sign sign.LogicalAnd) h.1 first.1)
      in
      (rw (first.0, second.0) refl, second.1)
  expr_kept p precedence (tree.LogicalOr left right) here rest h k =
      let first = expr_kept p 3 left here _ h.2 k in
      let second = expr_kept p 4 right h.1 rest h.3 (kept_tail (Sign sign.LogicalOr) h.1 first.1) in
      (rw (first.0, second.0) refl, second.1)
  expr_kept p precedence (tree.Conditional test first second) here rest h k =
      let a = expr_kept p 3 test here _ h.3 k in
      let b = expr_kept p (loosest p) first h.1 _ h.4 (kept_tail (Sign sign.Question) h.1 a.1) in
      let c = expr_kept p 2 second h.2 rest h.5 (kept_tail (Sign sign.Colon) h.2 b.1) in
      (rw (a.0, b.0, c.0) refl, c.1)
  expr_kept p precedence (tree.Assign to value) here rest h k =
      let name = path_kept to here _ h.3 k in
      let by = expr_kept p 1 value h.2 rest h.4 (kept_tail (Sign sign.Equals) h.2 name.1) in
      (rw (name.0, by.0) refl, by.1)
  expr_kept p precedence (tree.CompoundAssign op to value) here rest h k =
      let name = path_kept to here _ h.3 k in
      let by = expr_kept p 1 value h.2 rest h.4
      (kept_tail (Sign (sign.CompoundAssign op)) h.2 name.1) in
      (rw (name.0, by.0) refl, by.1)

  arguments_kept : (p : Site) (arguments : Arguments Path) (here rest : List Token)
      → ArgumentsHere p arguments here rest → Kept here
      → Both (are_arguments is_path is_plain arguments) rest
  arguments_kept p tree.Nil here rest h k = (refl, kept_same here rest h k)
  arguments_kept p (tree.Cons (Value e) others) here rest h k =
      let first = expr_kept p (loosest p) e here h.0 h.1 k in
      let more = more_kept p others h.0 rest h.2 first.1 in
      (rw (first.0, more.0) refl, more.1)
  arguments_kept p (tree.Cons (Text w) others) here rest h k =
      let first = text_kept w here h.0 h.1 k in
      let more = more_kept p others h.0 rest h.2 first.1 in
      (rw (first.0, more.0) refl, more.1)

  more_kept : (p : Site) (arguments : Arguments Path) (here rest : List Token)
      → MoreArgumentsHere p arguments here rest → Kept here
      → Both (are_arguments is_path is_plain arguments) rest
  more_kept p tree.Nil here rest h k = (refl, kept_same here rest h k)
  more_kept p (tree.Cons (Value e) others) here rest h k =
      let first = expr_kept p (loosest p) e h.0 h.1 h.3
      (kept_next (Sign sign.Comma) here h.0 h.2 k).1 in
      let more = more_kept p others h.1 rest h.4 first.1 in
      (rw (first.0, more.0) refl, more.1)
  more_kept p (tree.Cons (Text w) others) here rest h k =
      let first = text_kept w h.0 h.1 h.3 (kept_next (Sign sign.Comma) here h.0 h.2 k).1 in
      let more = more_kept p others h.1 rest h.4 first.1 in
      (rw (first.0, more.0) refl, more.1)

-- an expression of an attribute has no assignment, increment or call
pure_expr : (precedence : ℕ) (e : Expr Path) (here rest : List Token)
    → ExprHere InAttribute precedence e here rest → is_expr is_path is_plain e ≡ true
    → is_pure_expr is_path is_plain e ≡ true
pure_expr precedence (tree.Literal n) here rest h e = e
pure_expr precedence tree.Decimal here rest h e = e
pure_expr precedence (tree.Reference from) here rest h e = e
pure_expr precedence (tree.Indexed array index) here rest h e =
    let parts = both_true (is_path array && is_plain array) (is_expr is_path is_plain index) e in
    rw (parts.0, pure_expr (loosest InAttribute) index h.1 _ h.4 parts.1) refl
pure_expr precedence (tree.Parentheses inner) here rest h e =
    pure_expr (loosest InAttribute) inner h.0 _
    h.2 e
pure_expr precedence (tree.Call function arguments) here rest h e = absurd h.0
pure_expr precedence (tree.Increment PreIncrement to) here rest h e = absurd h.0
pure_expr precedence (tree.Increment _ to) here rest h e = absurd h.0
pure_expr precedence (tree.Unary op operand) here rest h e = pure_expr 13 operand h.1 rest h.3 e
pure_expr precedence (tree.Binary op left right) here rest h e =
    let parts = both_true (is_expr is_path is_plain left) (is_expr is_path is_plain right) e in
    rw (
      pure_expr (precedence_of op) left here _ h.2 parts.0,
      pure_expr (suc (precedence_of op)) right h.1 rest
          h.3 parts.1,
    ) refl
pure_expr precedence (tree.Compare by left right) here rest h e =
    let parts = both_true (is_expr is_path is_plain left) (is_expr is_path is_plain right) e in
    rw (
      pure_expr (comparison_precedence by) left here _ h.2 parts.0,
      pure_expr (suc (comparison_precedence by))
          right h.1 rest h.3 parts.1,
    ) refl
pure_expr precedence (tree.LogicalAnd left right) here rest h e =
    let parts = both_true (is_expr is_path is_plain left) (is_expr is_path is_plain right) e in
    rw (pure_expr 4 left here _ h.2 parts.0, pure_expr 5 right h.1 rest h.3 parts.1) refl
pure_expr precedence (tree.LogicalOr left right) here rest h e =
    let parts = both_true (is_expr is_path is_plain left) (is_expr is_path is_plain right) e in
    rw (pure_expr 3 left here _ h.2 parts.0, pure_expr 4 right h.1 rest h.3 parts.1) refl
pure_expr precedence (tree.Conditional test first second) here rest h e =
    let parts = three_true (is_expr is_path is_plain test) (is_expr is_path is_plain first)
    (is_expr is_path is_plain second) e in
    rw (
      pure_expr 3 test here _ h.3 parts.0,
      pure_expr (loosest InAttribute) first h.1 _ h.4
          parts.1,
      pure_expr 2 second h.2 rest h.5 parts.2,
    ) refl
pure_expr precedence (tree.Assign to value) here rest h e = absurd h.0
pure_expr precedence (tree.CompoundAssign op to value) here rest h e = absurd h.0

pub pure_kept : (precedence : ℕ) (e : Expr Path) (here rest : List Token)
    → ExprHere InAttribute precedence e here rest → Kept here
    → Both (is_pure_expr is_path is_plain e) rest
pure_kept precedence e here rest h k = let all = expr_kept InAttribute precedence e here rest h
    k in (pure_expr precedence e here rest h all.0, all.1)

pub condition_kept : (p : Site) (e : Expr Path) (here rest : List Token)
    → ConditionHere p e here rest → Kept here → Both (is_expr is_path is_plain e) rest
condition_kept p e here rest h k =
    let inside = expr_kept p (loosest p) e h.0 _ h.2
    (kept_next (Sign sign.OpenParenthesis) here h.0 h.1 k).1 in
    (inside.0, kept_tail (Sign sign.CloseParenthesis) rest inside.1)

pub pure_condition_kept : (e : Expr Path) (here rest : List Token)
    → ConditionHere InAttribute e here rest → Kept here
    → Both (is_pure_expr is_path is_plain e) rest
pure_condition_kept e here rest h k =
    let all = condition_kept InAttribute e here rest h k in
    (pure_expr (loosest InAttribute) e h.0 _ h.2 all.0, all.1)
