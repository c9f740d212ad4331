-- Statements and bodies that are read are spelled so.
use Rattle.std.proofs.Common.{◌≡◌, ℕ, zero, suc, ◌+◌, ◌≤◌, Bool, true, false, IsTrue, ◌&&◌, List, ◌∷◌, drop, length, Some, None, refl, sym, ap, subst, ◌∙◌, inl, inr, arith}
use Rattle.std.specs.Prelude.{ℤ}
use Rattle.edd_syntax.specs.declared.symbols.Keyword.{Keyword}
use Rattle.edd_syntax.specs.declared.symbols.Keyword.TheVariants as word
use Rattle.edd_syntax.specs.declared.symbols.Symbol.{Symbol}
use Rattle.edd_syntax.specs.declared.symbols.Symbol.TheVariants as sign
use Rattle.edd_syntax.specs.Token.{Token, Reserved, Sign}
use Rattle.edd_syntax.specs.Reference.{Path}
use Rattle.edd_syntax.specs.Expression.{Expr}
use Rattle.edd_syntax.specs.Statement.{Stmt, Empty, Block, Break, Continue, Return, Part, Body, Nil, Cons, Declare, Statement, CaseLabel, DefaultLabel}
use Rattle.edd_syntax.specs.Grammar.{InMethod, ExprHere, ConditionHere}
use Rattle.edd_syntax.specs.StatementGrammar.{CaseHere, DeclaratorsHere, LocalTypeHere, OptionalExprHere, StmtHere, BodyHere}
use Rattle.edd_syntax.specs.Size.{height, optional_height, declarator_height, statement_height, body_height}
use Rattle.edd_grammar.specs.Reading.{◌>>=◌, Read, at, expect, at_word, expect_word}
use Rattle.edd_grammar.specs.ExpressionReading.{expr_at}
use Rattle.edd_grammar.specs.ConditionalReading.{label_at, condition_at}
use Rattle.edd_grammar.specs.DeclarationReading.{declarators_at}
use Rattle.edd_grammar.specs.StatementReading.{at_local_type, declaration_at, case_label_at, part_at, parts_at, body_at, method_else_at, method_if_at, while_at, do_at, optional_at, for_at, switch_at, evaluate_at, simple_at, statement_layer, statement_at, definition_at}
use Rattle.edd_grammar.proofs.Steps.{bind_some, chosen, both_true, as_read, at_is, at_word_is, expect_is, expect_word_is}
use Rattle.edd_grammar.proofs.SoundExpressions.{expr_sound}
use Rattle.edd_grammar.proofs.Alternatives.{branch}
use Rattle.edd_grammar.proofs.Labels.{label_sound, condition_sound}
use Rattle.edd_grammar.proofs.Branches.{SoundOf, not_word}
use Rattle.edd_grammar.proofs.Declarations.{declarators_sound}

-- ---- parts of bodies

-- what a part of a body is spelled by
abbrev pub PartHere : Bool → Part Path → List Token → List Token → Type 0
PartHere labels (Declare declarators) here rest =
    (from : List Token) × LocalTypeHere here from × DeclaratorsHere declarators from
    (Sign sign.Semicolon ∷ rest)
PartHere labels (Statement s) here rest = StmtHere s here rest
PartHere labels (CaseLabel label) here rest = IsTrue labels × CaseHere word.MethodCase label here
    rest
PartHere labels DefaultLabel here rest = IsTrue labels
    × (here ≡ Reserved word.MethodDefault ∷ Sign sign.Colon ∷ rest)

abbrev pub part_height : Part Path → ℕ
part_height (Declare declarators) = 1 + declarator_height declarators
part_height (Statement s) = statement_height s
part_height _ = 0

body_cons : (labels : Bool) (p : Part Path) (more : Body Path) (here behind rest : List Token)
    → PartHere labels p here behind → BodyHere labels more behind rest
    → BodyHere labels (Cons p more) here rest
body_cons labels (Declare declarators) more here behind rest h m = (h.0, behind, h.1, h.2, m)
body_cons labels (Statement s) more here behind rest h m = (behind, h, m)
body_cons labels _ more here behind rest h m = (h.0, behind, h.1, m)

body_low : (height_left : ℕ) (p : Part Path) (more : Body Path) → part_height p ≤ height_left
    → body_height more ≤ height_left → body_height (Cons p more) ≤ height_left
body_low height_left (CaseLabel label) more l m = m
body_low height_left DefaultLabel more l m = m
body_low height_left _ more l m = omega arith

local_type_sound : (here : List Token) → at_local_type here ≡ true
    → LocalTypeHere here (drop 1 here)
local_type_sound here e =
    elim (chosen (at_word word.Int here) true (at_word word.Long here) _ e) [
      | inl (t, _) ↦ inl (at_word_is word.Int here t)
      | inr (_, t) ↦ inr (at_word_is word.Long here t)
    ]

declaration_sound : (height_left : ℕ)
    → SoundOf (λ ds here rest. DeclaratorsHere ds here (Sign sign.Semicolon ∷ rest))
    (λ ds. 1 + declarator_height ds) height_left (declaration_at height_left)
unfolding declaration_at
declaration_sound zero here ds rest x = absurd cc
declaration_sound (suc zero) here ds rest x = absurd cc
declaration_sound (suc (suc height_left)) here ds rest x =
    let a = bind_some (declarators_at height_left here) _ (ds, rest) x in
    let b = bind_some (expect sign.Semicolon a.0.1) _ (ds, rest) a.2 in
    let s = declarators_sound height_left here a.0.0 a.0.1 a.1 in
    as_read (λ ds r. DeclaratorsHere ds here (Sign sign.Semicolon ∷ r)
    × (1 + declarator_height ds ≤ suc (suc height_left))) _ ds _ rest b.2 (
      subst (λ t. DeclaratorsHere a.0.0 here t) (expect_is sign.Semicolon a.0.1 b.0 b.1) s.0,
      omega (arith, s.1),
    )

case_label_sound : (here : List Token) (z : ℤ) (rest : List Token) → at_word word.MethodCase here
    ≡ true → case_label_at (drop 1 here) ≡ Some (z, rest) → CaseHere word.MethodCase z here rest
unfolding case_label_at
case_label_sound here z rest t x =
    let a = bind_some (label_at (drop 1 here)) _ (z, rest) x in
    let b = bind_some (expect sign.Colon a.0.1) _ (z, rest) a.2 in
    as_read (λ z r. CaseHere word.MethodCase z here r) _ z _ rest b.2 (
      drop 1 here,
      a.0.1,
      at_word_is word.MethodCase here t,
      label_sound (drop 1 here) a.0.0 a.0.1
          a.1,
      expect_is sign.Colon a.0.1 b.0 b.1,
    )

-- ---- statements

module _ (height_left : ℕ) (inner : List Token → Read (Stmt Path))
    (sound : SoundOf StmtHere statement_height height_left inner) where
  part_sound : (labels : Bool)
      → SoundOf (PartHere labels) part_height height_left (part_at height_left inner labels)
  unfolding part_at
  part_sound labels here p rest x =
      elim (chosen (at_local_type here) _ _ _ x) [
        | inl (t, y) ↦
            let d = bind_some (declaration_at height_left (drop 1 here)) _ (p, rest) y in
            let s = declaration_sound height_left (drop 1 here) d.0.0 d.0.1 d.1 in
            as_read (λ p r. PartHere labels p here r × (part_height p ≤ height_left)) _ p _ rest d.2
            ((drop 1 here, local_type_sound here t, s.0), s.1)
        | inr (_, x1) ↦ elim (chosen (labels && at_word word.MethodCase here) _ _ _ x1) [
          | inl (t, y) ↦
              let b = both_true labels (at_word word.MethodCase here) t in
              let z = bind_some (case_label_at (drop 1 here)) _ (p, rest) y in
              as_read (λ p r. PartHere labels p here r × (part_height p ≤ height_left)) _ p _ rest
              z.2 ((b.0, case_label_sound here z.0.0 z.0.1 b.1 z.1), omega arith)
          | inr (_, x2) ↦ elim (chosen (labels && at_word word.MethodDefault here) _ _ _ x2) [
            | inl (t, y) ↦
                let b = both_true labels (at_word word.MethodDefault here) t in
                let c = bind_some (expect sign.Colon (drop 1 here)) _ (p, rest) y in
                as_read (λ p r. PartHere labels p here r × (part_height p ≤ height_left)) _ p _ rest
                c.2 (
                  (
                    b.0,
                    at_word_is word.MethodDefault here b.1
                        ∙ ap (λ u. Reserved word.MethodDefault ∷ u)
                        (expect_is sign.Colon (drop 1 here) c.0 c.1),
                  ),
                  omega arith,
                )
            | inr (_, y) ↦
                let a = bind_some (inner here) _ (p, rest) y in
                as_read (λ p r. PartHere labels p here r × (part_height p ≤ height_left)) _ p _ rest
                a.2 (sound here a.0.0 a.0.1 a.1)
          ]
        ]
      ]

  parts_sound : (labels : Bool) (n : ℕ)
      → SoundOf (BodyHere labels) body_height height_left (parts_at height_left inner labels n)
  unfolding parts_at
  parts_sound labels zero here b rest x = absurd cc
  parts_sound labels (suc n) here b rest x =
      elim (chosen (at sign.CloseBrace here) _ _ _ x) [
        | inl (_, y) ↦ as_read (λ b r. BodyHere labels b here r × (body_height b ≤ height_left)) Nil
            b here rest y (refl, omega arith)
        | inr (_, y) ↦
            let p = bind_some (part_at height_left inner labels here) _ (b, rest) y in
            let m = bind_some (parts_at height_left inner labels n p.0.1) _ (b, rest) p.2 in
            let first = part_sound labels here p.0.0 p.0.1 p.1 in
            let more = parts_sound labels n p.0.1 m.0.0 m.0.1 m.1 in
            as_read (λ b r. BodyHere labels b here r × (body_height b ≤ height_left)) _ b _ rest
            m.2 (
              body_cons labels p.0.0 m.0.0 here p.0.1 m.0.1 first.0 more.0,
              body_low height_left p.0.0 m.0.0 first.1 more.1,
            )
      ]

  -- a body and the brace that closes it
  pub body_sound : (labels : Bool)
      → SoundOf (λ b here rest. BodyHere labels b here (Sign sign.CloseBrace ∷ rest)) body_height
      height_left (body_at height_left inner labels)
  unfolding body_at
  body_sound labels here b rest x =
      let a = bind_some (parts_at height_left inner labels (suc (length here)) here) _ (b, rest)
      x in
      let c = bind_some (expect sign.CloseBrace a.0.1) _ (b, rest) a.2 in
      let s = parts_sound labels (suc (length here)) here a.0.0 a.0.1 a.1 in
      as_read (λ b r. BodyHere labels b here (Sign sign.CloseBrace ∷ r)
      × (body_height b ≤ height_left)) _ b _ rest c.2
      (subst (λ t. BodyHere labels a.0.0 here t) (expect_is sign.CloseBrace a.0.1 c.0 c.1) s.0, s.1)

  abbrev Stands : List Token → Stmt Path → List Token → Type 0
  Stands here s rest = StmtHere s here rest × (statement_height s ≤ suc height_left)

  else_sound : (e : Expr Path) (s : Stmt Path) (here test first behind : List Token) (t : Stmt Path)
      (rest : List Token) → here ≡ Reserved word.MethodIf ∷ test
      → ConditionHere InMethod e test first
      → height e ≤ height_left → StmtHere s first behind → statement_height s ≤ height_left
      → method_else_at height_left inner e s behind ≡ Some (t, rest) → Stands here t rest
  unfolding method_else_at
  else_sound e s here test first behind t rest is_if condition low spelled low' x =
      elim (chosen (at_word word.MethodElse behind) _ _ _ x) [
        | inl (is_else, y) ↦
            let a = bind_some (inner (drop 1 behind)) _ (t, rest) y in
            let second = sound (drop 1 behind) a.0.0 a.0.1 a.1 in
            as_read (Stands here) _ t _ rest a.2 (
              (
                test,
                first,
                drop 1 behind,
                is_if,
                condition,
                subst (λ u. StmtHere s first u)
                    (at_word_is word.MethodElse behind is_else) spelled,
                second.0,
              ),
              omega (arith, second.1),
            )
        | inr (none, y) ↦ as_read (Stands here) _ t _ rest y (
          (test, first, is_if, condition, spelled, not_word word.MethodElse behind none),
          omega arith,
        )
      ]

  if_sound : (here : List Token) (s : Stmt Path) (rest : List Token) → at_word word.MethodIf here
      ≡ true → method_if_at height_left inner (drop 1 here) ≡ Some (s, rest) → Stands here s rest
  unfolding method_if_at
  if_sound here s rest t x =
      let a = bind_some (condition_at InMethod height_left (drop 1 here)) _ (s, rest) x in
      let b = bind_some (inner a.0.1) _ (s, rest) a.2 in
      let test = condition_sound InMethod height_left (drop 1 here) a.0.0 a.0.1 a.1 in
      let first = sound a.0.1 b.0.0 b.0.1 b.1 in
      else_sound a.0.0 b.0.0 here (drop 1 here) a.0.1 b.0.1 s rest (at_word_is word.MethodIf here t)
      test.0 test.1 first.0 first.1 b.2

  while_sound : (here : List Token) (s : Stmt Path) (rest : List Token) → at_word word.While here
      ≡ true → while_at height_left inner (drop 1 here) ≡ Some (s, rest) → Stands here s rest
  unfolding while_at
  while_sound here s rest t x =
      let a = bind_some (condition_at InMethod height_left (drop 1 here)) _ (s, rest) x in
      let b = bind_some (inner a.0.1) _ (s, rest) a.2 in
      let test = condition_sound InMethod height_left (drop 1 here) a.0.0 a.0.1 a.1 in
      let turn = sound a.0.1 b.0.0 b.0.1 b.1 in
      as_read (Stands here) _ s _ rest b.2 (
        (drop 1 here, a.0.1, at_word_is word.While here t, test.0, turn.0),
        omega (arith, test.1, turn.1),
      )

  do_sound : (here : List Token) (s : Stmt Path) (rest : List Token) → at_word word.Do here ≡ true
      → do_at height_left inner (drop 1 here) ≡ Some (s, rest) → Stands here s rest
  unfolding do_at
  do_sound here s rest t x =
      let a = bind_some (inner (drop 1 here)) _ (s, rest) x in
      let b = bind_some (expect_word word.While a.0.1) _ (s, rest) a.2 in
      let c = bind_some (condition_at InMethod height_left b.0) _ (s, rest) b.2 in
      let d = bind_some (expect sign.Semicolon c.0.1) _ (s, rest) c.2 in
      let turn = sound (drop 1 here) a.0.0 a.0.1 a.1 in
      let test = condition_sound InMethod height_left b.0 c.0.0 c.0.1 c.1 in
      as_read (Stands here) _ s _ rest d.2 (
        (
          drop 1 here,
          b.0,
          at_word_is word.Do here t,
          subst (λ u. StmtHere a.0.0 (drop 1 here) u)
              (expect_word_is word.While a.0.1 b.0 b.1) turn.0,
          subst (λ u. ConditionHere InMethod c.0.0 b.0 u) (expect_is sign.Semicolon c.0.1 d.0 d.1)
              test.0,
        ),
        omega (arith, turn.1, test.1),
      )

  optional_sound : (k : Symbol) → SoundOf (λ e here rest. OptionalExprHere e here (Sign k ∷ rest))
      optional_height height_left (optional_at height_left inner k)
  unfolding optional_at
  optional_sound k here e rest x =
      elim (chosen (at k here) _ _ _ x) [
        | inl (t, y) ↦ as_read (λ e r. OptionalExprHere e here (Sign k ∷ r)
            × (optional_height e ≤ height_left)) None e (drop 1 here) rest y
            (at_is k here t, omega arith)
        | inr (_, y) ↦
            let a = bind_some (expr_at InMethod height_left 1 here) _ (e, rest) y in
            let b = bind_some (expect k a.0.1) _ (e, rest) a.2 in
            let s = expr_sound InMethod height_left 1 here a.0.0 a.0.1 (omega arith) a.1 in
            as_read (λ e r. OptionalExprHere e here (Sign k ∷ r)
            × (optional_height e ≤ height_left)) _ e _ rest b.2 (
              subst (λ u. ExprHere InMethod 1 a.0.0 here u) (expect_is k a.0.1 b.0 b.1) s.0.spelled,
              s.0.low,
            )
      ]

  for_sound : (here : List Token) (s : Stmt Path) (rest : List Token) → at_word word.For here ≡ true
      → for_at height_left inner (drop 1 here) ≡ Some (s, rest) → Stands here s rest
  unfolding for_at
  for_sound here s rest t x =
      let p = bind_some (expect sign.OpenParenthesis (drop 1 here)) _ (s, rest) x in
      let a = bind_some (optional_at height_left inner sign.Semicolon p.0) _ (s, rest) p.2 in
      let b = bind_some (optional_at height_left inner sign.Semicolon a.0.1) _ (s, rest) a.2 in
      let c = bind_some (optional_at height_left inner sign.CloseParenthesis b.0.1) _ (s, rest)
      b.2 in
      let d = bind_some (inner c.0.1) _ (s, rest) c.2 in
      let initial = optional_sound sign.Semicolon p.0 a.0.0 a.0.1 a.1 in
      let condition = optional_sound sign.Semicolon a.0.1 b.0.0 b.0.1 b.1 in
      let update = optional_sound sign.CloseParenthesis b.0.1 c.0.0 c.0.1 c.1 in
      let turn = sound c.0.1 d.0.0 d.0.1 d.1 in
      as_read (Stands here) _ s _ rest d.2 (
        (
          drop 1 here,
          p.0,
          a.0.1,
          b.0.1,
          c.0.1,
          at_word_is word.For here t,
          expect_is sign.OpenParenthesis (drop 1 here) p.0 p.1,
          initial.0,
          condition.0,
          update.0,
          turn.0,
        ),
        omega (arith, initial.1, condition.1, update.1, turn.1),
      )

  switch_sound : (here : List Token) (s : Stmt Path) (rest : List Token) → at_word word.Switch here
      ≡ true → switch_at height_left inner (drop 1 here) ≡ Some (s, rest) → Stands here s rest
  unfolding switch_at
  switch_sound here s rest t x =
      let a = bind_some (condition_at InMethod height_left (drop 1 here)) _ (s, rest) x in
      let b = bind_some (expect sign.OpenBrace a.0.1) _ (s, rest) a.2 in
      let c = bind_some (body_at height_left inner true b.0) _ (s, rest) b.2 in
      let on = condition_sound InMethod height_left (drop 1 here) a.0.0 a.0.1 a.1 in
      let body = body_sound true b.0 c.0.0 c.0.1 c.1 in
      as_read (Stands here) _ s _ rest c.2 (
        (
          drop 1 here,
          a.0.1,
          b.0,
          at_word_is word.Switch here t,
          on.0,
          expect_is sign.OpenBrace a.0.1
              b.0 b.1,
          body.0,
        ),
        omega (arith, on.1, body.1),
      )

  block_sound : (here : List Token) (s : Stmt Path) (rest : List Token) → at sign.OpenBrace here
      ≡ true → ◌>>=◌ {B = Stmt Path × List Token} (body_at height_left inner false (drop 1 here))
      (λ b. Some (Block b.0, b.1)) ≡ Some (s, rest) → Stands here s rest
  block_sound here s rest t x =
      let a = bind_some (body_at height_left inner false (drop 1 here)) _ (s, rest) x in
      let b = body_sound false (drop 1 here) a.0.0 a.0.1 a.1 in
      as_read (Stands here) _ s _ rest a.2 (
        (drop 1 here, at_is sign.OpenBrace here t, b.0),
        omega (arith, b.1),
      )

  evaluate_sound : (here : List Token) (s : Stmt Path) (rest : List Token)
      → evaluate_at height_left inner here ≡ Some (s, rest) → Stands here s rest
  unfolding evaluate_at
  evaluate_sound here s rest x =
      let a = bind_some (expr_at InMethod height_left 1 here) _ (s, rest) x in
      let b = bind_some (expect sign.Semicolon a.0.1) _ (s, rest) a.2 in
      let e = expr_sound InMethod height_left 1 here a.0.0 a.0.1 (omega arith) a.1 in
      as_read (Stands here) _ s _ rest b.2 (
        subst (λ u. ExprHere InMethod 1 a.0.0 here u) (expect_is sign.Semicolon a.0.1 b.0 b.1)
            e.0.spelled,
        (let l = e.0.low in omega arith),
      )

  -- a word and a semicolon after it
  jump_sound : (k : Keyword) (jump : Stmt Path)
      → ((behind : List Token) → StmtHere jump (Reserved k ∷ Sign sign.Semicolon ∷ behind) behind)
      → statement_height jump ≤ suc height_left
      → (here : List Token) (s : Stmt Path) (rest : List Token) → at_word k here ≡ true
      → ◌>>=◌ {B = Stmt Path × List Token} (expect sign.Semicolon (drop 1 here))
      (λ behind. Some (jump, behind)) ≡ Some (s, rest) → Stands here s rest
  jump_sound k jump spelled low here s rest t x =
      let c = bind_some (expect sign.Semicolon (drop 1 here)) _ (s, rest) x in
      let whole = at_word_is k here t
      ∙ ap (λ u. Reserved k ∷ u) (expect_is sign.Semicolon (drop 1 here) c.0 c.1) in
      as_read (Stands here) jump s _ rest c.2
      (subst (λ u. StmtHere jump u c.0) (sym whole) (spelled c.0), low)

  layer_sound : SoundOf StmtHere statement_height (suc height_left)
      (statement_layer height_left inner)
  unfolding simple_at statement_layer
  layer_sound here s rest x =
      branch (at sign.Semicolon here) _ _ _ x (λ t y. as_read (Stands here) Empty s (drop 1 here)
      rest y (at_is sign.Semicolon here t, omega arith)) (λ _ x1.
      branch (at sign.OpenBrace here) _ _ _ x1 (λ t y. block_sound here s rest t y) (λ _ x2.
      branch (at_word word.MethodIf here) _ _ _ x2 (λ t y. if_sound here s rest t y) (λ _ x3.
      branch (at_word word.While here) _ _ _ x3 (λ t y. while_sound here s rest t y) (λ _ x4.
      branch (at_word word.Do here) _ _ _ x4 (λ t y. do_sound here s rest t y) (λ _ x5.
      branch (at_word word.For here) _ _ _ x5 (λ t y. for_sound here s rest t y) (λ _ x6.
      branch (at_word word.Switch here) _ _ _ x6 (λ t y. switch_sound here s rest t y) (λ _ x7.
      branch (at_word word.Break here) _ _ _ x7 (λ t y. jump_sound word.Break Break (λ behind. refl)
      (omega arith) here s rest t y) (λ _ x8.
      branch (at_word word.Continue here) _ _ _ x8
      (λ t y. jump_sound word.Continue Continue (λ behind. refl) (omega arith) here s rest t y)
      (λ _ x9.
      branch (at_word word.Return here) _ _ _ x9
      (λ t y. jump_sound word.Return Return (λ behind. refl) (omega arith) here s rest t y)
      (λ _ y.
      evaluate_sound here s rest y))))))))))

pub statement_sound : (height_left : ℕ)
    → SoundOf StmtHere statement_height height_left (statement_at height_left)
unfolding statement_at
statement_sound zero here s rest x = absurd cc
statement_sound (suc height_left) here s rest x = layer_sound height_left (statement_at height_left)
    (statement_sound height_left) here s rest x

-- the body of a method and the brace that closes it
pub definition_sound : (height_left : ℕ)
    → SoundOf (λ b here rest. BodyHere false b here (Sign sign.CloseBrace ∷ rest)) body_height
    height_left (definition_at height_left)
unfolding definition_at
definition_sound height_left here b rest x = body_sound height_left (statement_at height_left)
    (statement_sound height_left) false here b rest x
