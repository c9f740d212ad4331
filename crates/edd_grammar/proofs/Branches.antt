-- Conditionals of any sort: what is in a branch, and what may follow ELSE, are parameters.
use Rattle.std.proofs.Common.{◌≡◌, ℕ, zero, suc, ◌≤◌, Bool, true, false, List, ◌∷◌, drop, length, Some, refl, sym, ap, subst, ◌∙◌, inl, inr, ◌⊎◌, arith}
use Rattle.std.specs.Prelude.{ℤ}
use Rattle.std.proofs.lemmas.Option.{some_pair_parts}
use Rattle.edd_syntax.specs.declared.symbols.Keyword.{Keyword}
use Rattle.edd_syntax.specs.declared.symbols.Keyword.TheVariants as word
use Rattle.edd_syntax.specs.declared.symbols.Symbol.TheVariants as sign
use Rattle.edd_syntax.specs.Token.{Token, Reserved, Sign}
use Rattle.edd_syntax.specs.Reference.{Path}
use Rattle.edd_syntax.specs.Conditional as cond
use Rattle.edd_syntax.specs.Conditional.{Cond, Value, Select, Conds, Arms, NoArms, ConsArm, Case, Default}
use Rattle.edd_syntax.specs.Grammar.{InAttribute, NextSign, NextWord, ConditionHere}
use Rattle.edd_syntax.specs.StatementGrammar.{BeginsWord, CaseHere, IsIf, NoElse}
use Rattle.edd_syntax.specs.Size.{cond_height, conds_height, arms_height}
use Rattle.edd_grammar.specs.Reading.{Read, at, expect, at_word}
use Rattle.edd_grammar.specs.ConditionalReading.{label_at, condition_at, braces_at, else_at, case_at, default_at, arms_at, if_at, select_at, cond_layer}
use Rattle.edd_grammar.proofs.SameSigns.{same_word_self}
use Rattle.edd_grammar.proofs.Steps.{bind_some, guard_some, chosen, as_read, at_word_is, expect_is}
use Rattle.edd_grammar.proofs.Labels.{label_sound, condition_sound}

pub bool_cases : (b : Bool) → (b ≡ true) ⊎ (b ≡ false)
bool_cases true = inl refl
bool_cases false = inr refl

pub not_word : (k : Keyword) (here : List Token) → at_word k here ≡ false → ¬ BeginsWord k here
not_word k here e b = absurd (let f : false ≡ true = sym e ∙ ap (at_word k) b.1
    ∙ same_word_self k in cc (f))

pub no_word : (k : Keyword) (here : List Token) → ¬ BeginsWord k here → at_word k here ≡ false
no_word k here n = elim (bool_cases (at_word k here))
    [ inl t ↦ absurd (n (drop 1 here, at_word_is k here t)) | inr f ↦ f ]

abbrev pub Spelling : Type 0 → Type 1
Spelling A = A → List Token → List Token → Type 0

module _ {V : Type 0} (Inside : Spelling (Conds Path V)) where
  -- an ELSE or none, where `Again` spells what follows an ELSE without braces
  abbrev pub ElseOf : Spelling (Conds Path V) → Spelling (Conds Path V)
  ElseOf Again otherwise here rest =
      ((otherwise ≡ cond.Nil) × NoElse here rest)
      ⊎ (((from inside : List Token) × NextWord word.Else here from × NextSign sign.OpenBrace from
      inside × Inside otherwise inside (Sign sign.CloseBrace ∷ rest))
      ⊎ ((from : List Token) × NextWord word.Else here from × Again otherwise from rest))

  abbrev pub ArmsOf : Spelling (Arms Path V)
  ArmsOf NoArms here rest = here ≡ rest
  ArmsOf (ConsArm (Case label body) arms) here rest =
      (from behind : List Token) × CaseHere word.Case label here from × Inside body from behind
      × ArmsOf arms behind rest
  ArmsOf (ConsArm (Default body) arms) here rest =
      (from behind : List Token) × (here ≡ Reserved word.Default ∷ Sign sign.Colon ∷ from)
      × Inside body from behind × ArmsOf arms behind rest

  abbrev pub CondOf : Spelling V → Spelling (Conds Path V) → Spelling (Cond Path V)
  CondOf Here Again (Value v) here rest = Here v here rest
  CondOf Here Again (cond.If condition first otherwise) here rest =
      (test brace inside behind : List Token) × NextWord word.If here test
      × ConditionHere InAttribute condition test brace
      × NextSign sign.OpenBrace brace inside × Inside first inside (Sign sign.CloseBrace ∷ behind)
      × ElseOf Again otherwise behind rest
  CondOf Here Again (Select on arms) here rest =
      (test brace inside : List Token) × NextWord word.Select here test
      × ConditionHere InAttribute on test brace
      × NextSign sign.OpenBrace brace inside × ArmsOf arms inside (Sign sign.CloseBrace ∷ rest)

-- what is read is spelled, and no higher than the limit
abbrev pub SoundOf : {A : Type 0} → Spelling A → (A → ℕ) → ℕ → (List Token → Read A) → Type 0
SoundOf {A} Here tall height_left read = (here : List Token) (x : A) (rest : List Token)
    → read here ≡ Some (x, rest) → Here x here rest × (tall x ≤ height_left)

module _ {V : Type 0} (of : V → ℕ) (Here : Spelling V) (Inside Again : Spelling (Conds Path V))
    (height_left : ℕ)
    (value : List Token → Read V) (branch : List Token → Read (Conds Path V)) (inner : List Token
    → Read (Cond Path V))
    (value_sound : SoundOf Here of height_left value)
    (branch_sound : SoundOf Inside (conds_height of) height_left branch)
    (inner_sound : (here : List Token) (c : Cond Path V) (rest : List Token)
    → at_word word.If here ≡ true → inner here ≡ Some (c, rest)
    → Again (cond.Cons c cond.Nil) here rest × (cond_height of c ≤ height_left)) where
  braces_sound : (here : List Token) (all : Conds Path V) (rest : List Token)
      → braces_at height_left value branch inner here ≡ Some (all, rest)
      → ((inside : List Token) × NextSign sign.OpenBrace here inside
      × Inside all inside (Sign sign.CloseBrace ∷ rest)) × (conds_height of all ≤ height_left)
  unfolding braces_at
  braces_sound here all rest x =
      let a = bind_some (expect sign.OpenBrace here) _ (all, rest) x in
      let b = bind_some (branch a.0) _ (all, rest) a.2 in
      let c = bind_some (expect sign.CloseBrace b.0.1) _ (all, rest) b.2 in
      let s = branch_sound a.0 b.0.0 b.0.1 b.1 in
      as_read (λ all r. ((inside : List Token) × NextSign sign.OpenBrace here inside
      × Inside all inside (Sign sign.CloseBrace ∷ r)) × (conds_height of all ≤ height_left)) _
      all _ rest c.2 (
        (
          a.0,
          expect_is sign.OpenBrace here a.0 a.1,
          subst (λ t. Inside b.0.0 a.0 t)
              (expect_is sign.CloseBrace b.0.1 c.0 c.1) s.0,
        ),
        s.1,
      )

  else_sound : (here : List Token) (all : Conds Path V) (rest : List Token)
      → else_at height_left value branch inner here ≡ Some (all, rest)
      → ElseOf Inside Again all here rest × (conds_height of all ≤ height_left)
  unfolding else_at
  else_sound here all rest x =
      elim (chosen (at_word word.Else here) _ _ _ x) [
        | inl (t, y) ↦ elim (chosen (at_word word.If (drop 1 here)) _ _ _ y) [
          | inl (u, z) ↦
              let c = bind_some (inner (drop 1 here)) _ (all, rest) z in
              let s = inner_sound (drop 1 here) c.0.0 c.0.1 u c.1 in
              as_read (λ all r. ElseOf Inside Again all here r
              × (conds_height of all ≤ height_left)) _ all _ rest c.2
              (inr (inr (drop 1 here, at_word_is word.Else here t, s.0)), omega (arith, s.1))
          | inr (_, z) ↦ (let s = braces_sound (drop 1 here) all rest
              z in (inr (inl (drop 1 here, s.0.0, at_word_is word.Else here t, s.0.1, s.0.2)), s.1))
        ]
        | inr (f, y) ↦
            as_read (λ all r. ElseOf Inside Again all here r × (conds_height of all ≤ height_left))
            cond.Nil all here rest y
            (inl (refl, (refl, not_word word.Else here f)), omega arith)
      ]

  arms_sound : (n : ℕ) (here : List Token) (arms : Arms Path V) (rest : List Token)
      → arms_at height_left value branch inner n here ≡ Some (arms, rest)
      → ArmsOf Inside arms here rest × (arms_height of arms ≤ height_left)
  unfolding arms_at case_at default_at
  arms_sound zero here arms rest x = absurd cc
  arms_sound (suc n) here arms rest x =
      elim (chosen (at sign.CloseBrace here) _ _ _ x) [
        | inl (t, y) ↦ as_read (λ a r. ArmsOf Inside a here r × (arms_height of a ≤ height_left))
            NoArms arms here rest y (refl, omega arith)
        | inr (_, y) ↦ elim (chosen (at_word word.Case here) _ _ _ y) [
          | inl (t, z) ↦
              let a = bind_some (case_at height_left value branch inner (drop 1 here)) _
              (arms, rest) z in
              let l = bind_some (label_at (drop 1 here)) _ a.0 a.1 in
              let c = bind_some (expect sign.Colon l.0.1) _ a.0 l.2 in
              let b = bind_some (branch c.0) _ a.0 c.2 in
              let m = bind_some (arms_at height_left value branch inner n a.0.1) _ (arms, rest)
              a.2 in
              let parts = some_pair_parts _ _ _ _ b.2 in
              let body = branch_sound c.0 b.0.0 b.0.1 b.1 in
              let label : CaseHere word.Case l.0.0 here c.0 = (
                drop 1 here,
                l.0.1,
                at_word_is word.Case here t,
                label_sound (drop 1 here) l.0.0
                    l.0.1 l.1,
                expect_is sign.Colon l.0.1 c.0 c.1,
              ) in
              let taken : CaseHere word.Case a.0.0.0 here c.0
              × (Inside a.0.0.1 c.0 a.0.1 × (conds_height of a.0.0.1 ≤ height_left)) =
              as_read (λ (q : ℤ × Conds Path V) r. CaseHere word.Case q.0 here c.0
              × (Inside q.1 c.0 r × (conds_height of q.1 ≤ height_left))) (l.0.0, b.0.0) a.0.0
              b.0.1 a.0.1 b.2 (label, body) in
              let others = arms_sound n a.0.1 m.0.0 m.0.1 m.1 in
              as_read (λ a r. ArmsOf Inside a here r × (arms_height of a ≤ height_left)) _ arms _
              rest m.2
              ((c.0, a.0.1, taken.0, taken.1.0, others.0), omega (arith, taken.1.1, others.1))
          | inr (_, z) ↦
              let g = guard_some (at_word word.Default here) _ _ z in
              let a = bind_some (default_at height_left value branch inner (drop 1 here)) _
              (arms, rest) g.1 in
              let c = bind_some (expect sign.Colon (drop 1 here)) _ a.0 a.1 in
              let m = bind_some (arms_at height_left value branch inner n a.0.1) _ (arms, rest)
              a.2 in
              let body = branch_sound c.0 a.0.0 a.0.1 c.2 in
              let others = arms_sound n a.0.1 m.0.0 m.0.1 m.1 in
              let begins = at_word_is word.Default here g.0 ∙ ap (λ t. Reserved word.Default ∷ t)
              (expect_is sign.Colon (drop 1 here) c.0 c.1) in
              as_read (λ a r. ArmsOf Inside a here r × (arms_height of a ≤ height_left)) _ arms _
              rest m.2
              ((c.0, a.0.1, begins, body.0, others.0), omega (arith, body.1, others.1))
        ]
      ]

  pub cond_sound : SoundOf (CondOf Inside Here Again) (cond_height of) (suc height_left)
      (cond_layer height_left value branch inner)
  unfolding cond_layer if_at select_at
  cond_sound here x rest e =
      elim (chosen (at_word word.If here) _ _ _ e) [
        | inl (t, y) ↦
            let a = bind_some (condition_at InAttribute height_left (drop 1 here)) _ (x, rest) y in
            let b = bind_some (braces_at height_left value branch inner a.0.1) _ (x, rest) a.2 in
            let c = bind_some (else_at height_left value branch inner b.0.1) _ (x, rest) b.2 in
            let test = condition_sound InAttribute height_left (drop 1 here) a.0.0 a.0.1 a.1 in
            let first = braces_sound a.0.1 b.0.0 b.0.1 b.1 in
            let otherwise = else_sound b.0.1 c.0.0 c.0.1 c.1 in
            as_read (λ x r. CondOf Inside Here Again x here r
            × (cond_height of x ≤ suc height_left)) _ x _ rest c.2 (
              (
                drop 1 here,
                a.0.1,
                first.0.0,
                b.0.1,
                at_word_is word.If here t,
                test.0,
                first.0.1,
                first.0.2,
                otherwise.0,
              ),
              omega (arith, test.1, first.1, otherwise.1),
            )
        | inr (_, y) ↦ elim (chosen (at_word word.Select here) _ _ _ y) [
          | inl (t, z) ↦
              let a = bind_some (condition_at InAttribute height_left (drop 1 here)) _ (x, rest)
              z in
              let b = bind_some (expect sign.OpenBrace a.0.1) _ (x, rest) a.2 in
              let c = bind_some (arms_at height_left value branch inner (suc (length b.0)) b.0) _
              (x, rest) b.2 in
              let d = bind_some (expect sign.CloseBrace c.0.1) _ (x, rest) c.2 in
              let test = condition_sound InAttribute height_left (drop 1 here) a.0.0 a.0.1 a.1 in
              let arms = arms_sound (suc (length b.0)) b.0 c.0.0 c.0.1 c.1 in
              as_read (λ x r. CondOf Inside Here Again x here r
              × (cond_height of x ≤ suc height_left)) _ x _ rest d.2 (
                (
                  drop 1 here,
                  a.0.1,
                  b.0,
                  at_word_is word.Select here t,
                  test.0,
                  expect_is sign.OpenBrace a.0.1 b.0 b.1,
                  subst (λ t. ArmsOf Inside c.0.0 b.0 t)
                      (expect_is sign.CloseBrace c.0.1 d.0 d.1) arms.0,
                ),
                omega (arith, test.1, arms.1),
              )
          | inr (_, z) ↦
              let v = bind_some (value here) _ (x, rest) z in
              let s = value_sound here v.0.0 v.0.1 v.1 in
              as_read (λ x r. CondOf Inside Here Again x here r
              × (cond_height of x ≤ suc height_left)) _ x _ rest v.2 (s.0, omega (arith, s.1))
        ]
      ]

  -- what is read from an IF on is one
  pub reads_if : (here : List Token) (x : Cond Path V) (rest : List Token)
      → at_word word.If here ≡ true → cond_layer height_left value branch inner here
      ≡ Some (x, rest) → IsIf x
  unfolding cond_layer if_at
  reads_if here x rest t e =
      elim (chosen (at_word word.If here) _ _ _ e) [
        | inl (_, y) ↦
            let a = bind_some (condition_at InAttribute height_left (drop 1 here)) _ (x, rest) y in
            let b = bind_some (braces_at height_left value branch inner a.0.1) _ (x, rest) a.2 in
            let c = bind_some (else_at height_left value branch inner b.0.1) _ (x, rest) b.2 in
            as_read (λ x r. IsIf x) _ x _ rest c.2 tt
        | inr (f, _) ↦ absurd (let n : true ≡ false = sym t ∙ f in cc (n))
      ]
