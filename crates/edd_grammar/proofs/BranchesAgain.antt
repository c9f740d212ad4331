-- Conditionals of any sort are read as they are spelled.
use Rattle.std.proofs.Common.{◌≡◌, ℕ, zero, suc, ◌≤◌, ◌<◌, true, false, List, ◌∷◌, length, Some, refl, sym, ap, inl, inr, arith}
use Rattle.edd_syntax.specs.declared.symbols.Keyword.TheVariants as word
use Rattle.edd_syntax.specs.declared.symbols.Symbol.TheVariants as sign
use Rattle.edd_syntax.specs.Token.{Token, Sign}
use Rattle.edd_syntax.specs.Reference.{Path}
use Rattle.edd_syntax.specs.Conditional as cond
use Rattle.edd_syntax.specs.Conditional.{Cond, Value, Select, Conds, Arms, NoArms, ConsArm, Case, Default}
use Rattle.edd_syntax.specs.Grammar.{InAttribute}
use Rattle.edd_syntax.specs.Size.{cond_height, conds_height, arms_height}
use Rattle.edd_grammar.specs.Reading.{Read, at, at_word}
use Rattle.edd_grammar.specs.ConditionalReading.{braces_at, else_at, case_at, default_at, arms_at, if_at, select_at, cond_layer}
use Rattle.edd_grammar.specs.Following.{EndsBranch}
use Rattle.edd_grammar.proofs.Steps.{expect_again}
use Rattle.edd_grammar.proofs.Labels.{label_again, label_shorter, condition_again}
use Rattle.edd_grammar.proofs.Branches.{no_word, Spelling, ElseOf, ArmsOf, CondOf}

-- what may follow a conditional, where `Follows` may follow a value
abbrev pub CondFollows : {V : Type 0} → (List Token → Type 0) → Cond Path V → List Token → Type 0
CondFollows Follows (Value v) rest = Follows rest
CondFollows Follows (cond.If condition first otherwise) rest = Unit {0}
CondFollows Follows (Select on arms) rest = Unit {0}

-- what follows ELSE without braces is read as an IF
pub record ReadsIf {V : Type 0} (inner : List Token → Read (Cond Path V)) (otherwise : Conds Path V)
    (here rest : List Token) : Type 0 where
  pub only : Cond Path V
  pub is_one : otherwise ≡ cond.Cons only cond.Nil
  pub is_if : at_word word.If here ≡ true
  pub again : inner here ≡ Some (only, rest)

module _ {V : Type 0} (of : V → ℕ) (Here : Spelling V) (Inside Again : Spelling (Conds Path V))
    (Follows : List Token → Type 0) (height_left : ℕ)
    (value : List Token → Read V) (branch : List Token → Read (Conds Path V)) (inner : List Token
    → Read (Cond Path V))
    (value_again : (v : V) (here rest : List Token) → Here v here rest → of v ≤ height_left
    → Follows rest → value here ≡ Some (v, rest))
    (value_starts : (v : V) (here rest : List Token) → Here v here rest
    → (at_word word.If here ≡ false) × (at_word word.Select here ≡ false))
    (branch_again : (all : Conds Path V) (here rest : List Token) → Inside all here rest
    → conds_height of all ≤ height_left → EndsBranch rest → branch here ≡ Some (all, rest))
    (inside_shorter : (all : Conds Path V) (here rest : List Token) → Inside all here rest
    → length rest ≤ length here)
    (inner_again : (otherwise : Conds Path V) (here rest : List Token) → Again otherwise here rest
    → conds_height of otherwise ≤ height_left → ReadsIf inner otherwise here rest) where
  braces_again : (all : Conds Path V) (here inside rest : List Token) → here ≡ Sign sign.OpenBrace
      ∷ inside → Inside all inside (Sign sign.CloseBrace ∷ rest) → conds_height of all ≤ height_left
      → braces_at height_left value branch inner here ≡ Some (all, rest)
  unfolding braces_at
  braces_again all here inside rest e h low =
      rw (
        e,
        expect_again sign.OpenBrace inside,
        branch_again all inside (Sign sign.CloseBrace ∷ rest) h low (inl refl),
        expect_again sign.CloseBrace rest,
      ) refl

  else_again : (otherwise : Conds Path V) (here rest : List Token)
      → ElseOf Inside Again otherwise here rest → conds_height of otherwise ≤ height_left
      → else_at height_left value branch inner here ≡ Some (otherwise, rest)
  unfolding else_at
  else_again otherwise here rest (inl h) low = rw (h.0, h.1.0, no_word word.Else rest h.1.1) refl
  else_again otherwise here rest (inr (inl h)) low =
      let not_if : at_word word.If h.0 ≡ false = ap (at_word word.If) h.3 in
      rw (h.2, not_if, braces_again otherwise h.0 h.1 rest h.3 h.4 low) refl
  else_again otherwise here rest (inr (inr h)) low =
      let r = inner_again otherwise h.0 rest h.2 low in
      rw (h.1, r.is_if, r.again) (ap (λ (o : Conds Path V). Some (o, rest)) (sym r.is_one))

  arms_end : (arms : Arms Path V) (here rest : List Token)
      → ArmsOf Inside arms here (Sign sign.CloseBrace ∷ rest) → EndsBranch here
  arms_end NoArms here rest h = inl (ap (at sign.CloseBrace) h)
  arms_end (ConsArm (Case label body) arms) here rest h = inr (inl (ap (at_word word.Case) h.2.2))
  arms_end (ConsArm (Default body) arms) here rest h = inr (inr (ap (at_word word.Default) h.2))

  arms_again : (n : ℕ) (arms : Arms Path V) (here rest : List Token) → length here < n
      → arms_height of arms ≤ height_left → ArmsOf Inside arms here (Sign sign.CloseBrace ∷ rest)
      → arms_at height_left value branch inner n here ≡ Some (arms, Sign sign.CloseBrace ∷ rest)
  unfolding arms_at case_at default_at
  arms_again zero arms here rest lt low h = absurd (omega arith)
  arms_again (suc n) NoArms here rest lt low h = rw h refl
  arms_again (suc n) (ConsArm (Case label body) arms) here rest lt low h =
      let c = h.2 in
      let one = branch_again body h.0 h.1 h.3 (omega arith) (arms_end arms h.1 rest h.4) in
      let more = arms_again n arms h.1 rest (let s = inside_shorter body h.0 h.1 h.3 in let l =
      label_shorter label c.0 c.1 c.3 in omega (arith, ap length c.2, ap length c.4))
      (omega arith) h.4 in
      rw (c.2, label_again label c.0 c.1 c.3, c.4, expect_again sign.Colon h.0, one, more) refl
  arms_again (suc n) (ConsArm (Default body) arms) here rest lt low h =
      let one = branch_again body h.0 h.1 h.3 (omega arith) (arms_end arms h.1 rest h.4) in
      let more = arms_again n arms h.1 rest
      (let s = inside_shorter body h.0 h.1 h.3 in omega (arith, ap length h.2)) (omega arith)
      h.4 in
      rw (h.2, expect_again sign.Colon h.0, one, more) refl

  pub cond_again : (x : Cond Path V) (here rest : List Token) → CondOf Inside Here Again x here rest
      → cond_height of x ≤ suc height_left → CondFollows Follows x rest
      → cond_layer height_left value branch inner here ≡ Some (x, rest)
  unfolding cond_layer if_at select_at
  cond_again (Value v) here rest h low f =
      let starts = value_starts v here rest h in
      rw (starts.0, starts.1, value_again v here rest h (omega arith) f) refl
  cond_again (cond.If condition first otherwise) here rest h low f =
      rw (
        h.4,
        condition_again InAttribute height_left condition h.0 h.1 h.5 (omega arith),
        braces_again first h.1 h.2 h.3 h.6 h.7 (omega arith),
        else_again otherwise h.3 rest h.8
            (omega arith),
      ) refl
  cond_again (Select on arms) here rest h low f =
      rw (
        h.3,
        condition_again InAttribute height_left on h.0 h.1 h.4 (omega arith),
        h.5,
        expect_again sign.OpenBrace h.2,
        arms_again (suc (length h.2)) arms h.2 rest (omega arith)
            (omega arith) h.6,
        expect_again sign.CloseBrace rest,
      ) refl
