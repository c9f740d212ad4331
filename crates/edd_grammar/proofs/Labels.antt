-- Labels and conditions are read as they are spelled, and what is read is spelled so.
use Rattle.std.proofs.Common.{◌≡◌, ℕ, ◌≤◌, ◌<◌, List, [], ◌∷◌, length, Some, refl, sym, ap, subst, ◌∙◌, inl, inr, arith}
use Rattle.std.specs.Prelude.{ℤ, pos, neg_ℤ}
use Rattle.edd_syntax.specs.declared.operators.Operator.TheVariants as operator
use Rattle.edd_syntax.specs.declared.symbols.Symbol.TheVariants as sign
use Rattle.edd_syntax.specs.Token.{Token, Reserved, Identifier, Integer, String, Sign}
use Rattle.edd_syntax.specs.Token as token
use Rattle.edd_syntax.specs.Reference.{Path}
use Rattle.edd_syntax.specs.Expression.{Expr}
use Rattle.edd_syntax.specs.Grammar.{Site, loosest, ExprHere, ConditionHere}
use Rattle.edd_syntax.specs.StatementGrammar.{LabelHere}
use Rattle.edd_syntax.specs.Size.{height}
use Rattle.edd_grammar.specs.Signs.{same_sign}
use Rattle.edd_grammar.specs.Reading.{expect}
use Rattle.edd_grammar.specs.ExpressionReading.{expr_at}
use Rattle.edd_grammar.specs.ConditionalReading.{negative_at, label_at, condition_at}
use Rattle.edd_grammar.proofs.SameSigns.{same_sign_is}
use Rattle.edd_grammar.proofs.Steps.{bind_some, guard_some, as_read, expect_is, expect_again}
use Rattle.edd_grammar.proofs.Shorter.{expr_shorter}
use Rattle.edd_grammar.proofs.SoundExpressions.{expr_sound, loosest_le}
use Rattle.edd_grammar.proofs.CompleteExpressions.{expr_again}

-- ---- labels

negative_sound : (here : List Token) (z : ℤ) (rest : List Token) → negative_at here ≡ Some (z, rest)
    → (n : ℕ) × (z ≡ neg_ℤ (pos n)) × (here ≡ Integer n ∷ rest)
negative_sound (Integer n ∷ here) z rest e =
    as_read (λ z r. (m : ℕ) × (z ≡ neg_ℤ (pos m)) × (Integer n ∷ here ≡ Integer m ∷ r))
    (neg_ℤ (pos n)) z here rest e (n, refl, refl)
negative_sound [] z rest e = absurd cc
negative_sound (Reserved n ∷ here) z rest e = absurd cc
negative_sound (Identifier n ∷ here) z rest e = absurd cc
negative_sound (token.Decimal ∷ here) z rest e = absurd cc
negative_sound (String n ∷ here) z rest e = absurd cc
negative_sound (Sign n ∷ here) z rest e = absurd cc

pub label_sound : (here : List Token) (z : ℤ) (rest : List Token) → label_at here ≡ Some (z, rest)
    → LabelHere z here rest
label_sound (Integer n ∷ here) z rest e = as_read (λ z r. LabelHere z (Integer n ∷ here) r) (pos n)
    z here rest e (inl (n, refl, refl))
label_sound (Sign s ∷ here) z rest e =
    let g = guard_some (same_sign s (sign.Operator operator.Subtract)) (negative_at here) (z, rest)
    e in
    let n = negative_sound here z rest g.1 in
    inr (
      n.0,
      n.1,
      ap (λ k. Sign k ∷ here) (same_sign_is s (sign.Operator operator.Subtract) g.0)
          ∙ ap (λ t. Sign (sign.Operator operator.Subtract) ∷ t) n.2,
    )
label_sound [] z rest e = absurd cc
label_sound (Reserved n ∷ here) z rest e = absurd cc
label_sound (Identifier n ∷ here) z rest e = absurd cc
label_sound (token.Decimal ∷ here) z rest e = absurd cc
label_sound (String n ∷ here) z rest e = absurd cc

pub label_again : (z : ℤ) (here rest : List Token) → LabelHere z here rest
    → label_at here ≡ Some (z, rest)
label_again z here rest (inl h) = ap label_at h.2 ∙ ap (λ (y : ℤ). Some (y, rest)) (sym h.1)
label_again z here rest (inr h) = ap label_at h.2 ∙ ap (λ (y : ℤ). Some (y, rest)) (sym h.1)

pub label_shorter : (z : ℤ) (here rest : List Token) → LabelHere z here rest
    → length rest < length here
label_shorter z here rest (inl h) = omega (arith, ap length h.2)
label_shorter z here rest (inr h) = omega (arith, ap length h.2)

-- ---- conditions

pub condition_sound : (p : Site) (height_left : ℕ) (here : List Token) (e : Expr Path)
    (rest : List Token) → condition_at p height_left here ≡ Some (e, rest)
    → ConditionHere p e here rest × (height e ≤ height_left)
unfolding condition_at
condition_sound p height_left here e rest x =
    let a = bind_some (expect sign.OpenParenthesis here) _ (e, rest) x in
    let b = bind_some (expr_at p height_left (loosest p) a.0) _ (e, rest) a.2 in
    let c = bind_some (expect sign.CloseParenthesis b.0.1) _ (e, rest) b.2 in
    let s = expr_sound p height_left (loosest p) a.0 b.0.0 b.0.1 (omega (arith, loosest_le p))
    b.1 in
    as_read (λ e r. ConditionHere p e here r × (height e ≤ height_left)) _ e _ rest c.2 (
      (
        a.0,
        expect_is sign.OpenParenthesis here a.0 a.1,
        subst (λ t. ExprHere p (loosest p) b.0.0 a.0 t)
            (expect_is sign.CloseParenthesis b.0.1 c.0 c.1) s.0.spelled,
      ),
      s.0.low,
    )

pub condition_again : (p : Site) (height_left : ℕ) (e : Expr Path) (here rest : List Token)
    → ConditionHere p e here rest → height e ≤ height_left → condition_at p height_left here
    ≡ Some (e, rest)
unfolding condition_at
condition_again p height_left e here rest h low =
    let read = expr_again p height_left (loosest p) e h.0 (Sign sign.CloseParenthesis ∷ rest)
    (omega (arith, loosest_le p)) h.2 low tt in
    rw (h.1, expect_again sign.OpenParenthesis h.0, read, expect_again sign.CloseParenthesis rest)
    refl

pub condition_shorter : (p : Site) (e : Expr Path) (here rest : List Token)
    → ConditionHere p e here rest → length rest < length here
condition_shorter p e here rest h =
    omega (arith, ap length h.1, expr_shorter p (loosest p) e h.0 _ h.2)
