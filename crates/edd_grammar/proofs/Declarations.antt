-- Declarations are read as they are spelled, and what is read is spelled so.
use Rattle.std.proofs.Common.{◌≡◌, ℕ, zero, suc, ◌≤◌, List, [], ◌∷◌, drop, length, Option, Some, None, refl, sym, ap, subst, inl, inr, ◌⊎◌, arith}
use Rattle.edd_syntax.specs.declared.symbols.Symbol.TheVariants as sign
use Rattle.edd_syntax.specs.Text.{Name}
use Rattle.edd_syntax.specs.Token.{Token, Sign}
use Rattle.edd_syntax.specs.Reference.{Path}
use Rattle.edd_syntax.specs.Expression.{Expr}
use Rattle.edd_syntax.specs.Statement.{Declarator}
use Rattle.edd_syntax.specs.Grammar.{InMethod}
use Rattle.edd_syntax.specs.StatementGrammar.{ValueHere, DeclaratorHere, DeclaratorsHere, MoreDeclaratorsHere}
use Rattle.edd_syntax.specs.Size.{optional_height, declarator_height}
use Rattle.edd_grammar.specs.Reading.{at, name_at}
use Rattle.edd_grammar.specs.ExpressionReading.{expr_at}
use Rattle.edd_grammar.specs.DeclarationReading.{value_at, declarator_at, some_declarators, declarators_at}
use Rattle.edd_grammar.proofs.Steps.{bind_some, chosen, as_read, at_is, name_is}
use Rattle.edd_grammar.proofs.Shorter.{expr_shorter}
use Rattle.edd_grammar.proofs.SoundExpressions.{expr_sound}
use Rattle.edd_grammar.proofs.CompleteExpressions.{expr_again}

module _ (height_left : ℕ) where
  value_sound : (here : List Token) (v : Option (Expr Path)) (rest : List Token)
      → value_at height_left here ≡ Some (v, rest) → ValueHere v here rest
      × (optional_height v ≤ height_left)
  unfolding value_at
  value_sound here v rest x =
      elim (chosen (at sign.Equals here) _ _ _ x) [
        | inl (t, y) ↦
            let e = bind_some (expr_at InMethod height_left 1 (drop 1 here)) _ (v, rest) y in
            let s = expr_sound InMethod height_left 1 (drop 1 here) e.0.0 e.0.1 (omega arith) e.1 in
            as_read (λ v r. ValueHere v here r × (optional_height v ≤ height_left)) _ v _ rest e.2
            ((drop 1 here, at_is sign.Equals here t, s.0.spelled), s.0.low)
        | inr (_, y) ↦ as_read (λ v r. ValueHere v here r × (optional_height v ≤ height_left)) None
            v here rest y (refl, omega arith)
      ]

  declarator_sound : (here : List Token) (d : Declarator Path) (rest : List Token)
      → declarator_at height_left here ≡ Some (d, rest) → DeclaratorHere d here rest
      × (optional_height d.value ≤ height_left)
  unfolding declarator_at
  declarator_sound here d rest x =
      let n = bind_some (name_at here) _ (d, rest) x in
      let v = bind_some (value_at height_left n.0.1) _ (d, rest) n.2 in
      let s = value_sound n.0.1 v.0.0 v.0.1 v.1 in
      as_read (λ (d : Declarator Path) r. DeclaratorHere d here r
      × (optional_height d.value ≤ height_left)) _ d _ rest v.2
      ((n.0.1, (refl, name_is here n.0.0 n.0.1 n.1), s.0), s.1)

  -- the same list may come after a comma
  record Stand (here : List Token) (ds : List (Declarator Path)) (rest : List Token) : Type 0 where
    pub first : DeclaratorsHere ds here rest
    pub more : (from : List Token) → from ≡ Sign sign.Comma ∷ here
        → MoreDeclaratorsHere ds from rest
    pub low : declarator_height ds ≤ suc height_left

  some_sound : (n : ℕ) (here : List Token) (ds : List (Declarator Path)) (rest : List Token)
      → some_declarators height_left n here ≡ Some (ds, rest) → Stand here ds rest
  unfolding some_declarators
  some_sound zero here ds rest x = absurd cc
  some_sound (suc n) here ds rest x =
      let a = bind_some (declarator_at height_left here) _ (ds, rest) x in
      let b = bind_some _ _ (ds, rest) a.2 in
      let d = declarator_sound here a.0.0 a.0.1 a.1 in
      as_read (Stand here) _ ds _ rest b.2 (
      elim (chosen (at sign.Comma a.0.1) _ _ _ b.1) [
        | inl (comma, y) ↦
            let s = some_sound n (drop 1 a.0.1) b.0.0 b.0.1 y in
            let m = s.more a.0.1 (at_is sign.Comma a.0.1 comma) in
            record {
              first = (a.0.1, d.0, m);
              more = λ from f. (here, a.0.1, f, d.0, m);
              low = (let l = s.low in omega (arith, d.1));
            }
        | inr (_, y) ↦
            as_read (λ others r. Stand here (a.0.0 ∷ others) r) [] b.0.0 a.0.1 b.0.1 y
            (record {
              first = (a.0.1, d.0, refl);
              more = λ from f. (here, a.0.1, f, d.0, refl);
              low = omega (arith, d.1);
            })
      ])

  pub declarators_sound : (here : List Token) (ds : List (Declarator Path)) (rest : List Token)
      → declarators_at height_left here ≡ Some (ds, rest) → DeclaratorsHere ds here rest
      × (declarator_height ds ≤ suc height_left)
  unfolding declarators_at
  declarators_sound here ds rest x = let s = some_sound (length here) here ds rest
      x in (s.first, s.low)

  -- ---- what is spelled is read

  value_shorter : (v : Option (Expr Path)) (here rest : List Token) → ValueHere v here rest
      → length rest ≤ length here
  value_shorter None here rest h = omega (arith, ap length h)
  value_shorter (Some e) here rest h =
      omega (arith, ap length h.1, expr_shorter InMethod 1 e h.0 rest h.2)

  -- what follows a declarator: a comma or a semicolon
  abbrev Next : List Token → Type 0
  Next rest = (behind : List Token)
      × ((rest ≡ Sign sign.Comma ∷ behind) ⊎ (rest ≡ Sign sign.Semicolon ∷ behind))

  value_again : (v : Option (Expr Path)) (here rest : List Token) → ValueHere v here rest
      → optional_height v ≤ height_left → Next rest → value_at height_left here ≡ Some (v, rest)
  unfolding value_at
  value_again None here rest h low (behind, inl f) = rw (h, f) refl
  value_again None here rest h low (behind, inr f) = rw (h, f) refl
  value_again (Some e) here rest h low (behind, inl f) =
      let read = expr_again InMethod height_left 1 e h.0 (Sign sign.Comma ∷ behind) (omega arith)
      (subst (λ t. Rattle.edd_syntax.specs.Grammar.ExprHere InMethod 1 e h.0 t) f h.2) low tt in
      rw (h.1, read) (ap (λ (r : List Token). Some (Some e, r)) (sym f))
  value_again (Some e) here rest h low (behind, inr f) =
      let read = expr_again InMethod height_left 1 e h.0 (Sign sign.Semicolon ∷ behind)
      (omega arith) (subst (λ t. Rattle.edd_syntax.specs.Grammar.ExprHere InMethod 1 e h.0 t) f
      h.2) low tt in
      rw (h.1, read) (ap (λ (r : List Token). Some (Some e, r)) (sym f))

  declarator_again : (d : Declarator Path) (here rest : List Token) → DeclaratorHere d here rest
      → optional_height d.value ≤ height_left → Next rest → declarator_at height_left here
      ≡ Some (d, rest)
  unfolding declarator_at
  declarator_again d here rest h low f =
      rw (h.1.1, value_again d.value h.0 rest h.2 low f)
      (ap (λ (ms : List Name). Some
      (record { place = record { base = d.place.base; members = ms }; value = d.value }, rest))
      (sym h.1.0))

  next_more : (more : List (Declarator Path)) (here rest : List Token)
      → MoreDeclaratorsHere more here (Sign sign.Semicolon ∷ rest) → Next here
  next_more [] here rest h = (rest, inr h)
  next_more (d ∷ more) here rest h = (h.0, inl h.2)

  some_again : (n : ℕ) (d : Declarator Path) (more : List (Declarator Path))
      (here behind rest : List Token) → length here ≤ n → DeclaratorHere d here behind
      → MoreDeclaratorsHere more behind (Sign sign.Semicolon ∷ rest) → declarator_height (d ∷ more)
      ≤ suc height_left → some_declarators height_left n here
      ≡ Some (d ∷ more, Sign sign.Semicolon ∷ rest)
  unfolding some_declarators
  some_again zero d more here behind rest lt h m low = absurd (omega (arith, ap length h.1.1))
  some_again (suc n) d [] here behind rest lt h m low =
      rw (declarator_again d here behind h (omega arith) (rest, inr m), m) refl
  some_again (suc n) d (e ∷ more) here behind rest lt h m low =
      let others = some_again n e more m.0 m.1 rest
      (let v = value_shorter d.value h.0 behind h.2 in omega (
        arith,
        ap length h.1.1,
        ap length m.2,
      )) m.3 m.4 (omega arith) in
      rw (declarator_again d here behind h (omega arith) (m.0, inl m.2), m.2, others) refl

  pub declarators_again : (ds : List (Declarator Path)) (here rest : List Token)
      → DeclaratorsHere ds here (Sign sign.Semicolon ∷ rest)
      → declarator_height ds ≤ suc height_left
      → declarators_at height_left here ≡ Some (ds, Sign sign.Semicolon ∷ rest)
  unfolding declarators_at
  declarators_again [] here rest h low = absurd h
  declarators_again (d ∷ more) here rest h low = some_again (length here) d more here h.0 rest
      (omega arith) h.1 h.2 low
