-- Qualifiers in parentheses are read as they are spelled.
use Rattle.std.proofs.Common.{◌≡◌, ℕ, zero, suc, ◌≤◌, true, false, IsTrue, List, [], ◌∷◌, drop, length, Some, refl, sym, ap, ◌∙◌, inl, inr, arith}
use Rattle.std.specs.List.{list_all}
use Rattle.edd_syntax.specs.declared.operators.Comparison.TheVariants as comparison
use Rattle.edd_syntax.specs.declared.symbols.Symbol.TheVariants as sign
use Rattle.edd_syntax.specs.Text.{Name}
use Rattle.edd_syntax.specs.Token.{Token, Identifier, Sign}
use Rattle.edd_syntax.specs.Refusal.{is_name_in}
use Rattle.edd_syntax.specs.ItemGrammar.{NextName, MoreQualifiersHere, QualifiersHere}
use Rattle.edd_grammar.specs.Reading.{at, name_at}
use Rattle.edd_grammar.specs.ConditionalReading.{skip_comma}
use Rattle.edd_grammar.specs.ValueReading.{allowed_at, some_qualifiers, qualifiers_at}
use Rattle.edd_grammar.proofs.Steps.{bind_some, guard_some, both_true, as_read, at_is, name_is}
use Rattle.edd_grammar.proofs.Alternatives.{branch}
use Rattle.edd_grammar.proofs.SoundLists.{skip_sound}
use Rattle.edd_grammar.proofs.CompleteLists.{comma_shorter}

module _ (allowed : List Name) where
  -- one or more names that are allowed, and the closing parenthesis after them
  abbrev SomeHere : List Name → List Token → List Token → Type 0
  SomeHere [] here rest = ⊥
  SomeHere (n ∷ more) here rest =
      IsTrue (list_all (is_name_in allowed) (n ∷ more)) × (behind : List Token)
      × NextName n here behind × MoreQualifiersHere more behind (Sign sign.CloseParenthesis
      ∷ rest)

  allowed_sound : (here : List Token) (n : Name) (rest : List Token) → allowed_at allowed here
      ≡ Some (n, rest) → IsTrue (is_name_in allowed n) × NextName n here rest
  unfolding allowed_at
  allowed_sound here n rest x =
      let a = bind_some (name_at here) _ (n, rest) x in
      let g = guard_some (is_name_in allowed a.0.0) (Some a.0) (n, rest) a.2 in
      as_read (λ n r. IsTrue (is_name_in allowed n) × NextName n here r) a.0.0 n a.0.1 rest g.1
      (g.0, name_is here a.0.0 a.0.1 a.1)

  behind_first : (n : Name) (others : List Name) (here behind rest : List Token)
      → IsTrue (is_name_in allowed n) → NextName n here behind
      → SomeHere others (skip_comma behind) rest → SomeHere (n ∷ others) here rest
  behind_first n [] here behind rest a h s = absurd s
  behind_first n (m ∷ more) here behind rest a h s =
      (rw (a, s.0) refl, behind, h, (skip_comma behind, s.1, skip_sound behind, s.2, s.3))

  some_sound : (n : ℕ) (here : List Token) (names : List Name) (rest : List Token)
      → some_qualifiers allowed n here ≡ Some (names, rest) → SomeHere names here rest
  unfolding some_qualifiers
  some_sound zero here names rest x = absurd cc
  some_sound (suc n) here names rest x =
      let a = bind_some (allowed_at allowed here) _ (names, rest) x in
      let b = bind_some _ _ (names, rest) a.2 in
      let first = allowed_sound here a.0.0 a.0.1 a.1 in
      as_read (λ names r. SomeHere names here r) _ names _ rest b.2 (
      branch (at sign.CloseParenthesis a.0.1) _ _ _ b.1
      (λ t y. as_read (λ others r. SomeHere (a.0.0 ∷ others) here r) [] b.0.0 (drop 1 a.0.1) b.0.1 y
      (rw first.0 refl, a.0.1, first.1, at_is sign.CloseParenthesis a.0.1 t))
      (λ _ y. behind_first a.0.0 b.0.0 here a.0.1 b.0.1 first.0 first.1
      (some_sound n (skip_comma a.0.1) b.0.0 b.0.1 y)))

  in_parentheses : (names : List Name) (here rest : List Token) → at sign.OpenParenthesis here
      ≡ true → SomeHere names (drop 1 here) rest → QualifiersHere allowed names here rest
  in_parentheses [] here rest t s = absurd s
  in_parentheses (n ∷ more) here rest t s =
      (s.0, drop 1 here, s.1, at_is sign.OpenParenthesis here t, s.2, s.3)

  pub qualifiers_sound : (here : List Token) (names : List Name) (rest : List Token)
      → qualifiers_at allowed here ≡ Some (names, rest) → QualifiersHere allowed names here rest
  unfolding qualifiers_at
  qualifiers_sound here names rest x =
      branch (at sign.OpenParenthesis here) _ _ _ x
      (λ t y. in_parentheses names here rest t (some_sound (length here) (drop 1 here) names rest
      y))
      (λ _ y. as_read (λ names r. QualifiersHere allowed names here r) [] names here rest y refl)

  -- ---- what is spelled is read

  some_again : (n : ℕ) (first : Name) (more : List Name) (here behind rest : List Token)
      → length here ≤ n → IsTrue (list_all (is_name_in allowed) (first ∷ more))
      → NextName first here behind
      → MoreQualifiersHere more behind (Sign sign.CloseParenthesis ∷ rest)
      → some_qualifiers allowed n here ≡ Some (first ∷ more, rest)
  unfolding some_qualifiers allowed_at
  some_again zero first more here behind rest lt a h m = absurd (omega (arith, ap length h))
  some_again (suc n) first [] here behind rest lt a h m =
      let b = both_true (is_name_in allowed first) (list_all (is_name_in allowed) []) a in
      rw (h, b.0, m) refl
  some_again (suc n) first (second ∷ more) here behind rest lt a h (from, last, inl e, next, m) =
      let b = both_true (is_name_in allowed first) (list_all (is_name_in allowed) (second ∷ more))
      a in
      let others = some_again n second more from last rest (omega (arith, ap length h, ap length e))
      b.1 next m in
      let same : behind ≡ Identifier second ∷ last = e ∙ next in
      let no_close : at sign.CloseParenthesis behind ≡ false = ap (at sign.CloseParenthesis) same in
      let skipped : skip_comma behind ≡ from = ap skip_comma same ∙ sym next in
      rw (h, b.0, no_close, skipped, others) refl
  some_again (suc n) first (second ∷ more) here behind rest lt a h (from, last, inr e, next, m) =
      let b = both_true (is_name_in allowed first) (list_all (is_name_in allowed) (second ∷ more))
      a in
      let others = some_again n second more from last rest (omega (arith, ap length h, ap length e))
      b.1 next m in
      rw (h, b.0, e, others) refl

  -- qualifiers are read where no parenthesis follows those that are missing
  pub qualifiers_again : (names : List Name) (here rest : List Token) → at sign.OpenParenthesis rest
      ≡ false → QualifiersHere allowed names here rest → qualifiers_at allowed here
      ≡ Some (names, rest)
  unfolding qualifiers_at
  qualifiers_again [] here rest f h = rw (h, f) refl
  qualifiers_again (n ∷ more) here rest f h =
      rw h.3 (some_again (suc (length h.1)) n more h.1 h.2 rest (omega arith) h.0 h.4 h.5)

  more_shorter : (names : List Name) (here rest : List Token) → MoreQualifiersHere names here rest
      → length rest ≤ length here
  more_shorter [] here rest h = omega (arith, ap length h)
  more_shorter (n ∷ more) here rest h = omega (
    arith,
    comma_shorter here h.0 h.2,
    ap length h.3,
    more_shorter more h.1 rest h.4,
  )

  pub qualifiers_shorter : (names : List Name) (here rest : List Token)
      → QualifiersHere allowed names here rest → length rest ≤ length here
  qualifiers_shorter [] here rest h = omega (arith, ap length h)
  qualifiers_shorter (n ∷ more) here rest h =
      omega (arith, ap length h.3, ap length h.4, more_shorter more h.2 _ h.5)

  -- qualifiers begin with no dot and no mask, where what follows them doesn't
  pub qualifiers_begin : (names : List Name) (here rest : List Token)
      → QualifiersHere allowed names here rest → at sign.Dot rest ≡ false
      → at (sign.Comparison comparison.Less) rest ≡ false
      → (at sign.Dot here ≡ false) × (at (sign.Comparison comparison.Less) here ≡ false)
  qualifiers_begin [] here rest h d l =
      (ap (at sign.Dot) h ∙ d, ap (at (sign.Comparison comparison.Less)) h ∙ l)
  qualifiers_begin (n ∷ more) here rest h d l =
      (ap (at sign.Dot) h.3, ap (at (sign.Comparison comparison.Less)) h.3)
