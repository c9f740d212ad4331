-- A loop over a slice that appends what each element gives in a state.
use Rattle.std.proofs.Common.{◌≡◌, sym, ap, ◌∙◌, ℕ, ◌+◌, ◌<◌, ◌≤◌, List, [], ◌∷◌, ◌++◌, length, get_or, drop, map}
use Rattle.std.proofs.lemmas.List.{append-nil, append_assoc, at_drop_more}
use Rattle.std.proofs.Math.ListN.{drop_of_length-le}

module _ {S X Y Z : Type 0} (all : S → List Y → List Z) (one : S → Y → List Z) (next : S → Y → S)
    (view : X → Y) (splits : (s : S) (y : Y) (ys : List Y) → all s (y ∷ ys) ≡ one s y
    ++ all (next s y) ys) where
  -- what is there and what the elements from the i-th on give
  abbrev pub with_rest : List Z → S → ℕ → List X → List Z
  with_rest zs s i xs = zs ++ all s (map view (drop i xs))

  pub appended : (old new total : List Z) (s : S) (i : ℕ) (xs : List X) (x : X) → i < length xs
      → x ≡ get_or xs i x → new ≡ old ++ one s (view x) → with_rest old s i xs ≡ total
      → with_rest new (next s (view x)) (i + 1) xs ≡ total
  appended old new total s i xs x h is grown invariant =
      ap (λ zs. zs ++ all (next s (view x)) (map view (drop (i + 1) xs))) grown
      ∙ append_assoc old (one s (view x)) (all (next s (view x)) (map view (drop (i + 1) xs)))
      ∙ ap (λ zs. old ++ zs) (ap (λ y. one s (view y)
      ++ all (next s (view y)) (map view (drop (i + 1) xs))) is
      ∙ sym (at_drop_more (λ ys. all s (map view ys)) xs i x h ∙ splits s _ _))
      ∙ invariant

  pub all_appended : (zs total : List Z) (s : S) (i : ℕ) (xs : List X) → length xs ≤ i
      → all s [] ≡ [] → with_rest zs s i xs ≡ total → zs ≡ total
  all_appended zs total s i xs h none invariant =
      sym (append-nil zs) ∙ ap (λ ys. zs ++ ys)
      (sym none ∙ ap (λ ys. all s (map view ys)) (sym (drop_of_length-le xs h))) ∙ invariant
