-- A loop over a slice that appends what each element gives.
use Rattle.std.proofs.Common.{◌≡◌, sym, ap, ◌∙◌, ℕ, ◌+◌, ◌<◌, ◌≤◌, List, [], ◌∷◌, ◌++◌, length, get_or, drop, map}
use Rattle.std.specs.List.{flat_map}
use Rattle.std.proofs.lemmas.List.{append-nil, append_assoc, at_drop_more, length-append}
use Rattle.std.proofs.Math.ListN.{drop_of_length-le}
use Rattle.edd_syntax.proofs.Appending.{with_rest, appended, all_appended}

-- ---- without a state

module _ {X Y Z : Type 0} (f : Y → List Z) (view : X → Y) where
  abbrev pub and_rest : List Z → ℕ → List X → List Z
  and_rest zs i xs = zs ++ flat_map f (map view (drop i xs))

  pub each_appended : (old : List Z) {new total : List Z} (i : ℕ) (xs : List X) {x : X}
      → i < length xs → x ≡ get_or xs i x → new ≡ old ++ f (view x) → and_rest old i xs ≡ total
      → and_rest new (i + 1) xs ≡ total
  each_appended old i xs {x} h is grown invariant =
      ap (λ zs. zs ++ flat_map f (map view (drop (i + 1) xs))) grown
      ∙ append_assoc old (f (view x)) (flat_map f (map view (drop (i + 1) xs)))
      ∙ ap (λ zs. old ++ zs) (ap (λ y. f (view y) ++ flat_map f (map view (drop (i + 1) xs))) is
      ∙ sym (at_drop_more (λ ys. flat_map f (map view ys)) xs i x h))
      ∙ invariant

  pub each_done : (zs : List Z) {total : List Z} (i : ℕ) (xs : List X) → length xs ≤ i
      → and_rest zs i xs ≡ total → zs ≡ total
  each_done zs i xs h invariant = sym (append-nil zs)
      ∙ ap (λ ys. zs ++ flat_map f (map view ys)) (sym (drop_of_length-le xs h)) ∙ invariant

-- A section of bytes with a row for each element, which says where the element's bytes start.
module _ {X Y Z : Type 0} (row : ℕ → Y → Z) (rows : ℕ → List Y → List Z) (bytes : Y → List ℕ)
    (view : X → Y) (splits : (s : ℕ) (y : Y) (ys : List Y) → rows s (y ∷ ys) ≡ row s y
    ∷ rows (s + length (bytes y)) ys) where
  -- the rows so far, and those of the elements from the i-th on, whose bytes start at s
  abbrev pub rows_and_rest : List Z → ℕ → ℕ → List X → List Z
  rows_and_rest zs s i xs = with_rest rows (λ t y. row t y ∷ []) (λ t y. t + length (bytes y)) view
      splits zs s i xs

  pub row_appended : (old : List Z) {new : List Z} (total : List Z) (before : List ℕ)
      {after : List ℕ} (i : ℕ) (xs : List X) {x : X} → i < length xs → x ≡ get_or xs i x
      → new ≡ old ++ row (length before) (view x) ∷ [] → after ≡ before ++ bytes (view x)
      → rows_and_rest old (length before) i xs ≡ total
      → rows_and_rest new (length after) (i + 1) xs ≡ total
  row_appended old {new} total before i xs {x} h is grown longer invariant =
      ap (λ n. rows_and_rest new n (i + 1) xs)
      (ap length longer ∙ length-append before (bytes (view x)))
      ∙ appended rows (λ t y. row t y ∷ []) (λ t y. t + length (bytes y)) view splits old new total
      (length before) i xs x h is grown invariant

  pub rows_done : (zs total : List Z) (s i : ℕ) (xs : List X) → length xs ≤ i → rows s [] ≡ []
      → rows_and_rest zs s i xs ≡ total → zs ≡ total
  rows_done zs total s i xs = all_appended rows (λ t y. row t y ∷ []) (λ t y. t + length (bytes y))
      view splits zs total s i xs
