-- A loop over a slice that numbers the elements which pass a test, and appends what each of them
-- gives.
use Rattle.std.proofs.Common.{◌≡◌, refl, sym, ap, ◌∙◌, ℕ, zero, suc, ◌+◌, ◌<◌, ◌≤◌, Bool, true, false, List, [], ◌∷◌, ◌++◌, length, get_or, drop, map, filter, if◌then◌else◌, IsTrue, arith}
use Rattle.std.proofs.lemmas.List.{at_drop_more}
use Rattle.std.proofs.lemmas.Grind.{common_steps}
use Rattle.std.specs.List.{list_all}
use Rattle.edd_syntax.proofs.Appending.{with_rest, appended, all_appended}

-- how many elements from the i-th on pass a test
module _ {X Y : Type 0} (test : Y → Bool) (view : X → Y) where
  abbrev pub left_from : ℕ → List X → ℕ
  left_from i xs = length (filter test (map view (drop i xs)))

  counted : (y : Y) (ys : List Y) → length (filter test (y ∷ ys)) ≡ (if test y then 1 else 0)
      + length (filter test ys)
  counted y ys = by_test (test y) refl
    where
      by_test : (b : Bool) → test y ≡ b → length (filter test (y ∷ ys)) ≡ (if test y then 1 else 0)
          + length (filter test ys)
      by_test true is = grind (arith, common_steps)
      by_test false is = grind (arith, common_steps)

  pub one_fewer : (i : ℕ) (xs : List X) (x : X) → i < length xs → x ≡ get_or xs i x
      → left_from i xs ≡ (if test (view x) then 1 else 0) + left_from (i + 1) xs
  one_fewer i xs x h is = at_drop_more (λ ys. length (filter test (map view ys))) xs i x h
      ∙ counted _ _ ∙ ap (λ y. (if test (view y) then 1 else 0) + left_from (i + 1) xs) (sym is)

module _ {X Y : Type 0} (test : Y → Bool) (view : X → Y) where
  pub stays_within : (limit s t i : ℕ) (xs : List X) (x : X) (b : Bool) → i < length xs
      → x ≡ get_or xs i x → test (view x) ≡ b → t ≡ (if b then suc s else s)
      → s + left_from test view i xs ≤ limit → t + left_from test view (i + 1) xs ≤ limit
  stays_within limit s t i xs x true h is passes next within =
      omega (
        arith,
        next,
        within,
        one_fewer test view i xs x h is
            ∙ ap (λ c. (if c then 1 else 0) + left_from test view (i + 1) xs) passes,
      )
  stays_within limit s t i xs x false h is fails next within =
      omega (
        arith,
        next,
        within,
        one_fewer test view i xs x h is
            ∙ ap (λ c. (if c then 1 else 0) + left_from test view (i + 1) xs) fails,
      )

-- ---- one turn

module _ {X Y Z : Type 0} (all : ℕ → List Y → List Z) (test : Y → Bool) (give : ℕ → Y → List Z)
    (view : X → Y) (splits : (s : ℕ) (y : Y) (ys : List Y)
    → all s (y ∷ ys) ≡ (if test y then give s y else []) ++ all (if test y then suc s else s) ys)
  where
    -- what is there and what the elements from the i-th on give
    abbrev pub and_rest : List Z → ℕ → ℕ → List X → List Z
    and_rest zs s i xs = with_rest all (λ n y. if test y then give n y else [])
        (λ n y. if test y then suc n else n) view splits zs s i xs

    pub grows : (old new total : List Z) (s t i : ℕ) (xs : List X) (x : X) (b : Bool)
        → i < length xs
        → x ≡ get_or xs i x → test (view x) ≡ b
        → new ≡ old ++ (if b then give s (view x) else []) → t ≡ (if b then suc s else s)
        → and_rest old s i xs ≡ total → and_rest new t (i + 1) xs ≡ total
    grows old new total s t i xs x b h is tested grown next invariant =
        ap (λ n. and_rest new n (i + 1) xs) (next ∙ ap (λ c. if c then suc s else s) (sym tested))
        ∙ appended all (λ n y. if test y then give n y else []) (λ n y. if test y then suc n else n)
        view splits old new total s i xs x h is
        (grown ∙ ap (λ c. old ++ (if c then give s (view x) else [])) (sym tested)) invariant

    pub grown_whole : (zs total : List Z) (s i : ℕ) (xs : List X) → length xs ≤ i → all s [] ≡ []
        → and_rest zs s i xs ≡ total → zs ≡ total
    grown_whole zs total s i xs = all_appended all (λ n y. if test y then give n y else [])
        (λ n y. if test y then suc n else n) view splits zs total s i xs

-- what holds of all elements holds of each
pub all_at : {X Y : Type 0} (f : Y → Bool) (view : X → Y) (xs : List X) (i : ℕ) (x : X)
    → i < length xs → x ≡ get_or xs i x → IsTrue (list_all f (map view xs)) → IsTrue (f (view x))
all_at f view [] i x h is all = absurd (omega arith)
all_at f view (y ∷ xs) zero x h is all = grind (arith, common_steps)
all_at f view (y ∷ xs) (suc i) x h is all =
    grind (arith, common_steps, all_at f view xs i x (omega arith) is)
