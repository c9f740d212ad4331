-- The search by halving among values that rise, and what is found so.
use Rattle.std.proofs.Common.{◌≡◌, ℕ, zero, suc, ◌+◌, ◌<◌, ◌≤◌, Bool, true, false, List, [], ◌∷◌, Some, None, refl, sym, ap, subst, ◌∙◌, arith, inl, inr}
use Rattle.std.specs.Prelude.{find}
use Rattle.std.specs.List.{AllByRecursion, slice_get}
use Rattle.std.proofs.lemmas.Bool.{cases_eq}

-- ---- what is found

pub holds_at : {X : Type 0} (P : X → Type 0) (xs : List X) (n : ℕ) (x : X) → AllByRecursion P xs
    → slice_get xs n ≡ Some x → P x
holds_at P [] n x h e = absurd cc
holds_at P (y ∷ ys) zero x h e = let same : y ≡ x = cc in subst P same h.0
holds_at P (y ∷ ys) (suc n) x h e = holds_at P ys n x h.1 e

pub found_at : {A : Type 0} (p : A → Bool) (rows : List A) (k : ℕ) (x : A)
    → slice_get rows k ≡ Some x → p x ≡ true
    → ((i : ℕ) (y : A) → i < k → slice_get rows i ≡ Some y → p y ≡ false)
    → find p rows ≡ Some x
found_at p [] k x e h before = absurd cc
found_at p (r ∷ rest) zero x e h before =
    let same : r ≡ x = cc in
    let passes : p r ≡ true = ap p same ∙ h in
    rw passes (ap Some same)
found_at p (r ∷ rest) (suc k) x e h before =
    let fails : p r ≡ false = before 0 r (omega arith) refl in
    rw fails (found_at p rest k x e h (λ i y lt f. before (suc i) y (omega arith) f))

pub none_found : {A : Type 0} (p : A → Bool) (rows : List A)
    → ((i : ℕ) (y : A) → slice_get rows i ≡ Some y → p y ≡ false) → find p rows ≡ None
none_found p [] all = refl
none_found p (r ∷ rest) all =
    let fails : p r ≡ false = all 0 r refl in
    rw fails (none_found p rest (λ i y e. all (suc i) y e))

pub fails : {A : Type 0} (p : A → Bool) (r : A) → (p r ≡ true → ⊥) → p r ≡ false
fails p r never = by_test (p r) refl
  where
    by_test : (test : Bool) → p r ≡ test → p r ≡ false
    by_test true e = absurd (never e)
    by_test false e = e

-- ---- the halves

pub below_middle : (f : ℕ → ℕ) (count middle key : ℕ) → ((i j : ℕ) → i < j → j < count → f i < f j)
    → middle < count → f middle < key → (i : ℕ) → i < middle + 1 → f i < key
below_middle f count middle key rising inside low i lt = elim (cases_eq i middle) [
  | inl same ↦ subst (λ (k : ℕ). f k < key) (sym same) low
  | inr other ↦ omega (arith, rising i middle (omega (arith, other, lt)) inside, low)
]

pub above_middle : (f : ℕ → ℕ) (count middle key : ℕ) → ((i j : ℕ) → i < j → j < count → f i < f j)
    → key ≤ f middle → (i : ℕ) → middle ≤ i → i < count → key ≤ f i
above_middle f count middle key rising high i le inside = elim (cases_eq middle i) [
  | inl same ↦ subst (λ (k : ℕ). key ≤ f k) same high
  | inr other ↦ omega (arith, rising middle i (omega (arith, other, le)) inside, high)
]

pub past_middle : (f : ℕ → ℕ) (count middle key : ℕ) → ((i j : ℕ) → i < j → j < count → f i < f j)
    → key < f middle → (i : ℕ) → middle ≤ i → i < count → key < f i
past_middle f count middle key rising high i le inside =
    omega (arith, above_middle f count middle (key + 1) rising (omega (arith, high)) i le inside)
