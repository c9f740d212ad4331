-- Sums over lists, from the front.
use Rattle.std.proofs.Common.{◌≡◌, refl, sym, ap, ◌∙◌, ℕ, ◌+◌, ◌*◌, ◌≤◌, List, [], ◌∷◌, ◌++◌, map, arith}
use Rattle.std.specs.Prelude.{sum}
use Rattle.std.specs.List.{flat_map}
use Rattle.std.proofs.lemmas.List.Sums.{sum_by-cons}

abbrev pub total : {A : Type 0} → (A → ℕ) → List A → ℕ
total f [] = 0
total f (x ∷ xs) = f x + total f xs

module _ {A : Type 0} (f : A → ℕ) where
  pub sum_is_total : (xs : List A) → sum (map f xs) ≡ total f xs
  sum_is_total [] = refl
  sum_is_total (x ∷ xs) = sum_by-cons (λ n. n) (f x) (map f xs)
      ∙ ap (λ n. f x + n) (sum_is_total xs)

  pub total-append : (xs ys : List A) → total f (xs ++ ys) ≡ total f xs + total f ys
  total-append [] ys = omega arith
  total-append (x ∷ xs) ys = omega (arith, total-append xs ys)

  pub total-map : {B : Type 0} (g : B → A) (xs : List B)
      → total f (map g xs) ≡ total (λ x. f (g x)) xs
  total-map g [] = refl
  total-map g (x ∷ xs) = ap (λ n. f (g x) + n) (total-map g xs)

  pub total-flat_map : {B : Type 0} (g : B → List A) (xs : List B) → total f (flat_map g xs)
      ≡ total (λ x. total f (g x)) xs
  total-flat_map g [] = refl
  total-flat_map g (x ∷ xs) = total-append (g x) (flat_map g xs)
      ∙ ap (λ n. total f (g x) + n) (total-flat_map g xs)

  pub total_times : (xs : List A) → total (λ x. 32 * f x) xs ≡ 32 * total f xs
  total_times [] = refl
  total_times (x ∷ xs) = omega (arith, total_times xs)

  module _ (g : A → ℕ) where
    pub total_same : ((x : A) → f x ≡ g x) → (xs : List A) → total f xs ≡ total g xs
    total_same same [] = refl
    total_same same (x ∷ xs) = omega (arith, same x, total_same same xs)

    pub total_le : ((x : A) → f x ≤ g x) → (xs : List A) → total f xs ≤ total g xs
    total_le less [] = omega arith
    total_le less (x ∷ xs) = omega (arith, less x, total_le less xs)

    pub total_plus : (xs : List A) → total (λ x. f x + g x) xs ≡ total f xs + total g xs
    total_plus [] = refl
    total_plus (x ∷ xs) = omega (arith, total_plus xs)

no_total : {A : Type 0} (xs : List A) → total (λ x. 0) xs ≡ 0
no_total [] = refl
no_total (x ∷ xs) = omega (arith, no_total xs)

pub total_swap : {A B : Type 0} (f : A → B → ℕ) (xs : List A) (ys : List B)
    → total (λ x. total (λ y. f x y) ys) xs ≡ total (λ y. total (λ x. f x y) xs) ys
total_swap f [] ys = sym (no_total ys)
total_swap f (x ∷ xs) ys = ap (λ n. total (λ y. f x y) ys + n) (total_swap f xs ys)
    ∙ sym (total_plus (λ y. f x y) (λ y. total (λ z. f z y) xs) ys)
