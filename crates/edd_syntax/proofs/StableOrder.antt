-- A list that is sorted by a number, and in which elements of one number keep an order, is one
-- only.
use Rattle.std.proofs.Common.{◌≡◌, refl, sym, ap, ◌∙◌, ℕ, ◌≤◌, Bool, true, false, List, [], ◌∷◌, length, filter, nat_le, IsTrue, arith, if◌then◌else◌}
use Rattle.std.proofs.lemmas.Grind.{common_steps}
use Rattle.std.proofs.lemmas.Bool.{leb-true, and_parts}
use Rattle.std.specs.List.{list_all}
use Rattle.std.specs.List.Sorted.{ties}
use Rattle.std.specs.Ordering.{is_lt, nat_cmp}
use Rattle.std.specs.Prelude.{◌&&◌}

empty_or_not : {A : Type 0} {x : A} {xs : List A} → ¬ (x ∷ xs ≡ [])
empty_or_not h = omega (arith, ap length h)

abbrev head_or : {A : Type 0} → A → List A → A
head_or d [] = d
head_or d (x ∷ xs) = x

abbrev rest_of : {A : Type 0} → List A → List A
rest_of [] = []
rest_of (x ∷ xs) = xs

module _ {X : Type 0} (n : X → ℕ) where
  abbrev pub tie : X → X → Bool
  tie = ties (λ x y. is_lt (nat_cmp (n x) (n y)))

  abbrev pub all_from : ℕ → List X → Bool
  all_from k xs = list_all (λ y. nat_le k (n y)) xs

  abbrev pub rises : List X → Bool
  rises [] = true
  rises (x ∷ xs) = all_from (n x) xs && rises xs

  pub tied : (x y : X) → n x ≡ n y → tie x y ≡ true
  tied x y same = grind (arith, common_steps)

  pub same_number : (x y : X) → tie x y ≡ true → n x ≡ n y
  same_number x y h = grind (arith, common_steps)

  kept : (x y : X) (ys : List X) (b : Bool) → tie x y ≡ b
      → filter (tie x) (y ∷ ys) ≡ (if b then y ∷ filter (tie x) ys else filter (tie x) ys)
  kept x y ys true is = grind (arith, common_steps)
  kept x y ys false is = grind (arith, common_steps)

  -- an element of the same number as x is there, and no element is below k
  not_below : (k : ℕ) (x z : X) (ys zs : List X) → IsTrue (all_from k ys)
      → filter (tie x) ys ≡ z ∷ zs → k ≤ n x
  not_below k x z [] zs all h = absurd (empty_or_not (sym h))
  not_below k x z (y ∷ ys) zs all h = by_test (tie x y) refl (not_below k x z ys zs)
    where
      by_test : (b : Bool) → tie x y ≡ b
          → (IsTrue (all_from k ys) → filter (tie x) ys ≡ z ∷ zs → k ≤ n x) → k ≤ n x
      by_test true is rest = omega (
        arith,
        same_number x y is,
        leb-true k (n y) (and_parts (nat_le k (n y)) (all_from k ys) all).0,
      )
      by_test false is rest = rest (and_parts (nat_le k (n y)) (all_from k ys) all).1
          (sym (kept x y ys false is) ∙ h)

  tail_kept : (x z : X) (xs ys : List X) → filter (tie z) (x ∷ xs) ≡ filter (tie z) (x ∷ ys)
      → filter (tie z) xs ≡ filter (tie z) ys
  tail_kept x z xs ys h = by_test (tie z x) refl
    where
      by_test : (b : Bool) → tie z x ≡ b → filter (tie z) xs ≡ filter (tie z) ys
      by_test true is = ap rest_of (sym (kept z x xs true is) ∙ h ∙ kept z x ys true is)
      by_test false is = sym (kept z x xs false is) ∙ h ∙ kept z x ys false is

  heads_alike : (x y : X) (xs ys : List X) → n x ≡ n y
      → filter (tie x) (x ∷ xs) ≡ filter (tie x) (y ∷ ys) → x ≡ y
  heads_alike x y xs ys same h = ap (head_or x) (sym (kept x x xs true (tied x x refl)) ∙ h
      ∙ kept x y ys true (tied x y same))

  numbers_alike : (x y : X) (xs ys : List X) → IsTrue (all_from (n x) (x ∷ xs))
      → IsTrue (all_from (n y) (y ∷ ys))
      → ((z : X) → filter (tie z) (x ∷ xs) ≡ filter (tie z) (y ∷ ys)) → n x ≡ n y
  numbers_alike x y xs ys above above' h =
      omega (
        arith,
        not_below (n y) x x (y ∷ ys) (filter (tie x) xs) above'
            (sym (h x) ∙ kept x x xs true (tied x x refl)),
        not_below (n x) y y (x ∷ xs) (filter (tie y) ys) above
            (h y ∙ kept y y ys true (tied y y refl)),
      )

  from_own : (x : X) (xs : List X) → IsTrue (all_from (n x) xs) → IsTrue (all_from (n x) (x ∷ xs))
  from_own x xs h = grind (arith, common_steps)

  pub one_order : (xs ys : List X) → IsTrue (rises xs) → IsTrue (rises ys)
      → ((z : X) → filter (tie z) xs ≡ filter (tie z) ys) → xs ≡ ys
  one_order [] [] up up' h = refl
  one_order [] (y ∷ ys) up up' h =
      absurd (empty_or_not (sym (h y ∙ kept y y ys true (tied y y refl))))
  one_order (x ∷ xs) [] up up' h =
      absurd (empty_or_not (sym (kept x x xs true (tied x x refl)) ∙ h x))
  one_order (x ∷ xs) (y ∷ ys) up up' h =
      let a = and_parts (all_from (n x) xs) (rises xs) up in
      let b = and_parts (all_from (n y) ys) (rises ys) up' in
      let same = heads_alike x y xs ys
      (numbers_alike x y xs ys (from_own x xs a.0) (from_own y ys b.0) h) (h x) in
      ap (λ v. v ∷ xs) same ∙ ap (λ vs. y ∷ vs) (one_order xs ys a.1 b.1
      (λ z. tail_kept y z xs ys (ap (λ v. filter (tie z) (v ∷ xs)) (sym same) ∙ h z)))
