-- A stable sort by number gives the elements by number.
use Rattle.std.proofs.Common.{◌≡◌, subst, ℕ, zero, suc, ◌<◌, ◌≤◌, true, cond, List, [], ◌∷◌, length, get_or, filter, nat_cmp, nat_le, IsTrue, refl, sym, ap, ◌∙◌, arith, inl, inr, suc-le-suc, zero-le}
use Rattle.std.proofs.lemmas.Bool.{cond-true, cond-false, cases_Bool, leb-true, leb-false, and_parts, and_from}
use Rattle.std.proofs.lemmas.Bool.Decides.{nat_tests}
use Rattle.std.specs.List.Sorted.{IsNonDecreasingBy, IsStableByKey}
use Rattle.edd_syntax.specs.declared.numbers.Element.{Element}
use Rattle.edd_syntax.specs.Elements.{with_element, by_number}
use Rattle.edd_syntax.proofs.StableOrder.{tie, all_from, rises, same_number, one_order}

abbrev pub element_number : Element → ℕ
element_number e = e.number

at_most : (m n : ℕ) → m ≤ n → nat_le m n ≡ true
at_most m n h = grind (arith, nat_tests)

-- ---- elements of one number keep their order

filter_with : (x c : Element) (ds : List Element)
    → filter (tie element_number x) (with_element c ds) ≡ filter (tie element_number x) (c ∷ ds)
filter_with x c [] = refl
filter_with x c (d ∷ ds) =
    let p = tie element_number x in
    elim (cases_Bool (nat_le c.number d.number)) [
      | inl before ↦ ap (filter p) (cond-true _ _ _ before)
      | inr past ↦
          ap (filter p) (cond-false _ _ _ past)
          ∙ elim (cases_Bool (p d)) [
            | inr without ↦
                cond-false _ _ _ without ∙ filter_with x c ds
                ∙ ap (λ l. cond (p c) (c ∷ l) l) (sym (cond-false _ _ _ without))
            | inl with ↦
                elim (cases_Bool (p c)) [
                  | inl both ↦
                      absurd (omega (
                        arith,
                        leb-false c.number d.number past,
                        same_number element_number x c both,
                        same_number element_number x d with,
                      ))
                  | inr only ↦
                      cond-true _ _ _ with
                      ∙ ap (λ l. d ∷ l) (filter_with x c ds ∙ cond-false _ _ _ only)
                      ∙ sym (cond-false _ _ _ only ∙ cond-true _ _ _ with)
                ]
          ]
    ]

filter_by_number : (x : Element) (cs : List Element)
    → filter (tie element_number x) (by_number cs) ≡ filter (tie element_number x) cs
filter_by_number x [] = refl
filter_by_number x (c ∷ cs) = filter_with x c (by_number cs)
    ∙ ap (λ l. cond (tie element_number x c) (c ∷ l) l) (filter_by_number x cs)

-- ---- the numbers rise

lower : (n m : ℕ) (ys : List Element) → n ≤ m → IsTrue (all_from element_number m ys)
    → IsTrue (all_from element_number n ys)
lower n m [] le h = refl
lower n m (y ∷ ys) le h =
    let parts = and_parts (nat_le m y.number) (all_from element_number m ys) h in
    and_from (nat_le n y.number) (all_from element_number n ys)
    (at_most n y.number (omega (arith, le, leb-true m y.number parts.0)))
    (lower n m ys le parts.1)

all_with : (n : ℕ) (e : Element) (ys : List Element) → nat_le n e.number ≡ true
    → IsTrue (all_from element_number n ys) → IsTrue (all_from element_number n (with_element e ys))
all_with n e [] le h = and_from (nat_le n e.number) true le refl
all_with n e (y ∷ ys) le h = elim (cases_Bool (nat_le e.number y.number)) [
  | inl before ↦
      subst (λ l. IsTrue (all_from element_number n l)) (sym (cond-true _ _ _ before))
      (and_from (nat_le n e.number) (all_from element_number n (y ∷ ys)) le h)
  | inr past ↦
      let parts = and_parts (nat_le n y.number) (all_from element_number n ys) h in
      subst (λ l. IsTrue (all_from element_number n l)) (sym (cond-false _ _ _ past))
      (and_from (nat_le n y.number) (all_from element_number n (with_element e ys)) parts.0
      (all_with n e ys le parts.1))
]

rises_with : (e : Element) (ys : List Element) → IsTrue (rises element_number ys)
    → IsTrue (rises element_number (with_element e ys))
rises_with e [] h = refl
rises_with e (y ∷ ys) h =
    let parts = and_parts (all_from element_number y.number ys) (rises element_number ys) h in
    elim (cases_Bool (nat_le e.number y.number)) [
      | inl before ↦
          subst (λ l. IsTrue (rises element_number l)) (sym (cond-true _ _ _ before))
          (and_from (all_from element_number e.number (y ∷ ys)) (rises element_number (y ∷ ys))
          (and_from (nat_le e.number y.number) (all_from element_number e.number ys) before
          (lower e.number y.number ys (leb-true e.number y.number before) parts.0)) h)
      | inr past ↦
          let above = leb-false e.number y.number past in
          subst (λ l. IsTrue (rises element_number l)) (sym (cond-false _ _ _ past))
          (and_from (all_from element_number y.number (with_element e ys))
          (rises element_number (with_element e ys))
          (all_with y.number e ys (at_most y.number e.number (omega (arith, above))) parts.0)
          (rises_with e ys parts.1))
    ]

rises_by_number : (cs : List Element) → IsTrue (rises element_number (by_number cs))
rises_by_number [] = refl
rises_by_number (c ∷ cs) = rises_with c (by_number cs) (rises_by_number cs)

all_at : (n : ℕ) (d : Element) (ys : List Element)
    → ((j : ℕ) → j < length ys → n ≤ element_number (get_or ys j d))
    → IsTrue (all_from element_number n ys)
all_at n d [] h = refl
all_at n d (y ∷ ys) h =
    and_from (nat_le n y.number) (all_from element_number n ys)
    (at_most n y.number (h zero (suc-le-suc zero-le)))
    (all_at n d ys (λ j lt. h (suc j) (suc-le-suc lt)))

rises_from_sort : (ys : List Element) → IsNonDecreasingBy element_number ys
    → IsTrue (rises element_number ys)
rises_from_sort [] h = refl
rises_from_sort (y ∷ ys) h =
    and_from (all_from element_number y.number ys) (rises element_number ys)
    (all_at y.number y ys (λ j lt. h zero (suc j) y zero-le (suc-le-suc lt)))
    (rises_from_sort ys (λ i j d le lt. h (suc i) (suc j) d (suc-le-suc le) (suc-le-suc lt)))

pub by_number-from_sort : (xs ys : List Element) → IsNonDecreasingBy element_number ys
    → IsStableByKey element_number nat_cmp xs ys → ys ≡ by_number xs
by_number-from_sort xs ys sorted stable =
    one_order element_number ys (by_number xs) (rises_from_sort ys sorted) (rises_by_number xs)
    (λ x. stable x ∙ sym (filter_by_number x xs))
