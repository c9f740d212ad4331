-- The rows of the elements of a checked description are sound.
use Rattle.std.proofs.Common.{◌≡◌, refl, sym, ap, ◌∙◌, ℕ, suc, ◌+◌, ◌<◌, ◌≤◌, Bool, true, false, List, [], ◌∷◌, ◌++◌, length, map, filter, IsTrue, nat_lt, arith}
use Rattle.std.specs.Prelude.{◌&&◌, ◌==◌, if◌then◌else◌}
use Rattle.std.specs.List.{AllByRecursion, flat_map, list_all}
use Rattle.std.proofs.lemmas.Bool.{false≢true, and_parts, and_from, or_parts, lt-ltb, eq-eqb, eqb-true, false_from_ne_true}
use Rattle.std.proofs.lemmas.List.Folds.{list_all-append}
use Rattle.edd_syntax.specs.declared.reference.Target.{Target}
use Rattle.edd_syntax.specs.declared.numbers.ArrNo.{ArrNo}
use Rattle.edd_syntax.specs.declared.numbers.Element.{Element}
use Rattle.edd_syntax.specs.declared.numbers.Kind.TheVariants as kind
use Rattle.edd_syntax.specs.Item.{ArrayElement, kind_of_item, Item, Description}
use Rattle.edd_syntax.specs.Numbers.{same_kind}
use Rattle.edd_syntax.specs.Elements.{written_elements, element_of, elements_of, elements_from}
use Rattle.edd_syntax.specs.Device.{items_of, environment}
use Rattle.edd_syntax.specs.Refusal.{DuplicateElement, refused_if}
use Rattle.edd_syntax.specs.Resolved.{IsChecked}
use Rattle.edd_syntax.specs.SubsetRules.{is_number_in, repeated_numbers}
use Rattle.edd_image.specs.declared.parts.Counts.{Counts}
use Rattle.edd_instructions.specs.Validity.{is_element_row, elements_rise}
use Rattle.edd_instructions.specs.Agreement.{counts_of}
use Rattle.edd_assembly.proofs.ElementRows.{Lacks, Apart, by_number_keeps, by_number_rises, joined}
use Rattle.edd_assembly.proofs.ElementsOnce.{has_numbers_once, none_repeated, numbers_once_when_checked}
use Rattle.edd_assembly.proofs.ElementVariables.{has_variable, has_variables, variables_exist_when_checked}
use Rattle.edd_syntax.proofs.WithinLimits.{no_front, no_rest, no_refusal}

-- ---- lists

module _ {A : Type 0} where
  weaker : (P Q : A → Type 0) → ((x : A) → P x → Q x) → (xs : List A) → AllByRecursion P xs
      → AllByRecursion Q xs
  weaker P Q keeps [] h = record {}
  weaker P Q keeps (x ∷ xs) h = (keeps x h.0, weaker P Q keeps xs h.1)

  both : (P : A → Type 0) (xs ys : List A) → AllByRecursion P xs → AllByRecursion P ys
      → AllByRecursion P (xs ++ ys)
  both P [] ys h k = k
  both P (x ∷ xs) ys h k = (h.0, both P xs ys h.1 k)

  all_pass : (test : A → Bool) (xs : List A) → AllByRecursion (λ x. test x ≡ true) xs
      → list_all test xs ≡ true
  all_pass test [] h = refl
  all_pass test (x ∷ xs) h = and_from (test x) (list_all test xs) h.0 (all_pass test xs h.1)

  -- what all pass, those pass that another test keeps
  picked_pass : (test pick : A → Bool) (xs : List A) → list_all test xs ≡ true
      → list_all test (filter pick xs) ≡ true
  picked_pass test pick [] h = refl
  picked_pass test pick (x ∷ xs) h =
      let parts = and_parts (test x) (list_all test xs) h in
      here (pick x) parts.0 (picked_pass test pick xs parts.1)
    where
      here : (b : Bool) → test x ≡ true → list_all test (filter pick xs) ≡ true
          → list_all test (if b then x ∷ filter pick xs else filter pick xs) ≡ true
      here true first rest = and_from (test x) (list_all test (filter pick xs)) first rest
      here false first rest = rest

-- ---- the elements of one array

turned : (m n : ℕ) → (m == n) ≡ false → (n == m) ≡ false
turned m n h = false_from_ne_true (n == m)
    (λ e. false≢true (sym h ∙ eq-eqb m n (sym (eqb-true n m e))))

module _ (a : ArrNo) where
  abbrev elements : List (ArrayElement Target) → List Element
  elements es = map (element_of a) es

  of_array : (es : List (ArrayElement Target)) → AllByRecursion (λ x. x.array ≡ a) (elements es)
  of_array [] = record {}
  of_array (e ∷ es) = (refl, of_array es)

  lacks : (n : ℕ) (before : List ℕ) → ((m : ℕ) → is_number_in before m ≡ false → (n == m) ≡ false)
      → (es : List (ArrayElement Target)) → repeated_numbers before es ≡ []
      → Lacks a n (elements es)
  lacks n before other [] h = record {}
  lacks n before other (e ∷ es) h =
      let new = refused_if (is_number_in before e.number) DuplicateElement in (
        other e.number
            (no_refusal (is_number_in before e.number) DuplicateElement (no_front new _ h)),
        lacks n (e.number ∷ before)
            (λ m k. other m (or_parts (m == e.number) (is_number_in before m) k).1) es
            (no_rest new _ h),
      )

  apart : (before : List ℕ) (es : List (ArrayElement Target)) → repeated_numbers before es ≡ []
      → Apart a (elements es)
  apart before [] h = record {}
  apart before (e ∷ es) h =
      let rest = no_rest (refused_if (is_number_in before e.number) DuplicateElement) _ h in (
        lacks e.number (e.number ∷ before)
            (λ m k. turned m e.number (or_parts (m == e.number) (is_number_in before m) k).0) es
            rest,
        apart (e.number ∷ before) es rest,
      )

  abbrev written : Item Target → List (ArrayElement Target)
  written i = flat_map written_elements i.attributes

  are_of : (i : Item Target) → AllByRecursion (λ x. x.array ≡ a) (elements_of a i)
  are_of i = by_number_keeps a (λ x. x.array ≡ a) (elements (written i)) (of_array (written i))

  array_rises : (i : Item Target) → has_numbers_once i ≡ true → elements_rise (elements_of a i)
      ≡ true
  array_rises i once = by_number_rises a (elements (written i)) (of_array (written i))
      (apart [] (written i) (none_repeated i once))

  module _ (counts : Counts) (there : nat_lt a.0 counts.arrays ≡ true) where
    rows : (es : List (ArrayElement Target)) → list_all (has_variable counts.variables) es ≡ true
        → AllByRecursion (λ x. is_element_row counts x ≡ true) (elements es)
    rows [] h = record {}
    rows (e ∷ es) h =
        let parts = and_parts (has_variable counts.variables e)
        (list_all (has_variable counts.variables) es) h in (
          and_from (nat_lt a.0 counts.arrays) (has_variable counts.variables e) there parts.0,
          rows es parts.1,
        )

    array_rows : (i : Item Target) → has_variables counts.variables i ≡ true
        → list_all (is_element_row counts) (elements_of a i) ≡ true
    array_rows i has = all_pass (is_element_row counts) (elements_of a i)
        (by_number_keeps a (λ x. is_element_row counts x ≡ true) (elements (written i))
        (rows (written i) has))

-- ---- one array after another

abbrev number : ℕ → ArrNo
number n = record { 0 = n }

from_on : (n : ℕ) (xs : List (Item Target)) → AllByRecursion (λ y. n ≤ y.array.0)
    (elements_from n xs)
from_on n [] = record {}
from_on n (i ∷ rest) =
    both (λ y. n ≤ y.array.0) (elements_of (number n) i) (elements_from (suc n) rest)
    (weaker (λ x. x.array ≡ number n) (λ y. n ≤ y.array.0)
    (λ x is. omega (arith, ap (λ (m : ArrNo). m.0) is)) (elements_of (number n) i)
    (are_of (number n) i))
    (weaker (λ y. suc n ≤ y.array.0) (λ y. n ≤ y.array.0) (λ x later. omega (arith, later))
    (elements_from (suc n) rest) (from_on (suc n) rest))

rise_from : (n : ℕ) (xs : List (Item Target)) → list_all has_numbers_once xs ≡ true
    → elements_rise (elements_from n xs) ≡ true
rise_from n [] once = refl
rise_from n (i ∷ rest) once =
    let parts = and_parts (has_numbers_once i) (list_all has_numbers_once rest) once in
    joined (suc n) (elements_of (number n) i) (elements_from (suc n) rest)
    (array_rises (number n) i parts.0) (rise_from (suc n) rest parts.1)
    (weaker (λ x. x.array ≡ number n) (λ x. x.array.0 < suc n)
    (λ x is. omega (arith, ap (λ (m : ArrNo). m.0) is)) (elements_of (number n) i)
    (are_of (number n) i))
    (from_on (suc n) rest)

rows_from : (counts : Counts) (n : ℕ) (xs : List (Item Target))
    → list_all (has_variables counts.variables) xs ≡ true → n + length xs ≤ counts.arrays
    → list_all (is_element_row counts) (elements_from n xs) ≡ true
rows_from counts n [] has within = refl
rows_from counts n (i ∷ rest) has within =
    let parts = and_parts (has_variables counts.variables i)
    (list_all (has_variables counts.variables) rest) has in
    let here = elements_of (number n) i in
    let others = elements_from (suc n) rest in
    list_all-append (is_element_row counts) here others
    ∙ and_from (list_all (is_element_row counts) here) (list_all (is_element_row counts) others)
    (array_rows (number n) counts (lt-ltb n counts.arrays (omega (arith, within))) i parts.0)
    (rows_from counts (suc n) rest parts.1 (omega (arith, within)))

-- ---- a checked description

abbrev is_array : Item Target → Bool
is_array i = same_kind (kind_of_item i.sort) kind.Array

pub elements_sound : (d : Description Target) (strings : ℕ) → ∥ IsChecked d ∥₁
    → IsTrue (list_all (is_element_row (counts_of d.identification d.items strings))
    (environment d).elements && elements_rise (environment d).elements)
elements_sound d strings checked =
    let counts = counts_of d.identification d.items strings in
    and_from (list_all (is_element_row counts) (environment d).elements)
    (elements_rise (environment d).elements)
    (rows_from counts 0 (items_of kind.Array d) (picked_pass (has_variables counts.variables)
    is_array d.items (variables_exist_when_checked d checked)) (omega arith))
    (rise_from 0 (items_of kind.Array d) (picked_pass has_numbers_once is_array d.items
    (numbers_once_when_checked d checked)))
