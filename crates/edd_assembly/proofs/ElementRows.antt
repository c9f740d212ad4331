-- Elements of arrays, put in order by their numbers, rise; without arrays there are none.
use Rattle.std.proofs.Common.{◌≡◌, refl, ap, ◌∙◌, sym, ℕ, ◌<◌, ◌≤◌, Bool, true, false, List, [], ◌∷◌, ◌++◌, length, arith}
use Rattle.std.specs.Prelude.{◌||◌, ◌==◌, nat_le, nat_lt, if◌then◌else◌}
use Rattle.std.specs.List.{AllByRecursion}
use Rattle.std.proofs.lemmas.Bool.{lt-ltb, leb-true, leb-false, eq-eqb, and_parts, and_from}
use Rattle.edd_syntax.specs.declared.numbers.ArrNo.{ArrNo}
use Rattle.edd_syntax.specs.declared.numbers.Element.{Element}
use Rattle.edd_syntax.specs.declared.numbers.Kind.TheVariants as kind
use Rattle.edd_syntax.specs.declared.reference.Target.{Target}
use Rattle.edd_syntax.specs.Item.{Description}
use Rattle.edd_syntax.specs.Resolution.{count_of}
use Rattle.edd_syntax.specs.Device.{items_of, environment}
use Rattle.edd_syntax.specs.Elements.{with_element, by_number, elements_from}
use Rattle.edd_instructions.specs.Validity.{elements_rise, is_element_before}

-- ---- lists that rise

-- an element is before the first of a list, where there is one
abbrev BeforeFirst : Element → List Element → Type 0
BeforeFirst e [] = Unit {0}
BeforeFirst e (x ∷ rest) = is_element_before e x ≡ true

longer : (e : Element) (xs : List Element) → BeforeFirst e xs → elements_rise xs ≡ true
    → elements_rise (e ∷ xs) ≡ true
longer e [] first rise = refl
longer e (x ∷ rest) first rise = and_from _ _ first rise

parted : (e : Element) (xs : List Element) → elements_rise (e ∷ xs) ≡ true
    → BeforeFirst e xs × (elements_rise xs ≡ true)
parted e [] rise = (tt, refl)
parted e (x ∷ rest) rise = and_parts (is_element_before e x) (elements_rise (x ∷ rest)) rise

or_right : (a b : Bool) → b ≡ true → (a || b) ≡ true
or_right true b h = refl
or_right false b h = h

-- ---- the elements of one array

module _ (a : ArrNo) where
  abbrev AreOf : List Element → Type 0
  AreOf xs = AllByRecursion (λ x. x.array ≡ a) xs

  -- none has this number
  abbrev pub Lacks : ℕ → List Element → Type 0
  Lacks n xs = AllByRecursion (λ x. (n == x.number) ≡ false) xs

  abbrev pub Apart : List Element → Type 0
  Apart [] = Unit {0}
  Apart (e ∷ rest) = Lacks e.number rest × Apart rest

  before : (x y : Element) → x.array ≡ a → y.array ≡ a → x.number < y.number
      → is_element_before x y ≡ true
  before x y one two less = or_right (nat_lt x.array.0 y.array.0) _
      (and_from _ _ (eq-eqb x.array.0 y.array.0 (ap (λ (n : ArrNo). n.0) (one ∙ sym two)))
      (lt-ltb x.number y.number less))

  less_than : (n m : ℕ) → n ≤ m → (n == m) ≡ false → n < m
  less_than n m le apart = omega (arith, le, different)
    where
      different : (n ≡ m) → ⊥
      different same = absurd (cc (sym apart ∙ eq-eqb n m same))

  -- ---- what an insertion keeps

  kept : (P : Element → Type 0) (e : Element) (xs : List Element) → P e → AllByRecursion P xs
      → AllByRecursion P (with_element e xs)
  kept P e [] h k = (h, tt)
  kept P e (x ∷ rest) h k = here (nat_le e.number x.number) (kept P e rest h k.1)
    where
      here : (b : Bool) → AllByRecursion P (with_element e rest)
          → AllByRecursion P (if b then e ∷ x ∷ rest else x ∷ with_element e rest)
      here true more = (h, k)
      here false more = (k.0, more)

  first_kept : (x e : Element) (ys : List Element) → is_element_before x e ≡ true
      → BeforeFirst x ys → BeforeFirst x (with_element e ys)
  first_kept x e [] h k = h
  first_kept x e (y ∷ ys) h k = here (nat_le e.number y.number)
    where
      here : (b : Bool) → BeforeFirst x (if b then e ∷ y ∷ ys else y ∷ with_element e ys)
      here true = h
      here false = k

  rises_with : (e : Element) (xs : List Element) → e.array ≡ a → AreOf xs → Lacks e.number xs
      → elements_rise xs ≡ true → elements_rise (with_element e xs) ≡ true
  rises_with e [] of all lacks rise = refl
  rises_with e (x ∷ rest) of all lacks rise = here (nat_le e.number x.number) refl
      (rises_with e rest of all.1 lacks.1 (parted x rest rise).1)
    where
      here : (b : Bool) → nat_le e.number x.number ≡ b
          → elements_rise (with_element e rest) ≡ true
          → elements_rise (if b then e ∷ x ∷ rest else x ∷ with_element e rest) ≡ true
      here true is more = and_from _ _ (before e x of all.0
          (less_than e.number x.number (leb-true e.number x.number is) lacks.0)) rise
      here false is more =
          let parts = parted x rest rise in
          longer x (with_element e rest) (first_kept x e rest (before x e all.0 of
          (leb-false e.number x.number is)) parts.0) more

  pub by_number_keeps : (P : Element → Type 0) (xs : List Element) → AllByRecursion P xs
      → AllByRecursion P (by_number xs)
  by_number_keeps P [] h = tt
  by_number_keeps P (x ∷ rest) h = kept P x (by_number rest) h.0 (by_number_keeps P rest h.1)

  pub by_number_rises : (xs : List Element) → AreOf xs → Apart xs → elements_rise (by_number xs)
      ≡ true
  by_number_rises [] all apart = refl
  by_number_rises (x ∷ rest) all apart = rises_with x (by_number rest) all.0
      (by_number_keeps (λ y. y.array ≡ a) rest all.1)
      (by_number_keeps (λ y. (x.number == y.number) ≡ false) rest apart.0)
      (by_number_rises rest all.1 apart.1)

-- ---- one array after another

-- a list that rises after one whose elements are all of a smaller array
pub joined : (n : ℕ) (xs ys : List Element) → elements_rise xs ≡ true → elements_rise ys ≡ true
    → AllByRecursion (λ x. x.array.0 < n) xs → AllByRecursion (λ y. n ≤ y.array.0) ys
    → elements_rise (xs ++ ys) ≡ true
joined n [] ys one two small large = two
joined n (x ∷ []) [] one two small large = refl
joined n (x ∷ []) (y ∷ ys) one two small large =
    let less = lt-ltb x.array.0 y.array.0 (omega (arith, small.0, large.0)) in
    and_from _ _ (rw less refl) two
joined n (x ∷ z ∷ rest) ys one two small large =
    let parts = and_parts (is_element_before x z) (elements_rise (z ∷ rest)) one in
    and_from _ _ parts.0 (joined n (z ∷ rest) ys parts.1 two small.1 large)

-- ---- a description without arrays

no_items : {A : Type 0} (xs : List A) → length xs ≡ 0 → xs ≡ []
no_items [] h = refl
no_items (x ∷ xs) h = absurd (omega (arith, h))

pub no_elements : (d : Description Target) → count_of kind.Array d.items ≡ 0
    → (environment d).elements ≡ []
no_elements d none = ap (elements_from 0) (no_items (items_of kind.Array d) none)
