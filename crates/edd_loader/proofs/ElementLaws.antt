-- The rows of elements rise, and what is found among them.
use Rattle.std.proofs.Common.{◌≡◌, ℕ, zero, suc, ◌+◌, ◌-◌, ◌*◌, ◌/◌, ◌<◌, ◌≤◌, ℤ, pos, Bool, true, false, cond, ◌&&◌, nat_eq, nat_lt, List, [], ◌∷◌, length, take, drop, get_or, Option, Some, None, refl, sym, ap, subst, ◌∙◌, arith, inl, inr}
use Rattle.std.specs.Prelude.{◌≢◌, find, option_map, IfSome}
use Rattle.std.specs.Int.{w16, w32}
use Rattle.std.specs.List.{AllByRecursion, list_all, slice_get}
use Rattle.std.specs.Ordering.{int_eq}
use Rattle.std.proofs.lemmas.Bool.{and_parts, or_cases, cases_lt, ltb-true, eqb-true, eq-eqb}
use Rattle.std.proofs.lemmas.List.{get_or-take, get_or-drop}
use Rattle.std.proofs.lemmas.Bool.Decides.{Decides-int_eq}
use Rattle.edd_syntax.specs.declared.numbers.ArrNo.{ArrNo}
use Rattle.edd_syntax.specs.declared.numbers.VarNo.{VarNo}
use Rattle.edd_syntax.specs.declared.numbers.Element.{Element}
use Rattle.edd_image.specs.declared.parts.Counts.{Counts}
use Rattle.edd_instructions.specs.declared.rules.Rule.TheVariants as rule
use Rattle.edd_image.specs.Contents.{rows_from, element_fields, contents_in}
use Rattle.edd_image.specs.Fields as fields
use Rattle.edd_image.specs.Fields.{number_at, counts_in, code_start, element_count, element_rows_start}
use Rattle.edd_image.specs.Existing.{array_exists, variable_exists}
use Rattle.edd_instructions.specs.Spelling.{AreBytes}
use Rattle.edd_syntax.specs.Elements.{element_variable}
use Rattle.edd_instructions.specs.Validity.{IsValid, is_element_before, is_element_row, elements_rise}
use Rattle.edd_instructions.proofs.Readings.{drop_bytes}
use Rattle.edd_loader.specs.Elements.{element_key, key_of}
use Rattle.edd_loader.proofs.Halving.{found_at, none_found, fails}
use Rattle.edd_loader.proofs.LookupLaws.{row_get, row_past}
use Rattle.edd_loader.proofs.RowRules.{row_rules}
use Rattle.edd_loader.proofs.RuleOrder.{valid_sections}
use Rattle.edd_loader.proofs.Spaces.{rooms}

-- ---- keys

abbrev Fits32 : Element → Type 0
Fits32 e = e.number < 4294967296

key_rises : (e next : Element) → Fits32 e → is_element_before e next ≡ true → key_of e < key_of next
key_rises e next small h = elim (or_cases (nat_lt e.array.0 next.array.0) _ h) [
  | inl array ↦ omega (arith, small, ltb-true e.array.0 next.array.0 array)
  | inr same ↦
      let parts = and_parts (nat_eq e.array.0 next.array.0) _ same in
      omega (
        arith,
        eqb-true e.array.0 next.array.0 parts.0,
        ltb-true e.number next.number parts.1,
      )
]

-- later rows have greater keys
keys_rise : (rows : List Element) → AllByRecursion Fits32 rows → elements_rise rows ≡ true
    → (i j : ℕ) (x y : Element) → i < j → slice_get rows i ≡ Some x → slice_get rows j ≡ Some y
    → key_of x < key_of y
keys_rise [] small h i j x y lt e f = absurd cc
keys_rise (r ∷ []) small h i zero x y lt e f = absurd (omega arith)
keys_rise (r ∷ []) small h i (suc j) x y lt e f = absurd cc
keys_rise (r ∷ next ∷ rest) small h i zero x y lt e f = absurd (omega arith)
keys_rise (r ∷ next ∷ rest) small h zero (suc zero) x y lt e f =
    let same : r ≡ x = cc in
    let other : next ≡ y = cc in
    let first = key_rises r next small.0 (and_parts (is_element_before r next)
    (elements_rise (next ∷ rest)) h).0 in
    subst (λ (a : Element). key_of a < key_of y) same
    (subst (λ (a : Element). key_of r < key_of a) other first)
keys_rise (r ∷ next ∷ rest) small h zero (suc (suc j)) x y lt e f =
    let same : r ≡ x = cc in
    let parts = and_parts (is_element_before r next) (elements_rise (next ∷ rest)) h in
    let first = key_rises r next small.0 parts.0 in
    let others = keys_rise (next ∷ rest) small.1 parts.1 zero (suc j) next y (omega arith) refl f
    in
    subst (λ (a : Element). key_of a < key_of y) same (omega (arith, first, others))
keys_rise (r ∷ next ∷ rest) small h (suc i) (suc j) x y lt e f =
    keys_rise (next ∷ rest) small.1 (and_parts (is_element_before r next)
    (elements_rise (next ∷ rest)) h).1 i j x y (omega arith) e f

-- ---- the rows of bytes

pub taken_below : (n : ℕ) (bytes : List ℕ) → AreBytes bytes → (i : ℕ) → get_or (take n bytes) i 0
    < 256
taken_below zero bytes are i = omega arith
taken_below (suc n) [] are i = omega arith
taken_below (suc n) (b ∷ bytes) are zero = are.below 0
taken_below (suc n) (b ∷ bytes) are (suc i) =
    taken_below n bytes (record { below = λ k. are.below (suc k) }) i

number_below : (b : List ℕ) (place : ℕ) → AreBytes b → number_at w32 b place < 4294967296
unfolding number_at
number_below b place are =
    let taken = taken_below 4 (drop place b) (drop_bytes place b are) in
    omega (arith, taken 0, taken 1, taken 2, taken 3)

-- a number of bytes, byte by byte

taken_at : (n place i at : ℕ) (b : List ℕ) → i < n → at ≡ place + i
    → get_or (take n (drop place b)) i 0 ≡ get_or b at 0
taken_at n place i at b lt e = get_or-take n (drop place b) i 0 lt ∙ get_or-drop place b i 0
    ∙ ap (λ (k : ℕ). get_or b k 0) (sym e)

pub two_bytes : (b : List ℕ) (place : ℕ) → number_at w16 b place
    ≡ get_or b place 0 * 256 + get_or b (place + 1) 0
unfolding number_at
two_bytes b place = omega (
  arith,
  taken_at 2 place 0 place b (omega arith) (omega arith),
  taken_at 2 place 1 (place + 1) b (omega arith) refl,
)

pub four_bytes : (b : List ℕ) (place : ℕ) → number_at w32 b (place + 4)
    ≡ ((get_or b (place + 4) 0 * 256 + get_or b (place + 5) 0) * 256 + get_or b (place + 6) 0) * 256
    + get_or b (place + 7) 0
unfolding number_at
four_bytes b place = omega (
  arith,
  taken_at 4 (place + 4) 0 (place + 4) b (omega arith) (omega arith),
  taken_at 4 (place + 4) 1 (place + 5) b (omega arith) (omega arith),
  taken_at 4 (place + 4) 2 (place + 6) b (omega arith) (omega arith),
  taken_at 4 (place + 4) 3 (place + 7) b (omega arith) (omega arith),
)

rows_fit : (b : List ℕ) (n place : ℕ) → AreBytes b
    → AllByRecursion Fits32 (rows_from (element_fields b) 8 n place)
unfolding rows_from
rows_fit b zero place are = tt
rows_fit b (suc n) place are = (number_below b (place + 4) are, rows_fit b n (place + 8) are)

-- the row of a number, as its bytes say
abbrev pub row_at : List ℕ → ℕ → Element
row_at b i = element_fields b (element_rows_start b + 8 * i)

row_stands : (b : List ℕ) (i : ℕ) → i < element_count b
    → slice_get (contents_in b).elements i ≡ Some (row_at b i)
unfolding contents_in
row_stands b i lt = row_get (element_fields b) 8 (element_count b) (element_rows_start b) i lt

row_behind : (b : List ℕ) (i : ℕ) → element_count b ≤ i → slice_get (contents_in b).elements i
    ≡ None
unfolding contents_in
row_behind b i le = row_past (element_fields b) 8 (element_count b) (element_rows_start b) i le

-- a row is one of those that the bytes have
row_is : (b : List ℕ) (i : ℕ) (y : Element) → slice_get (contents_in b).elements i ≡ Some y
    → (i < element_count b) × (row_at b i ≡ y)
row_is b i y e = elim (cases_lt i (element_count b)) [
  | inl inside ↦
      let same' : Some (row_at b i) ≡ Some y = sym (row_stands b i inside) ∙ e in
      let same : row_at b i ≡ y = cc in
      (inside, same)
  | inr behind ↦
      let nothing : ◌≡◌ {A = Option Element} None (Some y) = sym (row_behind b i behind) ∙ e in
      absurd cc
]

contents_fit : (b : List ℕ) → AreBytes b → AllByRecursion Fits32 (contents_in b).elements
unfolding contents_in
contents_fit b are = rows_fit b (element_count b) (element_rows_start b) are

-- the keys of the rows of an image rise
pub image_rises : (b : List ℕ) → IsValid b → AreBytes b → (i j : ℕ) → i < j → j < element_count b
    → key_of (row_at b i) < key_of (row_at b j)
image_rises b valid are i j lt inside =
    let c = contents_in b in
    let rise = (and_parts (list_all (is_element_row c.counts) c.elements) (elements_rise c.elements)
    (row_rules c (valid rule.Row)).elements).1 in
    keys_rise c.elements (contents_fit b are) rise i j _ _ lt (row_stands b i (omega arith))
    (row_stands b j inside)

-- ---- what the search results in

-- the element is that of the array and the number
abbrev is_sought : ArrNo → ℤ → Element → Bool
is_sought array number e = nat_eq e.array.0 array.0 && int_eq (pos e.number) number

-- what is sought, as the code has it
pub record ElementSearch (b : List ℕ) (array : ArrNo) (number start : ℕ) : Type 0 where
  pub valid : IsValid b
  pub are : AreBytes b
  pub start_is : start ≡ element_rows_start b
  pub key : ℕ
  pub key_is : key ≡ element_key array.0 number

sought_number : (array : ArrNo) (number : ℕ) (e : Element) → is_sought array (pos number) e ≡ true
    → e.number ≡ number
sought_number array number e h =
    let same : pos e.number ≡ pos number =
    (Decides-int_eq (pos e.number) (pos number)).0
    (and_parts (nat_eq e.array.0 array.0) _ h).1 in
    cc

sought_key : (array : ArrNo) (number : ℕ) (e : Element) → is_sought array (pos number) e ≡ true
    → key_of e ≡ element_key array.0 number
sought_key array number e h =
    let at : e.array.0 ≡ array.0 = eqb-true e.array.0 array.0
    (and_parts (nat_eq e.array.0 array.0) _ h).0 in
    rw (at, sought_number array number e h) refl

module _ (b : List ℕ) (array : ArrNo) (number start : ℕ)
    (s : ElementSearch b array number start) where
  at_start : (i : ℕ) → element_fields b (start + 8 * i) ≡ row_at b i
  at_start i = ap (λ (k : ℕ). element_fields b (k + 8 * i)) s.start_is

  -- no row has the key
  pub element_missing : ((i : ℕ) → i < element_count b
      → key_of (element_fields b (start + 8 * i)) ≢ s.key)
      → element_variable (contents_in b).elements array (pos number) ≡ None
  element_missing never = ap (option_map (λ (x : Element). x.var))
      (none_found (is_sought array (pos number)) (contents_in b).elements (λ i y e.
      let here = row_is b i y e in
      fails (is_sought array (pos number)) y (λ passes. never i here.0
      (ap key_of (at_start i ∙ here.1) ∙ sought_key array number y passes ∙ sym s.key_is))))

  -- the row at i has the key
  pub element_there : (i variable : ℕ) → i < element_count b → number < 4294967296
      → key_of (element_fields b (start + 8 * i)) ≡ s.key
      → variable ≡ fields.element_variable b (start + 8 * i)
      → Some (record { 0 = variable })
      ≡ element_variable (contents_in b).elements array (pos number)
  element_there i variable inside small same v =
      let its : key_of (row_at b i) ≡ element_key array.0 number =
      sym (ap key_of (at_start i)) ∙ same ∙ s.key_is in
      let its_number = number_below b ((element_rows_start b + 8 * i) + 4) s.are in
      let same_array : nat_eq (row_at b i).array.0 array.0 ≡ true =
      eq-eqb (row_at b i).array.0 array.0 (omega (arith, its, its_number, small)) in
      let same_number : (row_at b i).number ≡ number = omega (arith, its, its_number, small) in
      let passes : is_sought array (pos number) (row_at b i) ≡ true =
      rw (
        same_array,
        (Decides-int_eq (pos (row_at b i).number) (pos number)).1 (ap pos same_number),
      ) refl in
      let found = found_at (is_sought array (pos number)) (contents_in b).elements i (row_at b i)
      (row_stands b i inside) passes (λ j y lt e.
      let less : key_of y < key_of (row_at b i) =
      subst (λ (r : Element). key_of r < key_of (row_at b i)) (row_is b j y e).1
      (image_rises b s.valid s.are j i lt inside) in
      fails (is_sought array (pos number)) y
      (λ passed. omega (arith, less, its, sought_key array number y passed))) in
      let its_variable : variable ≡ (row_at b i).var.0 =
      v ∙ ap (λ (r : Element). r.var.0) (at_start i) in
      let given : VarNo = record { 0 = variable } in
      let same_variable : given ≡ (row_at b i).var =
      ap (λ (k : ℕ). record { 0 = k }) its_variable in
      ap Some same_variable ∙ sym (ap (option_map (λ (x : Element). x.var)) found)

-- no row has a number that doesn't fit
pub no_element : (b : List ℕ) (array : ArrNo) (number : ℤ) → AreBytes b
    → ((n : ℕ) → n < 4294967296 → pos n ≡ number → ⊥)
    → element_variable (contents_in b).elements array number ≡ None
no_element b array number are never = ap (option_map (λ (x : Element). x.var))
    (none_found (is_sought array number) (contents_in b).elements (λ i y e.
    fails (is_sought array number) y (λ passes.
    let fits : y.number < 4294967296 = subst Fits32 (row_is b i y e).1
    (number_below b ((element_rows_start b + 8 * i) + 4) are) in
    never y.number fits ((Decides-int_eq (pos y.number) number).0
    (and_parts (nat_eq y.array.0 array.0) _ passes).1))))

found_passes : (p q : Element → Bool) (rows : List Element) → list_all q rows ≡ true
    → IfSome (find p rows) (λ x. q x ≡ true)
found_passes p q [] h = tt
found_passes p q (r ∷ rest) h = by_test (p r)
    (found_passes p q rest (and_parts (q r) (list_all q rest) h).1)
  where
    by_test : (test : Bool) → IfSome (find p rest) (λ x. q x ≡ true)
        → IfSome (cond test (Some r) (find p rest)) (λ x. q x ≡ true)
    by_test true others = (and_parts (q r) (list_all q rest) h).0
    by_test false others = others

there_is : (counts : Counts) (o : Option Element)
    → IfSome o (λ x. is_element_row counts x ≡ true)
    → IfSome (option_map (λ (x : Element). x.var) o) (λ v. variable_exists counts v ≡ true)
there_is counts None h = tt
there_is counts (Some x) h = (and_parts (array_exists counts x.array) _ h).1

-- what is found is a variable that there is
pub variable_there : (b : List ℕ) (array : ArrNo) (number : ℤ) (o : Option VarNo) → IsValid b
    → o ≡ element_variable (contents_in b).elements array number
    → IfSome o (λ v. variable_exists (counts_in b) v ≡ true)
unfolding contents_in
variable_there b array number o valid e =
    let c = contents_in b in
    let rows = (and_parts (list_all (is_element_row c.counts) c.elements) (elements_rise c.elements)
    (row_rules c (valid rule.Row)).elements).0 in
    subst (λ (x : Option VarNo). IfSome x (λ v. variable_exists (counts_in b) v ≡ true)) (sym e)
    (there_is c.counts (find (is_sought array number) c.elements)
    (found_passes (is_sought array number) (is_element_row c.counts) c.elements rows))

-- the number of rows, by where they start and where the code starts
pub rows_counted : (b : List ℕ) (start code : ℕ) → start ≡ element_rows_start b
    → code ≡ code_start b
    → (start ≤ code) × ((code - start) / 8 ≡ element_count b)
unfolding code_start
rows_counted b start code s c = (omega (arith, s, c), omega (arith, s, c))

-- a row of the bytes ends inside them
pub row_inside : (b : List ℕ) (row start i : ℕ) → IsValid b → start ≡ element_rows_start b
    → i < element_count b → row ≡ start + 8 * i → row + 8 ≤ length b
row_inside b row start i valid s lt r =
    omega (arith, s, lt, r, (rooms b (valid_sections b valid)).elements)
