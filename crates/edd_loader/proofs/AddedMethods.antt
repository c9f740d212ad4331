-- Which units add abort methods, and what the search for their bodies says.
use Rattle.std.proofs.Common.{◌≡◌, ℕ, Bool, true, false, nat_eq, nat_lt, List, [], ◌∷◌, length, map, Option, Some, None, refl, sym, ap, subst, ◌∙◌, inl, inr}
use Rattle.std.specs.Prelude.{find, is_some, option_map}
use Rattle.std.specs.List.{AllByRecursion, list_all, list_any}
use Rattle.std.proofs.lemmas.Bool.{cases_Bool, and_parts, or_left, or_right}
use Rattle.edd_syntax.specs.declared.numbers.MethNo.{MethNo}
use Rattle.edd_instructions.specs.declared.instruction.Instruction.{Instruction}
use Rattle.edd_instructions.specs.declared.instruction.Instruction.TheVariants as instructions
use Rattle.edd_image.specs.declared.versions.Version.{Version}
use Rattle.edd_image.specs.declared.versions.Version.TheVariants.{One, Two}
use Rattle.edd_instructions.specs.declared.unit.Sort.{Sort}
use Rattle.edd_instructions.specs.declared.unit.Sort.TheVariants.{Attribute, Method}
use Rattle.edd_instructions.specs.declared.unit.Context.{Context}
use Rattle.edd_instructions.specs.declared.rules.UnitRule.TheVariants.{Chain}
use Rattle.edd_image.specs.Fields.{attribute_count, attribute_rows_start, code_start, code_length}
use Rattle.edd_image.specs.Contents.{AttributeFields, Contents, part, rows_from, attribute_fields, contents_in}
use Rattle.edd_instructions.specs.Reading.{body_of}
use Rattle.edd_instructions.specs.Units.{Placed, UnitKeeps, end_of, instructions, is_allowed}
use Rattle.edd_instructions.specs.Validity.{EachUnitKeeps, PlacedUnit, adds_with_body, all_add_with_body, has_body, is_body, placed_unit, sort_of}
use Rattle.edd_loader.specs.AbortMethods.{is_body_or_adds, row_adds_with_body, unit_adds_with_body}
use Rattle.edd_unit_rules.proofs.Listing.{from_place}
use Rattle.edd_loader.proofs.Spaces.{all_mapped}

-- ---- bodies

any_found : {A : Type 0} (p : A → Bool) (xs : List A) → is_some (find p xs) ≡ list_any p xs
any_found p [] = refl
any_found p (x ∷ xs) = elim (cases_Bool (p x)) [
  | inl e ↦ rw e refl
  | inr e ↦ rw e (any_found p xs)
]

body_found : (c : Contents) (m : MethNo) → is_some (body_of c m) ≡ has_body c m
body_found c m = any_found _ c.attributes

row_known : (read : ℕ → AttributeFields) (o : Option ℕ) → is_some o ≡ is_some (option_map read o)
row_known read None = refl
row_known read (Some row) = refl

-- whether there is a row tells whether there is a body
pub row_tells : (b : List ℕ) (m : MethNo) (o : Option ℕ)
    → option_map (attribute_fields b) o ≡ body_of (contents_in b) m
    → is_some o ≡ has_body (contents_in b) m
row_tells b m o e = row_known (attribute_fields b) o ∙ ap is_some e ∙ body_found (contents_in b) m

-- ---- units that add none

-- no abort method may be added there
abbrev pub AddsNone : Version → Sort → Type 0
AddsNone version sort = (m : MethNo)
    → is_allowed version sort (instructions.AddAbortMethod m) ≡ false

pub none_in_version_one : (sort : Sort) → AddsNone One sort
none_in_version_one Attribute m = refl
none_in_version_one Method m = refl

pub none_in_attributes : (version : Version) → AddsNone version Attribute
none_in_attributes One m = refl
none_in_attributes Two m = refl

allowed_adds : (c : Contents) (version : Version) (sort : Sort) (i : Instruction)
    → AddsNone version sort → is_allowed version sort i ≡ true → adds_with_body c i ≡ true
allowed_adds c version sort (instructions.AddAbortMethod m) none h =
    let never : false ≡ true = sym (none m) ∙ h in absurd cc
allowed_adds c version sort _ none h = refl

each_adds : (c : Contents) (version : Version) (sort : Sort) (xs : List Placed)
    → AddsNone version sort → list_all (λ x. is_allowed version sort x.instruction) xs ≡ true
    → list_all (λ x. adds_with_body c x.instruction) xs ≡ true
each_adds c version sort [] none h = refl
each_adds c version sort (x ∷ xs) none h =
    let parts = and_parts (is_allowed version sort x.instruction) _ h in
    rw (allowed_adds c version sort x.instruction none parts.0)
    (each_adds c version sort xs none parts.1)

none_added : (c : Contents) (context : Context) (unit : List ℕ)
    → AddsNone context.version context.sort → UnitKeeps context unit Chain
    → unit_adds_with_body c unit ≡ true
none_added c context unit none h =
    let filled = (and_parts (nat_lt 0 (length unit)) _ h).1 in
    each_adds c context.version context.sort (instructions unit) none
    (and_parts (nat_eq (end_of 0 (instructions unit)) (length unit)) _ filled).1

-- ---- the rows of an image

abbrev Chained : Contents → List AttributeFields → Type 0
Chained c rows = AllByRecursion (λ (u : PlacedUnit). UnitKeeps u.context u.code Chain)
    (map (placed_unit c) rows)

rows_of_one_add : (c : Contents) (rows : List AttributeFields) → c.version ≡ One → Chained c rows
    → list_all (λ (u : PlacedUnit). unit_adds_with_body c u.code) (map (placed_unit c) rows) ≡ true
rows_of_one_add c [] one h = refl
rows_of_one_add c (r ∷ rest) one h =
    let here = none_added c (placed_unit c r).context (placed_unit c r).code
    (subst (λ (v : Version). AddsNone v (sort_of r)) (sym one) (none_in_version_one (sort_of r)))
    h.0 in
    rw here (rows_of_one_add c rest one h.1)

-- an image of the first version adds no abort method
pub version_one_adds_none : (c : Contents) → c.version ≡ One → EachUnitKeeps c Chain
    → all_add_with_body c ≡ true
version_one_adds_none c one h = rows_of_one_add c c.attributes one h

body_or_adds : (c : Contents) (r : AttributeFields)
    → UnitKeeps (placed_unit c r).context (placed_unit c r).code Chain
    → is_body_or_adds c c.code r ≡ true
body_or_adds c r h = elim (cases_Bool (is_body r)) [
  | inl e ↦ or_left (is_body r) _ e
  | inr e ↦
      let sort : sort_of r ≡ Attribute = rw e refl in
      or_right (is_body r) _ (none_added c (placed_unit c r).context (placed_unit c r).code
      (subst (λ (s : Sort). AddsNone c.version s) (sym sort) (none_in_attributes c.version)) h)
]

bodies_or_add : (c : Contents) (rows : List AttributeFields) → Chained c rows
    → list_all (is_body_or_adds c c.code) rows ≡ true
bodies_or_add c [] h = refl
bodies_or_add c (r ∷ rest) h = rw (body_or_adds c r h.0) (bodies_or_add c rest h.1)

-- the same of other words for the code and the rows

pub others_add_none : (b code : List ℕ) (start count place size : ℕ)
    → code ≡ part (record { start = place; size = size }) b → place ≡ code_start b
    → size ≡ code_length b → start ≡ attribute_rows_start b → count ≡ attribute_count b
    → EachUnitKeeps (contents_in b) Chain
    → list_all (is_body_or_adds (contents_in b) code)
    (rows_from (attribute_fields b) 16 count start) ≡ true
unfolding contents_in
others_add_none b code start count place size n p s e f h =
    rw (n, p, s, e, f) (bodies_or_add (contents_in b) (contents_in b).attributes h)

pub rows_add_all : (b code : List ℕ) (start count place size : ℕ)
    → code ≡ part (record { start = place; size = size }) b → place ≡ code_start b
    → size ≡ code_length b → start ≡ attribute_rows_start b → count ≡ attribute_count b
    → list_all (row_adds_with_body (contents_in b) code)
    (rows_from (attribute_fields b) 16 count start) ≡ all_add_with_body (contents_in b)
unfolding contents_in
rows_add_all b code start count place size n p s e f =
    rw (n, p, s, e, f) (sym (all_mapped (placed_unit (contents_in b))
    (λ (u : PlacedUnit). unit_adds_with_body (contents_in b) u.code) (contents_in b).attributes))

-- the instructions from the first place on are all of them
pub adds_from_start : (b unit : List ℕ)
    → list_all (λ x. adds_with_body (contents_in b) x.instruction) (from_place unit 0)
    ≡ unit_adds_with_body (contents_in b) unit
unfolding instructions
adds_from_start b unit = refl
