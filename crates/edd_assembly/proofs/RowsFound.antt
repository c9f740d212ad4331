-- A look-up of an attribute finds the row of its code, or there is none.
use Rattle.std.proofs.Common.{◌≡◌, refl, sym, ap, ◌∙◌, ℕ, ◌+◌, Bool, true, false, List, [], ◌∷◌, length, map, Option, Some, None}
use Rattle.std.specs.Prelude.{◌==◌, ◌&&◌, ◌||◌, find, if◌then◌else◌}
use Rattle.std.specs.List.{AllByRecursion, list_any}
use Rattle.std.proofs.Math.Logic.{◌⊎◌, inl, inr}
use Rattle.std.proofs.lemmas.Bool.{false≢true, and_parts, and_left, and_right, or_left, or_right, ne_eqb, eq-eqb, eqb-true}
use Rattle.std.proofs.lemmas.Option.{same_Some}
use Rattle.edd_syntax.specs.declared.numbers.Attr.TheVariants as attr
use Rattle.edd_syntax.specs.declared.numbers.ItemNo.TheVariants as items_no
use Rattle.edd_syntax.specs.declared.numbers.AttrRef.{AttrRef}
use Rattle.edd_syntax.specs.declared.numbers.MethNo.{MethNo}
use Rattle.edd_syntax.specs.Numbers.{kind_number, kind_of, index_of, attr_number, same_attr, item_from_numbers}
use Rattle.edd_image.specs.Contents.{part, AttributeFields, fields_of_attribute}
use Rattle.edd_instructions.specs.Reading.{is_row_of}
use Rattle.edd_assembly.specs.Assembly.{Lowered, attribute_row_at, attribute_rows}
use Rattle.edd_assembly.specs.LoweredUnits.{plain_row}
use Rattle.edd_assembly.proofs.Cutting.{first_or, behind_first, code_of}
use Rattle.edd_syntax.proofs.KnownByNumber.{same_attrs, item_again}
use Rattle.edd_assembly.proofs.RowsAmong.{same_ref}
use Rattle.edd_assembly.proofs.RowsRise.{key}

-- ---- one row for an attribute

same_index : (r ref : AttrRef) → same_ref ref r ≡ true → r.item ≡ ref.item
same_index r ref h =
    let row = and_parts (is_row_of ref.item ref.attr (key r)) (r.sub == ref.sub) h in
    let by_kind = and_parts (kind_number (kind_of r.item) == kind_number (kind_of ref.item))
    (attr_number r.attr == attr_number ref.attr && index_of r.item == index_of ref.item)
    row.0 in
    let by_attr = and_parts (attr_number r.attr == attr_number ref.attr)
    (index_of r.item == index_of ref.item) by_kind.1 in
    same_Some r.item ref.item (sym (item_again r.item)
    ∙ ap (λ n. item_from_numbers n (index_of r.item))
    (eqb-true (kind_number (kind_of r.item)) (kind_number (kind_of ref.item)) by_kind.0)
    ∙ ap (item_from_numbers (kind_number (kind_of ref.item)))
    (eqb-true (index_of r.item) (index_of ref.item) by_attr.1)
    ∙ item_again ref.item)

same_attribute : (r ref : AttrRef) → same_ref ref r ≡ true → r.attr ≡ ref.attr
same_attribute r ref h =
    let row = and_parts (is_row_of ref.item ref.attr (key r)) (r.sub == ref.sub) h in
    let by_kind = and_parts (kind_number (kind_of r.item) == kind_number (kind_of ref.item))
    (attr_number r.attr == attr_number ref.attr && index_of r.item == index_of ref.item)
    row.0 in
    same_attrs r.attr ref.attr (and_parts (attr_number r.attr == attr_number ref.attr)
    (index_of r.item == index_of ref.item) by_kind.1).0

pub same_refs : (r ref : AttrRef) → same_ref ref r ≡ true → r ≡ ref
same_refs r ref h =
    ap (λ i. record { item = i; attr = r.attr; sub = r.sub }) (same_index r ref h)
    ∙ ap (λ a. record { item = ref.item; attr = a; sub = r.sub }) (same_attribute r ref h)
    ∙ ap (λ s. record { item = ref.item; attr = ref.attr; sub = s })
    (eqb-true r.sub ref.sub (and_parts (is_row_of ref.item ref.attr (key r)) (r.sub == ref.sub)
    h).1)

-- ---- the row that is found

-- a test of rows that looks at neither padding nor code
abbrev pub Test : Type 0
Test = (kind attribute item sub : ℕ) → Bool

abbrev pub passes : Test → AttributeFields → Bool
passes test r = test r.kind r.attribute r.item r.sub

-- the row of an attribute
abbrev pub of_ref : AttrRef → Test
of_ref ref kind attribute item sub =
    (kind == kind_number (kind_of ref.item)
    && (attribute == attr_number ref.attr && item == index_of ref.item)) && sub == ref.sub

-- the row of a method's body, whatever its number of slots is
abbrev pub of_body : MethNo → Test
of_body m kind attribute item sub = kind == 5 && (attribute == 21 && item == m.0)

-- a row, and the unit that it cuts from the whole code
pub record Found (test : Test) (whole : List ℕ) (P : Lowered → Type 0)
    (found : Option AttributeFields) : Type 0 where
  pub unit : Lowered
  pub row : AttributeFields
  pub is : found ≡ Some row
  pub same : passes test (key unit.row) ≡ true
  pub code : part row.span whole ≡ unit.code
  pub attribute : row.attribute ≡ attr_number unit.row.attr
  pub sub : row.sub ≡ unit.row.sub
  pub kept : P unit

abbrev pub first_else : Bool → AttributeFields → Option AttributeFields → Option AttributeFields
first_else b r others = if b then Some r else others

module _ (test : Test) (whole : List ℕ) (P : Lowered → Type 0) where
  abbrev looked_up : ℕ → List Lowered → Option AttributeFields
  looked_up s ls = find (passes test) (map fields_of_attribute (attribute_rows s ls))

  abbrev pub is_any : List Lowered → Bool
  is_any ls = list_any (λ l. passes test (key l.row)) ls

  pub found_or_none : (s : ℕ) (ls : List Lowered)
      → map (λ r. part r.span whole) (map fields_of_attribute (attribute_rows s ls))
      ≡ map code_of ls → AllByRecursion P ls
      → (Found test whole P (find (passes test) (map fields_of_attribute (attribute_rows s ls)))
      × (is_any ls ≡ true)) ⊎ ((find (passes test)
      (map fields_of_attribute (attribute_rows s ls)) ≡ None) × (is_any ls ≡ false))
  found_or_none s [] cuts all = inr (refl, refl)
  found_or_none s (l ∷ ls) cuts all = pick (passes test (key l.row)) refl
      (found_or_none (s + length l.code) ls (ap behind_first cuts) all.1)
    where
      pick : (b : Bool) → passes test (key l.row) ≡ b
          → (Found test whole P (looked_up (s + length l.code) ls) × (is_any ls ≡ true))
          ⊎ ((looked_up (s + length l.code) ls ≡ None) × (is_any ls ≡ false))
          → (Found test whole P (first_else b (fields_of_attribute (attribute_row_at s l))
          (looked_up (s + length l.code) ls)) × ((b || is_any ls) ≡ true))
          ⊎ ((first_else b (fields_of_attribute (attribute_row_at s l))
          (looked_up (s + length l.code) ls) ≡ None) × ((b || is_any ls) ≡ false))
      pick true is others =
          inl (
            record {
              unit = l;
              row = fields_of_attribute (attribute_row_at s l);
              is = refl;
              same = is;
              code = ap (first_or []) cuts;
              attribute = refl;
              sub = refl;
              kept = all.0;
            },
            refl,
          )
      pick false is others = others

-- ---- a row that is no body is among the rows of the description

module _ (ref : AttrRef) (no_body : same_attr ref.attr attr.Definition ≡ false) where
  body_is_other : (r : AttrRef) → same_attr r.attr attr.Definition ≡ true → same_ref ref r ≡ false
  body_is_other r is =
      and_left (is_row_of ref.item ref.attr (key r)) (r.sub == ref.sub)
      (and_right (kind_number (kind_of r.item) == kind_number (kind_of ref.item))
      (attr_number r.attr == attr_number ref.attr && index_of r.item == index_of ref.item)
      (and_left (attr_number r.attr == attr_number ref.attr) (index_of r.item == index_of ref.item)
      (ne_eqb (attr_number r.attr) (attr_number ref.attr)
      (λ e. false≢true (sym no_body ∙ eq-eqb (attr_number ref.attr) 21
      (sym e ∙ eqb-true (attr_number r.attr) 21 is))))))

  plain_alike : (r : AttrRef) (b : Bool) → same_attr r.attr attr.Definition ≡ b
      → same_ref ref r ≡ same_ref ref (if b then record r { sub = 0 } else r)
  plain_alike r true is = body_is_other r is ∙ sym (body_is_other (record r { sub = 0 }) is)
  plain_alike r false is = refl

  pub among_plain : (ls : List Lowered) → list_any (λ l. same_ref ref l.row) ls
      ≡ list_any (same_ref ref) (map plain_row ls)
  among_plain [] = refl
  among_plain (l ∷ ls) =
      ap (λ b. b || list_any (λ m. same_ref ref m.row) ls)
      (plain_alike l.row (same_attr l.row.attr attr.Definition) refl)
      ∙ ap (λ b. same_ref ref (plain_row l) || b) (among_plain ls)

-- ---- a body is among the rows, where it is at 0 in the description

module _ (m : MethNo) where
  abbrev pub body_ref : AttrRef
  body_ref = record { item = items_no.Method m; attr = attr.Definition; sub = 0 }

  body_alike : (r : AttrRef) (b : Bool) → same_ref body_ref (if b then record r { sub = 0 } else r)
      ≡ true → passes (of_body m) (key r) ≡ true
  body_alike r true h = (and_parts (passes (of_body m) (key r)) (0 == 0) h).0
  body_alike r false h = (and_parts (passes (of_body m) (key r)) (r.sub == 0) h).0

  pub body_among : (ls : List Lowered) → list_any (same_ref body_ref) (map plain_row ls) ≡ true
      → list_any (λ l. passes (of_body m) (key l.row)) ls ≡ true
  body_among [] h = h
  body_among (l ∷ ls) h = pick (same_ref body_ref (plain_row l)) refl h (body_among ls)
    where
      pick : (b : Bool) → same_ref body_ref (plain_row l) ≡ b
          → (b || list_any (same_ref body_ref) (map plain_row ls)) ≡ true
          → (list_any (same_ref body_ref) (map plain_row ls) ≡ true
          → list_any (λ k. passes (of_body m) (key k.row)) ls ≡ true)
          → (passes (of_body m) (key l.row) || list_any (λ k. passes (of_body m) (key k.row)) ls)
          ≡ true
      pick true is h others = or_left (passes (of_body m) (key l.row))
          (list_any (λ k. passes (of_body m) (key k.row)) ls)
          (body_alike l.row (same_attr l.row.attr attr.Definition) is)
      pick false is h others = or_right (passes (of_body m) (key l.row))
          (list_any (λ k. passes (of_body m) (key k.row)) ls) (others h)
