-- The rows of attributes keep their rules.
use Rattle.std.proofs.Common.{◌≡◌, refl, sym, ap, ◌∙◌, ℕ, ◌+◌, ◌≤◌, Bool, true, false, not, List, [], ◌∷◌, length, map, nat_le, nat_lt}
use Rattle.std.specs.Prelude.{◌==◌, ◌&&◌, ◌||◌, if◌then◌else◌}
use Rattle.std.specs.List.{AllByRecursion, list_all}
use Rattle.std.specs.Option.{option_map_or}
use Rattle.std.proofs.lemmas.Bool.{and_parts, and_from, and_left, and_right, or_right, not_from_true, le-leb, eqb-true}
use Rattle.edd_syntax.specs.declared.numbers.Attr.TheVariants as attr
use Rattle.edd_syntax.specs.declared.numbers.AttrRef.{AttrRef}
use Rattle.edd_syntax.specs.declared.reference.Target.{Target}
use Rattle.edd_syntax.specs.Item.{Item}
use Rattle.edd_syntax.specs.Numbers.{kind_number, kind_of, index_of, attr_number, attr_from_number, same_attr, has_attr}
use Rattle.edd_syntax.specs.Attributes.{is_of_transaction}
use Rattle.edd_syntax.specs.Rows.{rows}
use Rattle.edd_image.specs.declared.parts.Counts.{Counts}
use Rattle.edd_image.specs.Contents.{AttributeFields, fields_of_attribute}
use Rattle.edd_image.specs.Existing.{item_exists}
use Rattle.edd_instructions.specs.Validity.{has_attribute, is_attribute_row, rises, rise}
use Rattle.edd_assembly.specs.Assembly.{Lowered, attribute_row_at, attribute_rows}
use Rattle.edd_assembly.specs.LoweredUnits.{plain_row}
use Rattle.edd_syntax.proofs.KnownByNumber.{attr_again, item_again}
use Rattle.edd_assembly.proofs.RowsPlaced.{is_placed}
use Rattle.edd_assembly.proofs.RowsRise.{key, keys, rows_rise}

-- ---- each row

-- a body has a slot for each of at most 64 locals
abbrev pub HasFewSlots : Lowered → Type 0
HasFewSlots l = same_attr l.row.attr attr.Definition ≡ true → l.row.sub ≤ 64

module _ (counts : Counts) where
  has_it : (r : AttrRef) (b : Bool) → same_attr r.attr attr.Definition ≡ b → (b ≡ true → r.sub ≤ 64)
      → is_placed counts (if b then record r { sub = 0 } else r) ≡ true
      → has_attribute counts r.item r.attr r.sub ≡ true
  has_it r true is few placed =
      let parts = and_parts (item_exists counts r.item) (has_attr (kind_of r.item) r.attr
      && (is_of_transaction r.attr || 0 == 0)) placed in
      and_from (item_exists counts r.item) (has_attr (kind_of r.item) r.attr
      && (is_of_transaction r.attr
      || (if same_attr r.attr attr.Definition then nat_le r.sub 64 else r.sub == 0))) parts.0
      (and_from (has_attr (kind_of r.item) r.attr) (is_of_transaction r.attr
      || (if same_attr r.attr attr.Definition then nat_le r.sub 64 else r.sub == 0))
      (and_parts (has_attr (kind_of r.item) r.attr) (is_of_transaction r.attr || 0 == 0)
      parts.1).0
      (or_right (is_of_transaction r.attr) (if same_attr r.attr attr.Definition then nat_le r.sub 64
      else r.sub == 0)
      (ap (λ b. if b then nat_le r.sub 64 else r.sub == 0) is ∙ le-leb r.sub 64 (few refl))))
  has_it r false is few placed =
      ap (λ b. item_exists counts r.item
      && (has_attr (kind_of r.item) r.attr
      && (is_of_transaction r.attr || (if b then nat_le r.sub 64 else r.sub == 0)))) is ∙ placed

  row_sound : (s : ℕ) (l : Lowered) → is_placed counts (plain_row l) ≡ true → HasFewSlots l
      → is_attribute_row counts (fields_of_attribute (attribute_row_at s l)) ≡ true
  row_sound s l placed few =
      ap (λ o. option_map_or (λ i. option_map_or (λ a. has_attribute counts i a l.row.sub)
      (attr_from_number (attr_number l.row.attr)) false) o false && true)
      (item_again l.row.item)
      ∙ ap (λ o. option_map_or (λ a. has_attribute counts l.row.item a l.row.sub) o false && true)
      (attr_again l.row.attr)
      ∙ and_from (has_attribute counts l.row.item l.row.attr l.row.sub) true
      (has_it l.row (same_attr l.row.attr attr.Definition) refl few placed) refl

  pub rows_sound : (s : ℕ) (ls : List Lowered) → list_all (is_placed counts) (map plain_row ls)
      ≡ true → AllByRecursion HasFewSlots ls
      → list_all (is_attribute_row counts) (map fields_of_attribute (attribute_rows s ls)) ≡ true
  rows_sound s [] placed few = refl
  rows_sound s (l ∷ ls) placed few =
      let parts = and_parts (is_placed counts (plain_row l))
      (list_all (is_placed counts) (map plain_row ls)) placed in
      and_from (is_attribute_row counts (fields_of_attribute (attribute_row_at s l)))
      (list_all (is_attribute_row counts)
      (map fields_of_attribute (attribute_rows (s + length l.code) ls)))
      (row_sound s l parts.0 few.0) (rows_sound (s + length l.code) ls parts.1 few.1)

-- ---- rows rise as those of the description, since the slots of a body put nothing in order

abbrev row_fields : ℕ → Lowered → AttributeFields
row_fields s l = fields_of_attribute (attribute_row_at s l)

module _ (l m : Lowered) where
  -- whether one row comes before the other, where this is said of their positions
  abbrev by_last : Bool → Bool
  by_last b =
      nat_lt (kind_number (kind_of l.row.item)) (kind_number (kind_of m.row.item))
      || (kind_number (kind_of l.row.item) == kind_number (kind_of m.row.item) &&
      (nat_lt (attr_number l.row.attr) (attr_number m.row.attr)
      || (attr_number l.row.attr == attr_number m.row.attr &&
      (nat_lt (index_of l.row.item) (index_of m.row.item)
      || (index_of l.row.item == index_of m.row.item && b)))))

  no_order : same_attr l.row.attr attr.Definition ≡ true → (s t : ℕ)
      → (nat_lt s t && not (attr_number l.row.attr == 21)) ≡ false
  no_order is s t = and_right (nat_lt s t) (not (attr_number l.row.attr == 21))
      (not_from_true (attr_number l.row.attr == 21) is)

  other_attribute : same_attr l.row.attr attr.Definition ≡ false
      → same_attr m.row.attr attr.Definition ≡ true
      → (attr_number l.row.attr == attr_number m.row.attr) ≡ false
  other_attribute is isnt = ap (λ n. attr_number l.row.attr == n)
      (eqb-true (attr_number m.row.attr) 21 isnt) ∙ is

  by_attributes : (x y : Bool) → (attr_number l.row.attr == attr_number m.row.attr) ≡ false
      → by_last x ≡ by_last y
  by_attributes x y other =
      ap (λ b. nat_lt (kind_number (kind_of l.row.item)) (kind_number (kind_of m.row.item))
      || (kind_number (kind_of l.row.item) == kind_number (kind_of m.row.item) &&
      (nat_lt (attr_number l.row.attr) (attr_number m.row.attr) || b)))
      (and_left (attr_number l.row.attr == attr_number m.row.attr)
      (nat_lt (index_of l.row.item) (index_of m.row.item)
      || (index_of l.row.item == index_of m.row.item && x)) other
      ∙ sym (and_left (attr_number l.row.attr == attr_number m.row.attr)
      (nat_lt (index_of l.row.item) (index_of m.row.item)
      || (index_of l.row.item == index_of m.row.item && y)) other))

  same_order : (s t : ℕ) (b c : Bool) → same_attr l.row.attr attr.Definition ≡ b
      → same_attr m.row.attr attr.Definition ≡ c → rises (row_fields s l) (row_fields t m)
      ≡ rises (key (if b then record l.row { sub = 0 } else l.row))
      (key (if c then record m.row { sub = 0 } else m.row))
  same_order s t true true is isnt =
      ap by_last (no_order is l.row.sub m.row.sub ∙ sym (no_order is 0 0))
  same_order s t true false is isnt =
      ap by_last (no_order is l.row.sub m.row.sub ∙ sym (no_order is 0 m.row.sub))
  same_order s t false true is isnt =
      by_attributes (nat_lt l.row.sub m.row.sub && not (attr_number l.row.attr == 21))
      (nat_lt l.row.sub 0 && not (attr_number l.row.attr == 21)) (other_attribute is isnt)
  same_order s t false false is isnt = refl

rise_alike : (s : ℕ) (ls : List Lowered) → rise (map fields_of_attribute (attribute_rows s ls))
    ≡ rise (map key (map plain_row ls))
rise_alike s [] = refl
rise_alike s (l ∷ []) = refl
rise_alike s (l ∷ m ∷ rest) =
    ap (λ b. b && rise (map fields_of_attribute (attribute_rows (s + length l.code) (m ∷ rest))))
    (same_order l m s (s + length l.code) (same_attr l.row.attr attr.Definition)
    (same_attr m.row.attr attr.Definition) refl refl)
    ∙ ap (λ b. rises (key (plain_row l)) (key (plain_row m)) && b)
    (rise_alike (s + length l.code) (m ∷ rest))

same_key : (r : AttrRef) (b : Bool) → key r ≡ key (if b then record r { sub = r.sub } else r)
same_key r true = refl
same_key r false = refl

same_keys : (rs : List AttrRef) → map key rs ≡ keys (λ r. r.sub) rs
same_keys [] = refl
same_keys (r ∷ rs) = ap (λ k. k ∷ map key rs) (same_key r (same_attr r.attr attr.Definition))
    ∙ ap (λ ks. key (if same_attr r.attr attr.Definition then record r { sub = r.sub } else r) ∷ ks)
    (same_keys rs)

pub attributes_rise : (items : List (Item Target)) (ls : List Lowered)
    → map plain_row ls ≡ rows items → rise (map fields_of_attribute (attribute_rows 0 ls)) ≡ true
attributes_rise items ls in_order = rise_alike 0 ls ∙ ap (λ rs. rise (map key rs)) in_order
    ∙ ap rise (same_keys (rows items)) ∙ rows_rise (λ r. r.sub) items
