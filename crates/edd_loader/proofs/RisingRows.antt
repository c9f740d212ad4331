-- The rows of attributes rise by rank, and what is found among them.
use Rattle.std.proofs.Common.{◌≡◌, ℕ, zero, suc, ◌+◌, ◌*◌, ◌<◌, ◌≤◌, Bool, true, false, ◌&&◌, nat_eq, nat_lt, List, [], ◌∷◌, length, drop, Option, Some, None, refl, sym, ap, subst, ◌∙◌, arith, inl, inr}
use Rattle.std.specs.Prelude.{find}
use Rattle.std.specs.Int.{w16}
use Rattle.std.specs.List.{AllByRecursion, list_all, slice_get}
use Rattle.std.proofs.lemmas.Bool.{and_parts, or_cases, cases_eq, cases_lt, ltb-true, eqb-true, eq-eqb, ne_eqb, and_left, and_right}
use Rattle.edd_syntax.specs.declared.numbers.AttrRef.{AttrRef}
use Rattle.edd_syntax.specs.declared.numbers.MethNo.{MethNo}
use Rattle.edd_syntax.specs.Numbers.{kind_number, kind_of, index_of, attr_number}
use Rattle.edd_image.specs.Contents.{AttributeFields, rows_from, attribute_fields, contents_in}
use Rattle.edd_image.specs.Fields.{number_at, attribute_count, attribute_rows_start, attribute_sub}
use Rattle.edd_instructions.specs.Reading.{is_row_of, row_of, body_of}
use Rattle.edd_instructions.specs.Spelling.{AreBytes}
use Rattle.edd_instructions.specs.Validity.{are_rows, rises, rise, is_attribute_row}
use Rattle.edd_instructions.proofs.Readings.{drop_bytes}
use Rattle.edd_loader.specs.Ranks.{rank, rank_of, row_at, is_row}
use Rattle.edd_loader.specs.Sections.{AreSectionsOf}
use Rattle.edd_loader.proofs.ElementLaws.{taken_below}
use Rattle.edd_loader.proofs.Halving.{holds_at, found_at, none_found, fails}
use Rattle.edd_loader.proofs.LookupLaws.{row_get, row_past}
use Rattle.edd_loader.proofs.RowRules.{row_rules}
use Rattle.edd_loader.proofs.Spaces.{rooms}

-- ---- ranks

pub record Bounded (r : AttributeFields) : Type 0 where
  pub attribute : r.attribute < 256
  pub item : r.item < 65536
  pub sub : r.sub < 65536

rank_rises : (r next : AttributeFields) → Bounded r → rises r next ≡ true → rank_of r < rank_of next
rank_rises r next small h = elim (or_cases (nat_lt r.kind next.kind) _ h) [
  | inl kind ↦ omega (arith, ltb-true r.kind next.kind kind)
  | inr same ↦
      let k = and_parts (nat_eq r.kind next.kind) _ same in
      elim (or_cases (nat_lt r.attribute next.attribute) _ k.1) [
        | inl attribute ↦ omega (
          arith,
          eqb-true r.kind next.kind k.0,
          ltb-true r.attribute next.attribute attribute,
        )
        | inr same_attribute ↦
            let a = and_parts (nat_eq r.attribute next.attribute) _ same_attribute in
            elim (or_cases (nat_lt r.item next.item) _ a.1) [
              | inl item ↦ omega (
                arith,
                eqb-true r.kind next.kind k.0,
                eqb-true r.attribute next.attribute a.0,
                ltb-true r.item next.item item,
              )
              | inr same_item ↦
                  let i = and_parts (nat_eq r.item next.item) _ same_item in
                  let s = and_parts (nat_lt r.sub next.sub) _ i.1 in
                  omega (
                    arith,
                    eqb-true r.kind next.kind k.0,
                    eqb-true r.attribute next.attribute
                        a.0,
                    eqb-true r.item next.item i.0,
                    ltb-true r.sub next.sub s.0,
                  )
            ]
      ]
]

-- later rows have greater ranks
pub ranks_rise : (rows : List AttributeFields) → AllByRecursion Bounded rows → rise rows ≡ true
    → (i j : ℕ) (x y : AttributeFields) → i < j → slice_get rows i ≡ Some x
    → slice_get rows j ≡ Some y → rank_of x < rank_of y
ranks_rise [] small h i j x y lt e f = absurd cc
ranks_rise (r ∷ []) small h i zero x y lt e f = absurd (omega arith)
ranks_rise (r ∷ []) small h i (suc j) x y lt e f = absurd cc
ranks_rise (r ∷ next ∷ rest) small h i zero x y lt e f = absurd (omega arith)
ranks_rise (r ∷ next ∷ rest) small h zero (suc zero) x y lt e f =
    let same : r ≡ x = cc in
    let other : next ≡ y = cc in
    let first = rank_rises r next small.0 (and_parts (rises r next) (rise (next ∷ rest)) h).0 in
    subst (λ (a : AttributeFields). rank_of a < rank_of y) same
    (subst (λ (a : AttributeFields). rank_of r < rank_of a) other first)
ranks_rise (r ∷ next ∷ rest) small h zero (suc (suc j)) x y lt e f =
    let same : r ≡ x = cc in
    let first = rank_rises r next small.0 (and_parts (rises r next) (rise (next ∷ rest)) h).0 in
    let others = ranks_rise (next ∷ rest) small.1
    (and_parts (rises r next) (rise (next ∷ rest)) h).1 zero (suc j) next y (omega arith) refl
    f in
    subst (λ (a : AttributeFields). rank_of a < rank_of y) same (omega (arith, first, others))
ranks_rise (r ∷ next ∷ rest) small h (suc i) (suc j) x y lt e f =
    ranks_rise (next ∷ rest) small.1 (and_parts (rises r next) (rise (next ∷ rest)) h).1 i j x y
    (omega arith) e f

-- ---- the rows of bytes

number_below : (b : List ℕ) (place : ℕ) → AreBytes b → number_at w16 b place < 65536
unfolding number_at
number_below b place are =
    let taken = taken_below 2 (drop place b) (drop_bytes place b are) in
    omega (arith, taken 0, taken 1)

rows_bounded : (b : List ℕ) (n place : ℕ) → AreBytes b
    → AllByRecursion Bounded (rows_from (attribute_fields b) 16 n place)
unfolding rows_from
rows_bounded b zero place are = tt
rows_bounded b (suc n) place are = (
  record {
    attribute = are.below (place + 1);
    item = number_below b (place + 2) are;
    sub = number_below b (place + 4) are;
  },
  rows_bounded b n (place + 16) are,
)

bounded_rows : (b : List ℕ) → AreBytes b → AllByRecursion Bounded (contents_in b).attributes
unfolding contents_in
bounded_rows b are = rows_bounded b (attribute_count b) (attribute_rows_start b) are

rows_rise : (b : List ℕ) → are_rows (contents_in b) ≡ true → rise (contents_in b).attributes ≡ true
rows_rise b rows =
    let c = contents_in b in
    (and_parts (rise c.attributes) _ (and_parts (list_all (is_attribute_row c.counts) c.attributes)
    _ (row_rules c rows).attributes).1).0

pub row_stands : (b : List ℕ) (i : ℕ) → i < attribute_count b
    → slice_get (contents_in b).attributes i
    ≡ Some (attribute_fields b (attribute_rows_start b + 16 * i))
unfolding contents_in
row_stands b i lt = row_get (attribute_fields b) 16 (attribute_count b) (attribute_rows_start b) i
    lt

row_behind : (b : List ℕ) (i : ℕ) → attribute_count b ≤ i → slice_get (contents_in b).attributes i
    ≡ None
unfolding contents_in
row_behind b i le = row_past (attribute_fields b) 16 (attribute_count b) (attribute_rows_start b) i
    le

-- the ranks of the rows of an image rise
pub image_rises : (b : List ℕ) → are_rows (contents_in b) ≡ true → AreBytes b → (i j : ℕ) → i < j
    → j < attribute_count b → rank_of (attribute_fields b (attribute_rows_start b + 16 * i))
    < rank_of (attribute_fields b (attribute_rows_start b + 16 * j))
unfolding contents_in
image_rises b rows are i j lt inside =
    ranks_rise (contents_in b).attributes
    (rows_bounded b (attribute_count b) (attribute_rows_start b) are) (rows_rise b rows) i j _
    _ lt (row_stands b i (omega arith)) (row_stands b j inside)

-- ---- the search

-- the row at which a search for a rank ended, where the rows that pass have no lower one, and a row
-- between the rank and one that passes passes too
pub record Found (b : List ℕ) (p : AttributeFields → Bool) (key first : ℕ) : Type 0 where
  pub rows : are_rows (contents_in b) ≡ true
  pub are : AreBytes b
  pub below : (i : ℕ) → i < first → rank_of (attribute_fields b (attribute_rows_start b + 16 * i))
      < key
  pub above : (i : ℕ) → first ≤ i → i < attribute_count b
      → key ≤ rank_of (attribute_fields b (attribute_rows_start b + 16 * i))
  pub least : (r : AttributeFields) → p r ≡ true → key ≤ rank_of r
  pub between : (x y : AttributeFields) → Bounded x → Bounded y → key ≤ rank_of x
      → rank_of x < rank_of y → p y ≡ true → p x ≡ true

-- a row is one of those that the bytes have
row_is : (b : List ℕ) (i : ℕ) (y : AttributeFields) → slice_get (contents_in b).attributes i
    ≡ Some y → (i < attribute_count b) × (attribute_fields b (attribute_rows_start b + 16 * i) ≡ y)
row_is b i y e = elim (cases_lt i (attribute_count b)) [
  | inl inside ↦
      let same' : Some (attribute_fields b (attribute_rows_start b + 16 * i)) ≡ Some y =
      sym (row_stands b i inside) ∙ e in
      let same : attribute_fields b (attribute_rows_start b + 16 * i) ≡ y = cc in
      (inside, same)
  | inr behind ↦
      let nothing : ◌≡◌ {A = Option AttributeFields} None (Some y) = sym (row_behind b i behind)
      ∙ e in
      absurd cc
]

module _ (b : List ℕ) (p : AttributeFields → Bool) (key first : ℕ) (f : Found b p key first) where
  below_fails : (i : ℕ) (y : AttributeFields) → i < first → slice_get (contents_in b).attributes i
      ≡ Some y → p y ≡ false
  below_fails i y lt e =
      let same = (row_is b i y e).1 in
      fails p y (λ passes. omega (
        arith,
        f.least y passes,
        subst (λ (r : AttributeFields). rank_of r < key) same (f.below i lt),
      ))

  pub none_left : attribute_count b ≤ first → find p (contents_in b).attributes ≡ None
  none_left le = none_found p (contents_in b).attributes
      (λ i y e. below_fails i y (omega (arith, (row_is b i y e).0, le)) e)

  pub first_found : first < attribute_count b
      → p (attribute_fields b (attribute_rows_start b + 16 * first)) ≡ true
      → find p (contents_in b).attributes
      ≡ Some (attribute_fields b (attribute_rows_start b + 16 * first))
  first_found inside passes = found_at p (contents_in b).attributes first _
      (row_stands b first inside) passes below_fails

  pub none_there : first < attribute_count b
      → p (attribute_fields b (attribute_rows_start b + 16 * first)) ≡ false
      → find p (contents_in b).attributes ≡ None
  none_there inside failed = none_found p (contents_in b).attributes (λ i y e.
      let here = row_is b i y e in
      elim (cases_lt i first) [
        | inl before ↦ below_fails i y before e
        | inr behind ↦ elim (cases_eq first i) [
          | inl same ↦ subst (λ (r : AttributeFields). p r ≡ false)
              (subst (λ (k : ℕ). attribute_fields b (attribute_rows_start b + 16 * k) ≡ y)
              (sym same) here.1) failed
          | inr other ↦ fails p y (λ passes.
              let bounded = holds_at Bounded (contents_in b).attributes first _
              (bounded_rows b f.are) (row_stands b first inside) in
              let rises_on = subst (λ (r : AttributeFields). rank_of
              (attribute_fields b (attribute_rows_start b + 16 * first)) < rank_of r) here.1
              (image_rises b f.rows f.are first i (omega (arith, other, behind)) here.0) in
              let bounded_too = holds_at Bounded (contents_in b).attributes i y
              (bounded_rows b f.are) e in
              let passes_first = f.between
              (attribute_fields b (attribute_rows_start b + 16 * first)) y bounded bounded_too
              (f.above first (omega arith) inside) rises_on passes in
              let contradiction : false ≡ true = sym failed ∙ passes_first in
              cc)
        ]
      ])

-- ---- the rows of an attribute and of a body

-- a row of these numbers has their rank, with its own sub
pub row_rank : (kind attribute item : ℕ) (r : AttributeFields) → is_row kind attribute item r ≡ true
    → rank_of r ≡ rank kind attribute item r.sub
row_rank kind attribute item r h =
    let k = and_parts (nat_eq r.kind kind) _ h in
    let a = and_parts (nat_eq r.attribute attribute) _ k.1 in
    omega (
      arith,
      eqb-true r.kind kind k.0,
      eqb-true r.attribute attribute a.0,
      eqb-true r.item item a.1,
    )

pub with_sub_rank : (kind attribute item sub : ℕ) (r : AttributeFields)
    → (is_row kind attribute item r && nat_eq r.sub sub) ≡ true
    → rank_of r ≡ rank kind attribute item sub
with_sub_rank kind attribute item sub r h =
    let parts = and_parts (is_row kind attribute item r) (nat_eq r.sub sub) h in
    row_rank kind attribute item r parts.0 ∙ ap (rank kind attribute item)
    (eqb-true r.sub sub parts.1)

-- a row between the least rank of these numbers and a row of them is one of them
pub row_between : (kind attribute item : ℕ) (x y : AttributeFields) → attribute < 256 → item < 65536
    → Bounded x → Bounded y → rank kind attribute item 0 ≤ rank_of x → rank_of x < rank_of y
    → is_row kind attribute item y ≡ true → is_row kind attribute item x ≡ true
row_between kind attribute item x y small_attribute small_item small small_too le lt h =
    let top = row_rank kind attribute item y h in
    let joined : (x.kind * 256 + x.attribute) * 65536 + x.item ≡ (kind * 256 + attribute) * 65536
    + item = omega (arith, small.sub, le, lt, top, small_too.sub) in
    let pair : x.kind * 256 + x.attribute ≡ kind * 256 + attribute =
    omega (arith, small.item, small_item, joined) in
    let one : x.kind ≡ kind = omega (arith, small.attribute, small_attribute, pair) in
    let two : x.attribute ≡ attribute = omega (arith, one, pair) in
    let three : x.item ≡ item = omega (arith, pair, joined) in
    rw (eq-eqb x.kind kind one, eq-eqb x.attribute attribute two, eq-eqb x.item item three) refl

-- ---- what the search for the row of an attribute results in

abbrev of_attribute : AttrRef → AttributeFields → Bool
of_attribute ref r = is_row_of ref.item ref.attr r && nat_eq r.sub ref.sub

attribute_found : (b : List ℕ) (ref : AttrRef) (key first : ℕ) → are_rows (contents_in b) ≡ true
    → AreBytes b
    → key ≡ rank (kind_number (kind_of ref.item)) (attr_number ref.attr) (index_of ref.item) ref.sub
    → ((i : ℕ) → i < first → rank_of (row_at b i) < key)
    → ((i : ℕ) → first ≤ i → i < attribute_count b → key ≤ rank_of (row_at b i))
    → Found b (of_attribute ref) key first
attribute_found b ref key first rows are is below above =
    let kind = kind_number (kind_of ref.item) in
    let attribute = attr_number ref.attr in
    let item = index_of ref.item in
    record {
      rows = rows;
      are = are;
      below = below;
      above = above;
      least = λ r h. omega (arith, is, with_sub_rank kind attribute item ref.sub r h);
      between = λ x y small small_too le lt h. absurd
          (omega (arith, is, le, lt, with_sub_rank kind attribute item ref.sub y h));
    }

-- the search, as the code has it
pub record AttributeSearch (b : List ℕ) (ref : AttrRef) (first : ℕ) : Type 0 where
  pub rows : are_rows (contents_in b) ≡ true
  pub are : AreBytes b
  pub kind : ℕ
  pub kind_is : kind ≡ kind_number (kind_of ref.item)
  pub attribute : ℕ
  pub attribute_is : attribute ≡ attr_number ref.attr
  pub item : ℕ
  pub item_is : item ≡ index_of ref.item
  pub key : ℕ
  pub key_is : key ≡ rank kind attribute item ref.sub
  pub end : first ≤ attribute_count b
  pub below : (i : ℕ) → i < first → rank_of (row_at b i) < key
  pub above : (i : ℕ) → first ≤ i → i < attribute_count b → key ≤ rank_of (row_at b i)

module _ (b : List ℕ) (ref : AttrRef) (first : ℕ) (s : AttributeSearch b ref first) where
  sought : Found b (of_attribute ref) s.key first
  sought = attribute_found b ref s.key first s.rows s.are
      (s.key_is ∙ rw (s.kind_is, s.attribute_is, s.item_is) refl) s.below s.above

  is_test : (test : Bool) (start : ℕ)
      → test ≡ is_row s.kind s.attribute s.item (attribute_fields b (start + 16 * first))
      → start ≡ attribute_rows_start b → is_row_of ref.item ref.attr (row_at b first) ≡ test
  is_test test start e at = sym (e ∙ rw (s.kind_is, s.attribute_is, s.item_is, at) refl)

  pub attribute_past : first ≡ attribute_count b → row_of (contents_in b) ref ≡ None
  attribute_past e = none_left b (of_attribute ref) s.key first sought (omega (arith, e))

  pub attribute_other : (test : Bool) (start : ℕ) → (first ≡ attribute_count b → ⊥)
      → test ≡ is_row s.kind s.attribute s.item (attribute_fields b (start + 16 * first))
      → start ≡ attribute_rows_start b → test ≡ false → row_of (contents_in b) ref ≡ None
  attribute_other test start inside e at out =
      none_there b (of_attribute ref) s.key first sought (omega (arith, inside, s.end))
      (and_left (is_row_of ref.item ref.attr (row_at b first)) _ (is_test test start e at
      ∙ out))

  pub attribute_other_sub : (start sub : ℕ) → (first ≡ attribute_count b → ⊥)
      → start ≡ attribute_rows_start b → sub ≡ attribute_sub b (start + 16 * first)
      → (sub ≡ ref.sub → ⊥) → row_of (contents_in b) ref ≡ None
  attribute_other_sub start sub inside at is other =
      let differs : nat_eq (row_at b first).sub ref.sub ≡ false =
      ne_eqb (row_at b first).sub ref.sub
      (λ e. other (is ∙ ap (λ (k : ℕ). attribute_sub b (k + 16 * first)) at ∙ e)) in
      none_there b (of_attribute ref) s.key first sought (omega (arith, inside, s.end))
      (and_right (is_row_of ref.item ref.attr (row_at b first)) _ differs)

  pub attribute_there : (test : Bool) (start sub : ℕ) → (first ≡ attribute_count b → ⊥)
      → test ≡ is_row s.kind s.attribute s.item (attribute_fields b (start + 16 * first))
      → start ≡ attribute_rows_start b → test ≡ true
      → sub ≡ attribute_sub b (start + 16 * first) → sub ≡ ref.sub
      → Some (attribute_fields b (start + 16 * first)) ≡ row_of (contents_in b) ref
  attribute_there test start sub inside e at in_kind is same =
      let equal : nat_eq (row_at b first).sub ref.sub ≡ true = eq-eqb (row_at b first).sub ref.sub
      (sym (ap (λ (k : ℕ). attribute_sub b (k + 16 * first)) at) ∙ sym is ∙ same) in
      let passes : of_attribute ref (row_at b first) ≡ true =
      rw (is_test test start e at ∙ in_kind, equal) refl in
      ap (λ (k : ℕ). Some (attribute_fields b (k + 16 * first))) at
      ∙ sym (first_found b (of_attribute ref) s.key first sought (omega (arith, inside, s.end))
      passes)

-- ---- what the search for the row of a body results in, whatever its slots

pub record BodySearch (b : List ℕ) (m : MethNo) (first : ℕ) : Type 0 where
  pub rows : are_rows (contents_in b) ≡ true
  pub are : AreBytes b
  pub small : m.0 < 65536
  pub key : ℕ
  pub key_is : key ≡ rank 5 21 m.0 0
  pub end : first ≤ attribute_count b
  pub below : (i : ℕ) → i < first → rank_of (row_at b i) < key
  pub above : (i : ℕ) → first ≤ i → i < attribute_count b → key ≤ rank_of (row_at b i)

module _ (b : List ℕ) (m : MethNo) (first : ℕ) (s : BodySearch b m first) where
  body_sought : Found b (is_row 5 21 m.0) s.key first
  body_sought = record {
    rows = s.rows;
    are = s.are;
    below = s.below;
    above = s.above;
    least = λ r h. omega (arith, s.key_is, row_rank 5 21 m.0 r h);
    between = λ x y small small_too le lt h. row_between 5 21 m.0 x y (omega arith) s.small small
        small_too (omega (arith, s.key_is, le)) lt h;
  }

  pub body_past : first ≡ attribute_count b → body_of (contents_in b) m ≡ None
  body_past e = none_left b (is_row 5 21 m.0) s.key first body_sought (omega (arith, e))

  pub body_other : (test : Bool) (start : ℕ) → (first ≡ attribute_count b → ⊥)
      → test ≡ is_row 5 21 m.0 (attribute_fields b (start + 16 * first))
      → start ≡ attribute_rows_start b → test ≡ false → body_of (contents_in b) m ≡ None
  body_other test start inside e at out =
      let failed : is_row 5 21 m.0 (row_at b first) ≡ false = sym (e ∙ rw at refl) ∙ out in
      none_there b (is_row 5 21 m.0) s.key first body_sought (omega (arith, inside, s.end)) failed

  pub body_there : (test : Bool) (start : ℕ) → (first ≡ attribute_count b → ⊥)
      → test ≡ is_row 5 21 m.0 (attribute_fields b (start + 16 * first))
      → start ≡ attribute_rows_start b → test ≡ true
      → Some (attribute_fields b (start + 16 * first)) ≡ body_of (contents_in b) m
  body_there test start inside e at in_kind =
      let passes : is_row 5 21 m.0 (row_at b first) ≡ true = sym (e ∙ rw at refl) ∙ in_kind in
      ap (λ (k : ℕ). Some (attribute_fields b (k + 16 * first))) at
      ∙ sym (first_found b (is_row 5 21 m.0) s.key first body_sought
      (omega (arith, inside, s.end)) passes)

-- a row of the bytes ends inside them
pub row_inside : (b : List ℕ) (row start first : ℕ) → AreSectionsOf b → start
    ≡ attribute_rows_start b
    → first ≤ attribute_count b → (first ≡ attribute_count b → ⊥) → row ≡ start + 16 * first
    → row + 16 ≤ length b
row_inside b row start first sections s le other r =
    omega (arith, s, le, other, r, (rooms b sections).attributes)
