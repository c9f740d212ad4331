-- A bit that is set stays set, and an attribute without its bit has no row.
use Rattle.std.proofs.Common.{◌≡◌, ℕ, zero, suc, ◌+◌, ◌*◌, ◌%◌, ◌^◌, ◌<◌, Bool, true, false, ◌&&◌, ◌==◌, List, length, None, refl, sym, ap, ◌∙◌, arith, inl, inr, subst, true≢false}
use Rattle.std.specs.Prelude.{find, bit_or}
use Rattle.std.specs.Int.{w32}
use Rattle.std.proofs.lemmas.Bool.{and_parts, cases_eq, eq-eqb, eqb-true}
use Rattle.std.proofs.lemmas.Nat.Bits.{bit_at_set_same, bit_at_set_other}
use Rattle.edd_syntax.specs.declared.numbers.Attr.{Attr}
use Rattle.edd_syntax.specs.declared.numbers.Kind.{Kind}
use Rattle.edd_syntax.specs.declared.numbers.Kind.TheVariants as kind
use Rattle.edd_syntax.specs.Numbers.{attr_number, index_of, item_number, kind_number, kind_of}
use Rattle.edd_image.specs.Contents.{AttributeFields, attribute_fields, contents_in, rows_from}
use Rattle.edd_image.specs.Fields.{attribute_count, attribute_rows_start}
use Rattle.edd_instructions.specs.Reading.{is_row_of}
use Rattle.edd_loader.proofs.Halving.{fails}
use Rattle.edd_display.specs.Written.{AreAllWritten, IsNoted, bits_of, has_bit}

-- ---- bits

pub set_same : (bits n : ℕ) → has_bit (bit_or bits (1 * 2 ^ (n % 32) % 2 ^ 32)) n ≡ true
set_same bits n = eq-eqb _ 1 (bit_at_set_same w32 bits (n % 32) (omega arith))

pub set_kept : (bits n other : ℕ) → has_bit bits other ≡ true
    → has_bit (bit_or bits (1 * 2 ^ (n % 32) % 2 ^ 32)) other ≡ true
set_kept bits n other h = elim (cases_eq (other % 32) (n % 32)) [
  | inl same ↦ eq-eqb _ 1 (rw same (bit_at_set_same w32 bits (n % 32) (omega arith)))
  | inr apart ↦ eq-eqb _ 1 (bit_at_set_other w32 bits (n % 32) (omega arith) (other % 32) apart
      ∙ eqb-true _ 1 h)
]

-- ---- rows

none_of_rows : {A : Type 0} (f : ℕ → A) (p : A → Bool) (count start : ℕ)
    → ((i : ℕ) → i < count → p (f (start + 16 * i)) ≡ false)
    → find p (rows_from f 16 count start) ≡ None
unfolding rows_from
none_of_rows f p zero start h = refl
none_of_rows f p (suc n) start h =
    let first : start ≡ start + 16 * 0 = omega arith in
    let here : p (f start) ≡ false = ap (λ k. p (f k)) first ∙ h 0 (omega arith) in
    let later : (i : ℕ) → i < n → p (f (start + 16 + 16 * i)) ≡ false = (λ i inside.
    let next : start + 16 + 16 * i ≡ start + 16 * suc i = omega arith in
    ap (λ k. p (f k)) next ∙ h (suc i) (omega (arith, inside))) in
    rw here (none_of_rows f p n (start + 16) later)

same_index : (k : Kind) (n : ℕ) → index_of (item_number k n) ≡ n
same_index kind.Variable n = refl
same_index _ n = refl

same_kind : (k : Kind) (n : ℕ) → kind_of (item_number k n) ≡ k
same_kind kind.Variable n = refl
same_kind _ n = refl

-- a row of an attribute has set its bit
row_sets : (k : Kind) (all : List ℕ) (n : ℕ) (a : Attr) (r : AttributeFields) → n < length all
    → IsNoted (kind_number k) all r → is_row_of (item_number k n) a r ≡ true
    → has_bit (bits_of all n) (attr_number a) ≡ true
row_sets k all n a r inside noted is =
    let p = and_parts (r.kind == kind_number (kind_of (item_number k n))) _ is in
    let q = and_parts (r.attribute == attr_number a) (r.item == index_of (item_number k n)) p.1 in
    let of_kind : r.kind ≡ kind_number k = eqb-true _ _ p.0 ∙ ap kind_number (same_kind k n) in
    let of_attribute : r.attribute ≡ attr_number a = eqb-true _ _ q.0 in
    let of_item : r.item ≡ n = eqb-true _ _ q.1 ∙ same_index k n in
    let set : has_bit (bits_of all r.item) r.attribute ≡ true =
    noted of_kind (omega (arith, of_item, inside)) in
    subst (λ (m : ℕ). has_bit (bits_of all n) m ≡ true) of_attribute
    (subst (λ (m : ℕ). has_bit (bits_of all m) r.attribute ≡ true) of_item set)

pub all_written : (b : List ℕ) (k : Kind) (all : List ℕ) (count start : ℕ)
    → count ≡ attribute_count b → start ≡ attribute_rows_start b
    → ((i : ℕ) → i < count → IsNoted (kind_number k) all (attribute_fields b (start + 16 * i)))
    → AreAllWritten (contents_in b) k all
unfolding contents_in
all_written b k all count start e f noted n inside a sub none =
    let absent = none_of_rows (attribute_fields b)
    (λ r. is_row_of (item_number k n) a r && r.sub == sub) count start (λ i lt.
    fails (λ r. is_row_of (item_number k n) a r && r.sub == sub)
    (attribute_fields b (start + 16 * i)) (λ passes.
    let parts = and_parts (is_row_of (item_number k n) a (attribute_fields b (start + 16 * i)))
    ((attribute_fields b (start + 16 * i)).sub == sub) passes in
    true≢false (sym (row_sets k all n a (attribute_fields b (start + 16 * i)) inside (noted i lt) parts.0) ∙ none))) in
    rw (e, f) at absent
