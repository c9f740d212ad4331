-- The unit of the body of a method.
use Rattle.std.proofs.Common.{◌≡◌, ℕ, ◌≤◌, Bool, true, false, cond, nat_eq, ℤ, List, Option, Some, None, refl, sym, ap, subst, ◌∙◌, arith}
use Rattle.std.specs.Prelude.{option_map}
use Rattle.std.specs.List.{list_all, slice_get}
use Rattle.std.specs.Option.{option_map_or}
use Rattle.std.proofs.lemmas.Bool.{and_parts, eqb-true, leb-true}
use Rattle.edd_syntax.specs.declared.numbers.Attr.{Attr}
use Rattle.edd_syntax.specs.declared.numbers.Attr.TheVariants as attr
use Rattle.edd_syntax.specs.declared.numbers.ItemNo.{ItemNo}
use Rattle.edd_syntax.specs.declared.numbers.ItemNo.TheVariants as items
use Rattle.edd_syntax.specs.declared.numbers.MethNo.{MethNo}
use Rattle.edd_syntax.specs.Numbers.{kind_of, attr_from_number, has_attr, item_from_numbers}
use Rattle.edd_image.specs.declared.parts.Counts.{Counts}
use Rattle.edd_instructions.specs.declared.rules.Rule.TheVariants as rule
use Rattle.edd_instructions.specs.declared.unit.Sort.TheVariants.{Method}
use Rattle.edd_instructions.specs.AbortMethods.{start_at}
use Rattle.edd_image.specs.Contents.{AttributeFields, contents_in}
use Rattle.edd_image.specs.Existing.{item_exists}
use Rattle.edd_instructions.specs.Reading.{body_of, is_row_of, opening_of}
use Rattle.edd_instructions.specs.Steps.{opening}
use Rattle.edd_instructions.specs.Validity.{IsValid, has_attribute, is_attribute_row, is_body, sort_of, slots_of, sub_fits}
use Rattle.edd_loader.proofs.LookupLaws.{all_at}
use Rattle.edd_loader.proofs.RowRules.{row_rules}
use Rattle.edd_machine.specs.declared.code_unit.CodeUnit.{CodeUnit}
use Rattle.edd_machine.specs.Running.{unit_at, running_unit, start_of, IsUnitOf}
use Rattle.edd_machine.proofs.ImageUnits.{unit_code}
use Rattle.edd_machine.proofs.AttributeReadings.{stands}

-- a method has at most 64 slots
row_slots : (counts : Counts) (r : AttributeFields) (item : Option ItemNo) (a : Option Attr)
    → a ≡ attr_from_number r.attribute
    → option_map_or (λ i. option_map_or (λ x. has_attribute counts i x r.sub) a false) item false
    ≡ true → slots_of r ≤ 64
row_slots counts r None a e h = absurd cc
row_slots counts r (Some i) None e h = absurd cc
row_slots counts r (Some i) (Some x) e h = by_body (is_body r) refl
  where
    fits : sub_fits x r.sub ≡ true
    fits = (and_parts (has_attr (kind_of i) x) (sub_fits x r.sub)
        (and_parts (item_exists counts i) _ h).1).1

    by_body : (test : Bool) → is_body r ≡ test → cond test r.sub 0 ≤ 64
    by_body false g = omega arith
    by_body true g =
        let number : r.attribute ≡ 21 = eqb-true r.attribute 21 g in
        let own' : Some x ≡ Some attr.Definition = e ∙ ap attr_from_number number in
        let own : x ≡ attr.Definition = cc in
        let small : sub_fits attr.Definition r.sub ≡ true =
        subst (λ (y : Attr). sub_fits y r.sub ≡ true) own fits in
        leb-true r.sub 64 small

slots_small : (b : List ℕ) (number : ℕ) (r : AttributeFields) → IsValid b
    → slice_get (contents_in b).attributes number ≡ Some r → slots_of r ≤ 64
slots_small b number r valid at =
    let c = contents_in b in
    let all = (and_parts (list_all (is_attribute_row c.counts) c.attributes) _
    (row_rules c (valid rule.Row)).attributes).0 in
    let row = all_at (is_attribute_row c.counts) c.attributes number r all at in
    row_slots c.counts r (item_from_numbers r.kind r.item) (attr_from_number r.attribute) refl
    (and_parts _ (nat_eq r.padding 0) row).0

-- the unit of a body that was found
pub record IsBody (b : List ℕ) (u : CodeUnit) : Type 0 where
  pub unit : IsUnitOf b u
  pub sort : u.sort ≡ Method
  pub slots : u.slots ≤ 64

body_by : (b : List ℕ) (m : MethNo) (u : CodeUnit) (o : Option AttributeFields) → IsValid b
    → body_of (contents_in b) m ≡ o → Some u ≡ option_map (unit_at b) o → IsBody b u
body_by b m u None valid e f = absurd cc
body_by b m u (Some r) valid e f =
    let at = stands (is_row_of (items.Method m) attr.Definition) (contents_in b).attributes r e in
    let same : u ≡ unit_at b r = cc in
    let inner = (and_parts (nat_eq r.kind 5) _ at.2).1 in
    let body : is_body r ≡ true = (and_parts (nat_eq r.attribute 21) _ inner).0 in
    let sort : sort_of r ≡ Method = rw body refl in
    record {
      unit = record { number = at.0; row = r; stands = at.1; unit = same };
      sort = ap (λ (x : CodeUnit). x.sort) same ∙ sort;
      slots = subst (λ (x : CodeUnit). x.slots ≤ 64) (sym same) (slots_small b at.0 r valid at.1);
    }

pub is_body_unit : (b : List ℕ) (m : MethNo) (u : CodeUnit) → IsValid b
    → Some u ≡ option_map (unit_at b) (body_of (contents_in b) m) → IsBody b u
is_body_unit b m u valid e = body_by b m u (body_of (contents_in b) m) valid refl e

pub body_opens : (b : List ℕ) (m : MethNo) (row : AttributeFields) (values : List ℤ) → IsValid b
    → body_of (contents_in b) m ≡ Some row
    → opening (running_unit b (unit_at b row)) (unit_at b row).slots values
    ≡ opening_of (contents_in b) row values
body_opens b m row values valid e =
    let at = stands (is_row_of (items.Method m) attr.Definition) (contents_in b).attributes row e in
    ap (λ (code : List ℕ). opening (record { sort = sort_of row; code = code })
    (unit_at b row).slots values) (unit_code b at.0 row valid at.1)

pub body_starts : (b : List ℕ) (m : MethNo) (row : AttributeFields) → IsValid b
    → body_of (contents_in b) m ≡ Some row
    → start_at (contents_in b) row ≡ start_of b (unit_at b row)
body_starts b m row valid e =
    let at = stands (is_row_of (items.Method m) attr.Definition) (contents_in b).attributes row e in
    sym (ap (λ (code : List ℕ). record {
      unit = record { sort = sort_of row; code = code };
      slots = slots_of row;
    }) (unit_code b at.0 row valid at.1))
