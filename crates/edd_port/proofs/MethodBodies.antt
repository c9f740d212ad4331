-- A method has one body, so that the unit of a body is the one that is found for its method.
use Rattle.std.proofs.Common.{◌≡◌, ℕ, zero, suc, ◌<◌, ◌≤◌, Bool, true, false, cond, inl, inr, nat_eq, nat_lt, List, [], ◌∷◌, Some, None, refl, sym, ap, subst, ◌∙◌, arith}
use Rattle.std.specs.Prelude.{find, not, option_map}
use Rattle.std.specs.List.{list_all, slice_get}
use Rattle.std.specs.Option.{option_map_or}
use Rattle.std.proofs.lemmas.Bool.{and_parts, cases_Bool, eq-eqb, eqb-true, ltb-true, or_cases}
use Rattle.edd_syntax.specs.declared.numbers.Attr.{Attr}
use Rattle.edd_syntax.specs.declared.numbers.Attr.TheVariants as attr
use Rattle.edd_syntax.specs.declared.numbers.ItemNo.{ItemNo}
use Rattle.edd_syntax.specs.declared.numbers.ItemNo.TheVariants as items
use Rattle.edd_syntax.specs.Numbers.{attr_from_number, item_from_numbers}
use Rattle.edd_image.specs.declared.parts.Counts.{Counts}
use Rattle.edd_image.specs.Contents.{AttributeFields, contents_in}
use Rattle.edd_image.specs.Existing.{item_exists}
use Rattle.edd_instructions.specs.declared.rules.Rule.TheVariants as rule
use Rattle.edd_instructions.specs.declared.unit.Sort.TheVariants.{Attribute, Method}
use Rattle.edd_instructions.specs.Reading.{body_of, is_row_of}
use Rattle.edd_instructions.specs.Validity.{IsValid, has_attribute, is_attribute_row, is_body, rise, rises, sort_of}
use Rattle.edd_loader.proofs.LookupLaws.{all_at}
use Rattle.edd_loader.proofs.RowRules.{row_rules}
use Rattle.edd_machine.specs.declared.code_unit.CodeUnit.{CodeUnit}
use Rattle.edd_machine.specs.Running.{unit_at, IsUnitOf}
use Rattle.edd_port.specs.Suspensions.{IsBodyIn}

-- the row is that of the body of this method
abbrev is_body_row : ℕ → AttributeFields → Bool
is_body_row m r = is_row_of (items.Method (record { 0 = m })) attr.Definition r

record IsBodyRow (m : ℕ) (r : AttributeFields) : Type 0 where
  kind : r.kind ≡ 5
  attribute : r.attribute ≡ 21
  item : r.item ≡ m

body_row : (m : ℕ) (r : AttributeFields) → is_body_row m r ≡ true → IsBodyRow m r
body_row m r h =
    let k = and_parts (nat_eq r.kind 5) _ h in
    let a = and_parts (nat_eq r.attribute 21) _ k.1 in
    record {
      kind = eqb-true r.kind 5 k.0;
      attribute = eqb-true r.attribute 21 a.0;
      item = eqb-true r.item m a.1;
    }

-- ---- rows rise

-- the row is behind those of the bodies of a method
record IsBehind (m : ℕ) (r : AttributeFields) : Type 0 where
  kind : 5 ≤ r.kind
  attribute : r.kind ≡ 5 → 21 ≤ r.attribute
  item : r.kind ≡ 5 → r.attribute ≡ 21 → m < r.item

-- how the next row rises
data Step (r next : AttributeFields) : Type 0 where
  ByKind : r.kind < next.kind → Step r next
  ByAttribute : r.kind ≡ next.kind → r.attribute < next.attribute → Step r next
  ByItem : r.kind ≡ next.kind → r.attribute ≡ next.attribute → r.item < next.item → Step r next
  BySub : r.kind ≡ next.kind → r.attribute ≡ next.attribute → r.item ≡ next.item
      → not (nat_eq r.attribute 21) ≡ true → Step r next

step_of : (r next : AttributeFields) → rises r next ≡ true → Step r next
step_of r next h = elim (or_cases (nat_lt r.kind next.kind) _ h) [
  | inl kind ↦ ByKind (ltb-true r.kind next.kind kind)
  | inr same ↦
      let k = and_parts (nat_eq r.kind next.kind) _ same in
      let kind = eqb-true r.kind next.kind k.0 in
      elim (or_cases (nat_lt r.attribute next.attribute) _ k.1) [
        | inl attribute ↦ ByAttribute kind (ltb-true r.attribute next.attribute attribute)
        | inr same_attribute ↦
            let a = and_parts (nat_eq r.attribute next.attribute) _ same_attribute in
            let attribute = eqb-true r.attribute next.attribute a.0 in
            elim (or_cases (nat_lt r.item next.item) _ a.1) [
              | inl item ↦ ByItem kind attribute (ltb-true r.item next.item item)
              | inr same_item ↦
                  let i = and_parts (nat_eq r.item next.item) _ same_item in
                  BySub kind attribute (eqb-true r.item next.item i.0)
                  (and_parts (nat_lt r.sub next.sub) _ i.1).1
            ]
      ]
]

behind_step : (m : ℕ) (r next : AttributeFields) → IsBehind m r → Step r next → IsBehind m next
behind_step m r next b (ByKind k) = record {
  kind = omega (arith, b.kind);
  attribute = λ e. absurd (omega (arith, b.kind, k, e));
  item = λ e _. absurd (omega (arith, b.kind, k, e));
}
behind_step m r next b (ByAttribute k a) = record {
  kind = omega (arith, b.kind, k);
  attribute = λ e. let le = b.attribute (k ∙ e) in omega (arith, le, a);
  item = λ e f. let le = b.attribute (k ∙ e) in absurd (omega (arith, le, a, f));
}
behind_step m r next b (ByItem k a i) = record {
  kind = omega (arith, b.kind, k);
  attribute = λ e. let le = b.attribute (k ∙ e) in omega (arith, le, a);
  item = λ e f. let lt = b.item (k ∙ e) (a ∙ f) in omega (arith, lt, i);
}
behind_step m r next b (BySub k a i s) = record {
  kind = omega (arith, b.kind, k);
  attribute = λ e. let le = b.attribute (k ∙ e) in omega (arith, le, a);
  item = λ e f. let lt = b.item (k ∙ e) (a ∙ f) in omega (arith, lt, i);
}

body_step : (m : ℕ) (r next : AttributeFields) → IsBodyRow m r → Step r next → IsBehind m next
body_step m r next b (ByKind k) = record {
  kind = omega (arith, b.kind, k);
  attribute = λ e. absurd (omega (arith, b.kind, k, e));
  item = λ e _. absurd (omega (arith, b.kind, k, e));
}
body_step m r next b (ByAttribute k a) = record {
  kind = omega (arith, b.kind, k);
  attribute = λ _. omega (arith, b.attribute, a);
  item = λ _ f. absurd (omega (arith, b.attribute, a, f));
}
body_step m r next b (ByItem k a i) = record {
  kind = omega (arith, b.kind, k);
  attribute = λ _. omega (arith, b.attribute, a);
  item = λ _ _. omega (arith, b.item, i);
}
body_step m r next b (BySub k a i s) =
    let is : nat_eq r.attribute 21 ≡ true = eq-eqb r.attribute 21 b.attribute in
    let no : false ≡ true = rw is at s in
    absurd cc

-- the rows after one that is behind are behind too
all_behind : (m : ℕ) (r : AttributeFields) (rest : List AttributeFields) (n : ℕ)
    (x : AttributeFields) → rise (r ∷ rest) ≡ true → IsBehind m r → slice_get rest n ≡ Some x
    → IsBehind m x
all_behind m r [] n x h b e = absurd cc
all_behind m r (next ∷ rest) zero x h b e =
    let same : next ≡ x = cc in
    subst (IsBehind m) same
    (behind_step m r next b (step_of r next (and_parts (rises r next) (rise (next ∷ rest)) h).0))
all_behind m r (next ∷ rest) (suc n) x h b e =
    let parts = and_parts (rises r next) (rise (next ∷ rest)) h in
    all_behind m next rest n x parts.1 (behind_step m r next b (step_of r next parts.0)) e

-- and those after the body
after_body : (m : ℕ) (r : AttributeFields) (rest : List AttributeFields) (n : ℕ)
    (x : AttributeFields) → rise (r ∷ rest) ≡ true → IsBodyRow m r → slice_get rest n ≡ Some x
    → IsBehind m x
after_body m r [] n x h b e = absurd cc
after_body m r (next ∷ rest) zero x h b e =
    let same : next ≡ x = cc in
    subst (IsBehind m) same
    (body_step m r next b (step_of r next (and_parts (rises r next) (rise (next ∷ rest)) h).0))
after_body m r (next ∷ rest) (suc n) x h b e =
    let parts = and_parts (rises r next) (rise (next ∷ rest)) h in
    all_behind m next rest n x parts.1 (body_step m r next b (step_of r next parts.0)) e

rest_rises : (r : AttributeFields) (rest : List AttributeFields) → rise (r ∷ rest) ≡ true
    → rise rest ≡ true
rest_rises r [] h = refl
rest_rises r (next ∷ rest) h = (and_parts (rises r next) (rise (next ∷ rest)) h).1

-- the row of a body is the first of its method
first_body : (m : ℕ) (rows : List AttributeFields) (n : ℕ) (x : AttributeFields)
    → rise rows ≡ true → slice_get rows n ≡ Some x → is_body_row m x ≡ true
    → find (is_body_row m) rows ≡ Some x
first_body m [] n x h e is = absurd cc
first_body m (r ∷ rest) zero x h e is =
    let same : r ≡ x = cc in
    let here : is_body_row m r ≡ true =
    subst (λ (y : AttributeFields). is_body_row m y ≡ true) (sym same) is in
    rw here (ap Some same)
first_body m (r ∷ rest) (suc n) x h e is = elim (cases_Bool (is_body_row m r)) [
  | inl here ↦
      let b = after_body m r rest n x h (body_row m r here) e in
      let row = body_row m x is in
      absurd (omega (arith, b.item row.kind row.attribute, row.item))
  | inr other ↦ rw other (first_body m rest n x (rest_rises r rest h) e is)
]

-- ---- only a method has a body

by_tests : (counts : Counts) (n sub : ℕ) (t1 t2 t3 t4 t5 t6 : Bool)
    → option_map_or (λ (i : ItemNo). has_attribute counts i attr.Definition sub)
    (cond t1 (Some (items.Variable (record { 0 = n })))
    (cond t2 (Some (items.Command (record { 0 = n })))
    (cond t3 (Some (items.Menu (record { 0 = n })))
    (cond t4 (Some (items.Collection (record { 0 = n })))
    (cond t5 (Some (items.Method (record { 0 = n })))
    (cond t6 (Some (items.Array (record { 0 = n }))) None)))))) false ≡ true → t5 ≡ true
by_tests counts n sub true t2 t3 t4 t5 t6 h =
    let no : false ≡ true = (and_parts (item_exists counts (items.Variable (record { 0 = n }))) _ h).1
    in absurd cc
by_tests counts n sub false true t3 t4 t5 t6 h =
    let no : false ≡ true = (and_parts (item_exists counts (items.Command (record { 0 = n }))) _ h).1
    in absurd cc
by_tests counts n sub false false true t4 t5 t6 h =
    let no : false ≡ true = (and_parts (item_exists counts (items.Menu (record { 0 = n }))) _ h).1
    in absurd cc
by_tests counts n sub false false false true t5 t6 h =
    let no : false ≡ true =
    (and_parts (item_exists counts (items.Collection (record { 0 = n }))) _ h).1 in absurd cc
by_tests counts n sub false false false false true t6 h = refl
by_tests counts n sub false false false false false true h =
    let no : false ≡ true = (and_parts (item_exists counts (items.Array (record { 0 = n }))) _ h).1
    in absurd cc
by_tests counts n sub false false false false false false h = absurd cc

row_of_method : (counts : Counts) (r : AttributeFields) → is_attribute_row counts r ≡ true
    → r.attribute ≡ 21 → r.kind ≡ 5
row_of_method counts r h definition =
    let named = (and_parts _ (nat_eq r.padding 0) h).0 in
    let at_definition : option_map_or (λ (i : ItemNo). has_attribute counts i attr.Definition r.sub)
    (item_from_numbers r.kind r.item) false ≡ true =
    subst (λ (k : ℕ). option_map_or (λ (i : ItemNo). option_map_or
    (λ (a : Attr). has_attribute counts i a r.sub) (attr_from_number k) false)
    (item_from_numbers r.kind r.item) false ≡ true) definition named in
    eqb-true r.kind 5 (by_tests counts r.item r.sub (nat_eq r.kind 1) (nat_eq r.kind 2)
    (nat_eq r.kind 3) (nat_eq r.kind 4) (nat_eq r.kind 5) (nat_eq r.kind 6) at_definition)

is_body_by : (test : Bool) → cond test Method Attribute ≡ Method → test ≡ true
is_body_by true e = refl
is_body_by false e = absurd cc

pub body_found : (b : List ℕ) (n : ℕ) (r : AttributeFields) → IsValid b
    → slice_get (contents_in b).attributes n ≡ Some r → sort_of r ≡ Method
    → body_of (contents_in b) (record { 0 = r.item }) ≡ Some r
body_found b n r valid at sort =
    let c = contents_in b in
    let rules = (row_rules c (valid rule.Row)).attributes in
    let parts = and_parts (list_all (is_attribute_row c.counts) c.attributes) _ rules in
    let rising = (and_parts (rise c.attributes) _ parts.1).0 in
    let row = all_at (is_attribute_row c.counts) c.attributes n r parts.0 at in
    let body : is_body r ≡ true = is_body_by (is_body r) sort in
    let definition : r.attribute ≡ 21 = eqb-true r.attribute 21 body in
    let kind : r.kind ≡ 5 = row_of_method c.counts r row definition in
    let is : is_body_row r.item r ≡ true =
    rw (eq-eqb r.kind 5 kind, body, eq-eqb r.item r.item refl) refl in
    first_body r.item c.attributes n r rising at is

-- the unit of a body is that of the body which is found for its method
pub is_body_in : (b : List ℕ) (u : CodeUnit) → IsValid b → IsUnitOf b u → u.sort ≡ Method
    → IsBodyIn b u
is_body_in b u valid is method =
    let item : u.item ≡ is.row.item = ap (λ (x : CodeUnit). x.item) is.unit in
    let sort : sort_of is.row ≡ Method = sym (ap (λ (x : CodeUnit). x.sort) is.unit) ∙ method in
    ap (λ (n : ℕ). option_map (unit_at b) (body_of (contents_in b) (record { 0 = n }))) item
    ∙ ap (option_map (unit_at b)) (body_found b is.number is.row valid is.stands sort)
    ∙ ap Some (sym is.unit)
