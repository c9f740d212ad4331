-- What is read of an attribute, by its row and what its unit gives.
use Rattle.std.proofs.Common.{◌≡◌, ℕ, suc, Bool, true, false, cond, not, ◌&&◌, nat_eq, ℤ, List, [], ◌∷◌, Option, Some, None, Result, Ok, Err, refl, sym, ap, subst, ◌∙◌}
use Rattle.std.specs.Prelude.{◌||◌, find, is_some, option_map}
use Rattle.std.specs.List.{slice_get}
use Rattle.std.specs.Result.{IfErr, IsErrAnd}
use Rattle.std.proofs.lemmas.Bool.{and_parts, eqb-true}
use Rattle.edd_syntax.specs.declared.answer.Trap.{Trap}
use Rattle.edd_syntax.specs.declared.answer.Trap.TheVariants as trap
use Rattle.edd_syntax.specs.declared.numbers.Attr.TheVariants as attr
use Rattle.edd_syntax.specs.declared.numbers.AttrRef.{AttrRef}
use Rattle.edd_syntax.specs.DeviceValues.{AreDeviceValues}
use Rattle.edd_syntax.specs.Numbers.{attr_number, kind_of, kind_number, has_attr, same_attr}
use Rattle.edd_instructions.specs.declared.records.Record.{Record}
use Rattle.edd_image.specs.declared.parts.Counts.{Counts}
use Rattle.edd_instructions.specs.declared.unit.Sort.TheVariants.{Attribute}
use Rattle.edd_image.specs.Contents.{AttributeFields, contents_in}
use Rattle.edd_image.specs.Fields.{counts_in}
use Rattle.edd_image.specs.Existing.{item_exists}
use Rattle.edd_instructions.specs.Reading.{Reading, NoItem, Records, default_records, environment_of, given_within, is_no_item, is_row_of, opening_of, reading_of, reading_within, row_of, IsReading}
use Rattle.edd_instructions.specs.Steps.{opening}
use Rattle.edd_instructions.specs.Validity.{IsValid, is_body, sort_of}
use Rattle.edd_machine.specs.declared.code_unit.CodeUnit.{CodeUnit}
use Rattle.edd_machine.specs.declared.fault.ReadFault.{ReadFault}
use Rattle.edd_machine.specs.declared.fault.ReadFault.TheVariants as read_fault
use Rattle.edd_machine.specs.Faults.{IsReadFault}
use Rattle.edd_machine.specs.Given.{Gives, GivesFault}
use Rattle.edd_machine.specs.Running.{unit_at, running_unit, IsUnitOf}
use Rattle.edd_machine.specs.Types.{types_in}
use Rattle.edd_machine.proofs.ImageUnits.{unit_code}

-- ---- the row

abbrev pub Stands : {A : Type 0} → (A → Bool) → List A → A → Type 0
Stands p xs x = (k : ℕ) × (slice_get xs k ≡ Some x) × (p x ≡ true)

stands_by : {A : Type 0} (p : A → Bool) (y : A) (ys : List A) (x : A) (test : Bool) → p y ≡ test
    → (find p ys ≡ Some x → Stands p ys x) → cond test (Some y) (find p ys) ≡ Some x
    → Stands p (y ∷ ys) x
stands_by p y ys x true passes rest f =
    let same : y ≡ x = cc in
    (0, ap Some same, subst (λ (z : _). p z ≡ true) same passes)
stands_by p y ys x false fails rest f =
    let behind = rest f in
    (suc behind.0, behind.1, behind.2)

pub stands : {A : Type 0} (p : A → Bool) (xs : List A) (x : A) → find p xs ≡ Some x → Stands p xs x
stands p [] x e = absurd cc
stands p (y ∷ ys) x e = stands_by p y ys x (p y) refl (λ f. stands p ys x f) e

-- the unit that was found is that of the row
pub record IsFound (b : List ℕ) (ref : AttrRef) (u : CodeUnit) : Type 0 where
  pub number : ℕ
  pub row : AttributeFields
  pub is_row : row_of (contents_in b) ref ≡ Some row
  pub there : slice_get (contents_in b).attributes number ≡ Some row
  pub passes : (is_row_of ref.item ref.attr row && nat_eq row.sub ref.sub) ≡ true
  pub unit : u ≡ unit_at b row

found_by : (b : List ℕ) (ref : AttrRef) (u : CodeUnit) (o : Option AttributeFields)
    → row_of (contents_in b) ref ≡ o → Some u ≡ option_map (unit_at b) o → IsFound b ref u
found_by b ref u None e f = absurd cc
found_by b ref u (Some r) e f =
    let at = stands (λ (x : AttributeFields). is_row_of ref.item ref.attr x && nat_eq x.sub ref.sub)
    (contents_in b).attributes r e in
    let same : u ≡ unit_at b r = cc in
    record { number = at.0; row = r; is_row = e; there = at.1; passes = at.2; unit = same }

pub is_found : (b : List ℕ) (ref : AttrRef) (u : CodeUnit)
    → Some u ≡ option_map (unit_at b) (row_of (contents_in b) ref) → IsFound b ref u
is_found b ref u e = found_by b ref u (row_of (contents_in b) ref) refl e

pub not_found : {A B : Type 0} (f : A → B) (o : Option A) → None ≡ option_map f o → o ≡ None
not_found f None e = refl
not_found f (Some x) e = absurd cc

pub found_row : {A B : Type 0} (f : A → B) (o : Option A) → is_some (option_map f o) ≡ is_some o
found_row f None = refl
found_row f (Some x) = refl

pub unit_found : (b : List ℕ) (ref : AttrRef) (u : CodeUnit) → IsFound b ref u → IsUnitOf b u
unit_found b ref u f = record { number = f.number; row = f.row; stands = f.there; unit = f.unit }

pub counts_there : (b : List ℕ) (counts : Counts) → counts ≡ counts_in b → (contents_in b).counts
    ≡ counts
unfolding contents_in
counts_there b counts e = sym e

-- the body of a method is no attribute that is read
or_false : (a b : Bool) → (a || b) ≡ false → (a ≡ false) × (b ≡ false)
or_false true b e = absurd cc
or_false false b e = (refl, e)

no_body : (r : AttributeFields) → is_body r ≡ false → sort_of r ≡ Attribute
no_body r e = rw e refl

pub attribute_found : (b : List ℕ) (ref : AttrRef) (u : CodeUnit) → IsFound b ref u
    → is_no_item (contents_in b) ref ≡ false → u.sort ≡ Attribute
attribute_found b ref u f no_fault =
    let one = or_false (not (item_exists (contents_in b).counts ref.item)) _ no_fault in
    let two = or_false (not (has_attr (kind_of ref.item) ref.attr)) _ one.1 in
    let three = or_false (same_attr ref.attr attr.Definition) _ two.1 in
    let parts = and_parts (is_row_of ref.item ref.attr f.row) (nat_eq f.row.sub ref.sub) f.passes in
    let inner = (and_parts (nat_eq f.row.kind (kind_number (kind_of ref.item))) _ parts.0).1 in
    let number = eqb-true f.row.attribute (attr_number ref.attr)
    (and_parts (nat_eq f.row.attribute (attr_number ref.attr)) _ inner).0 in
    let other : is_body f.row ≡ false = ap (λ (n : ℕ). nat_eq n (attr_number attr.Definition))
    number ∙ three.0 in
    ap (λ (x : CodeUnit). x.sort) f.unit ∙ no_body f.row other

-- ---- the reading

-- what is read, by whether there is nothing to read and by the row
abbrev read_by : AttrRef → (AttributeFields → Option Reading) → Bool → Option AttributeFields
    → Option Reading
read_by ref unit true o = Some NoItem
read_by ref unit false None = Some (Records (default_records ref.attr))
read_by ref unit false (Some r) = unit r

abbrev unit_within : ℕ → List ℕ → AttrRef → List ℤ → AttributeFields → Option Reading
unit_within n b ref values r =
    option_map (reading_of ref.attr)
    (given_within n (environment_of (contents_in b)) (opening_of (contents_in b) r values))

reads_by : (n : ℕ) (b : List ℕ) (ref : AttrRef) (values : List ℤ) (test : Bool)
    (o : Option AttributeFields) → is_no_item (contents_in b) ref ≡ test
    → row_of (contents_in b) ref ≡ o → reading_within n (contents_in b) ref values
    ≡ read_by ref (unit_within n b ref values) test o
reads_by n b ref values test o e f = by_test (is_no_item (contents_in b) ref) test
    (row_of (contents_in b) ref) o e f
  where
    by_row : (x y : Option AttributeFields) → x ≡ y
        → elim x as (λ z. Option Reading) [
          | None ↦ Some (Records (default_records ref.attr))
          | Some r ↦ unit_within n b ref values r
        ] ≡ read_by ref (unit_within n b ref values) false y
    by_row None None g = refl
    by_row None (Some r) g = absurd cc
    by_row (Some r) None g = absurd cc
    by_row (Some r) (Some q) g = let same : r ≡ q = cc in ap (unit_within n b ref values) same

    by_test : (t u : Bool) (x y : Option AttributeFields) → t ≡ u → x ≡ y
        → elim t as (λ z. Option Reading) [
          | true ↦ Some NoItem
          | false ↦ elim x as (λ z. Option Reading) [
            | None ↦ Some (Records (default_records ref.attr))
            | Some r ↦ unit_within n b ref values r
          ]
        ] ≡ read_by ref (unit_within n b ref values) u
        y
    by_test true true x y g h = refl
    by_test true false x y g h = absurd cc
    by_test false true x y g h = absurd cc
    by_test false false x y g h = by_row x y h

pub nothing_read : (b : List ℕ) (ref : AttrRef) (values : List ℤ) → is_no_item (contents_in b) ref
    ≡ true → IsReading b ref values NoItem
nothing_read b ref values e = (0, reads_by 0 b ref values true (row_of (contents_in b) ref) e refl)

pub default_read : (b : List ℕ) (ref : AttrRef) (values : List ℤ) → is_no_item (contents_in b) ref
    ≡ false → row_of (contents_in b) ref ≡ None
    → IsReading b ref values (Records (default_records ref.attr))
default_read b ref values e f = (0, reads_by 0 b ref values false None e f)

pub unit_read : (b : List ℕ) (ref : AttrRef) (values : List ℤ) (u : CodeUnit)
    (given : Result (List Record) Trap) → IsValid b → is_no_item (contents_in b) ref ≡ false
    → IsFound b ref u → Gives (environment_of (contents_in b))
    (opening (running_unit b u) u.slots values) given
    → IsReading b ref values (reading_of ref.attr given)
unit_read b ref values u given valid e f g =
    let same : opening (running_unit b u) u.slots values ≡ opening_of (contents_in b) f.row values =
    ap (λ (x : CodeUnit). opening (running_unit b x) x.slots values) f.unit
    ∙ ap (λ (code : List ℕ). opening (record { sort = sort_of f.row; code = code })
    (unit_at b f.row).slots values) (unit_code b f.number f.row valid f.there) in
    let there : given_within g.0 (environment_of (contents_in b))
    (opening_of (contents_in b) f.row values) ≡ Some given =
    ap (given_within g.0 (environment_of (contents_in b))) (sym same) ∙ g.1 in (
      g.0,
      reads_by g.0 b ref values false (Some f.row) e f.is_row
          ∙ ap (option_map (reading_of ref.attr)) there,
    )

-- the fault of a unit is that of the reading
pub fault_read : (b : List ℕ) (ref : AttrRef) (values : List ℤ) (u : CodeUnit) (fault : ReadFault)
    → IsValid b → is_no_item (contents_in b) ref ≡ false → AreDeviceValues (types_in b) values
    → IsFound b ref u
    → GivesFault (environment_of (contents_in b)) (opening (running_unit b u) u.slots values) fault
    → IsReadFault b ref values fault
fault_read b ref values u read_fault.DivZero valid e are f g =
    (are, unit_read b ref values u (Err trap.DivZero) valid e f g)
fault_read b ref values u read_fault.DivOverflow valid e are f g =
    (are, unit_read b ref values u (Err trap.DivOverflow) valid e f g)
fault_read b ref values u read_fault.BadShift valid e are f g =
    (are, unit_read b ref values u (Err trap.BadShift) valid e f g)
fault_read b ref values u read_fault.NoElement valid e are f g =
    (are, unit_read b ref values u (Err trap.NoElement) valid e f g)
fault_read b ref values u read_fault.Memory valid e are f g = (e, are)
fault_read b ref values u _ valid e are f g = absurd g

-- an error that was handed on
pub passed : {T E : Type 0} (r : Result T E) (f : E) (P : E → Type 0) → IsErrAnd r (λ e. e ≡ f)
    → P f → IfErr r P
passed (Ok x) f P e h = absurd e
passed (Err g) f P e h = subst P (sym e) h
