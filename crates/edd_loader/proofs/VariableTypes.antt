-- The types of the variables of a valid image, by number.
use Rattle.std.proofs.Common.{◌≡◌, ℕ, zero, suc, ◌+◌, ◌≤◌, true, List, [], ◌∷◌, length, Option, Some, None, refl, sym, ap, ◌∙◌, arith}
use Rattle.std.specs.Prelude.{option_map, is_some}
use Rattle.std.specs.List.{filter_map, list_all, slice_get}
use Rattle.std.proofs.lemmas.Bool.{and_parts}
use Rattle.std.proofs.lemmas.Option.{slice_get_past}
use Rattle.edd_syntax.specs.declared.types.VarType.{VarType}
use Rattle.edd_syntax.specs.declared.types.VarType.TheVariants as var_type
use Rattle.edd_syntax.specs.DeviceValues.{VariableType}
use Rattle.edd_image.specs.declared.parts.VarKind.{VarKind}
use Rattle.edd_instructions.specs.declared.rules.Rule.TheVariants as rule
use Rattle.edd_image.specs.Fields.{counts_in}
use Rattle.edd_image.specs.Layout.{type_code}
use Rattle.edd_image.specs.Contents.{VariableFields, rows_from, contents_in, fields_of_variable, type_of}
use Rattle.edd_instructions.specs.Reading.{variable_type_of, environment_of}
use Rattle.edd_instructions.specs.Validity.{IsValid, is_variable_row}
use Rattle.edd_loader.specs.Lookups.{type_of_kind}
use Rattle.edd_loader.proofs.RowRules.{row_rules}

-- ---- rows

known_type : (t : VarType) → type_of (type_code t) ≡ Some t
known_type var_type.Integer = refl
known_type _ = refl

kind_type : (kind : VarKind) → variable_type_of (fields_of_variable kind) ≡ Some (type_of_kind kind)
kind_type kind = ap (option_map (λ (t : VarType). record { type = t; size = kind.size }))
    (known_type kind.var_type)

has_type : (r : VariableFields) (o : Option VarType) → is_some o ≡ true
    → (t : VariableType) × (option_map (λ (x : VarType). record { type = x; size = r.size }) o
    ≡ Some t)
has_type r None h = absurd cc
has_type r (Some x) h = (record { type = x; size = r.size }, refl)

row_type : (r : VariableFields) → is_variable_row r ≡ true
    → (t : VariableType) × (variable_type_of r ≡ Some t)
row_type r h = has_type r (type_of r.type_number)
    (and_parts (is_some (type_of r.type_number)) _ h).0

pub all_typed : (rows : List VariableFields) → list_all is_variable_row rows ≡ true
    → length (filter_map variable_type_of rows) ≡ length rows
all_typed [] h = refl
all_typed (r ∷ rest) h =
    let parts = and_parts (is_variable_row r) (list_all is_variable_row rest) h in
    let t = row_type r parts.0 in
    rw t.1 (ap suc (all_typed rest parts.1))

typed_at : (rows : List VariableFields) (i : ℕ) (r : VariableFields) (t : VariableType)
    → list_all is_variable_row rows ≡ true → slice_get rows i ≡ Some r → variable_type_of r ≡ Some t
    → slice_get (filter_map variable_type_of rows) i ≡ Some t
typed_at [] i r t h e f = absurd cc
typed_at (x ∷ rest) zero r t h e f =
    let same : x ≡ r = cc in
    let g : variable_type_of x ≡ Some t = ap variable_type_of same ∙ f in
    rw g refl
typed_at (x ∷ rest) (suc i) r t h e f =
    let parts = and_parts (is_variable_row x) (list_all is_variable_row rest) h in
    let u = row_type x parts.0 in
    rw u.1 (typed_at rest i r t parts.1 e f)

-- ---- a valid image

pub variable_rows : (b : List ℕ) → IsValid b → list_all is_variable_row (contents_in b).variables
    ≡ true
variable_rows b valid = (row_rules (contents_in b) (valid rule.Row)).variables

rows_counted : {A : Type 0} (read : ℕ → A) (size n place : ℕ) → length (rows_from read size n place)
    ≡ n
unfolding rows_from
rows_counted read size zero place = refl
rows_counted read size (suc n) place = ap suc (rows_counted read size n (place + size))

counted : (b : List ℕ) → length (contents_in b).variables ≡ (counts_in b).variables
unfolding contents_in
counted b = rows_counted _ 4 (counts_in b).variables _

pub types_counted : (b : List ℕ) → IsValid b → length (environment_of (contents_in b)).types
    ≡ (counts_in b).variables
types_counted b valid = all_typed (contents_in b).variables (variable_rows b valid) ∙ counted b

pub type_at_number : (b : List ℕ) (i : ℕ) (kind : VarKind) → IsValid b
    → slice_get (contents_in b).variables i ≡ Some (fields_of_variable kind)
    → slice_get (environment_of (contents_in b)).types i ≡ Some (type_of_kind kind)
type_at_number b i kind valid e = typed_at (contents_in b).variables i (fields_of_variable kind)
    (type_of_kind kind) (variable_rows b valid) e (kind_type kind)

-- a variable that there isn't has no type
pub no_type : (b : List ℕ) (i : ℕ) → IsValid b → (counts_in b).variables ≤ i
    → None ≡ slice_get (environment_of (contents_in b)).types i
no_type b i valid past =
    sym (slice_get_past (environment_of (contents_in b)).types i
    (omega (arith, types_counted b valid)))
