-- The variables of a valid image have at most four octets.
use Rattle.std.proofs.Common.{◌≡◌, ℕ, zero, suc, ◌≤◌, true, get_or, List, [], ◌∷◌, Option, Some, None, refl, arith}
use Rattle.std.specs.Prelude.{is_some, option_map}
use Rattle.std.specs.List.{filter_map, list_all}
use Rattle.std.proofs.lemmas.Bool.{and_parts, leb-true}
use Rattle.edd_syntax.specs.declared.types.VarType.{VarType}
use Rattle.edd_syntax.specs.declared.types.VarType.TheVariants as var_type
use Rattle.edd_syntax.specs.DeviceValues.{VariableType}
use Rattle.edd_image.specs.Contents.{VariableFields, contents_in, type_of}
use Rattle.edd_instructions.specs.Reading.{variable_type_of}
use Rattle.edd_instructions.specs.Validity.{IsValid, is_variable_row}
use Rattle.edd_loader.proofs.VariableTypes.{variable_rows}
use Rattle.edd_machine.specs.Types.{types_in}
use Rattle.edd_octets.proofs.ArrivalLaws.{AreSmall}

abbrev default_type : VariableType
default_type = record { type = var_type.Integer; size = 1 }

small_of : (r : VariableFields) (o : Option VarType) → is_some o ≡ true → r.size ≤ 4
    → (t : VariableType)
    × (option_map (λ (x : VarType). record { type = x; size = r.size }) o ≡ Some t) × (t.size ≤ 4)
small_of r None e few = absurd cc
small_of r (Some x) e few = (record { type = x; size = r.size }, refl, few)

small_row : (r : VariableFields) → is_variable_row r ≡ true
    → (t : VariableType) × (variable_type_of r ≡ Some t) × (t.size ≤ 4)
small_row r h =
    let parts = and_parts (is_some (type_of r.type_number)) _ h in
    let sized = (and_parts _ _ parts.1).0 in
    small_of r (type_of r.type_number) parts.0 (leb-true r.size 4 (and_parts _ _ sized).1)

at_place : (t : VariableType) (rest : List VariableType) → t.size ≤ 4
    → ((j : ℕ) → (get_or rest j default_type).size ≤ 4) → (i : ℕ)
    → (get_or (t ∷ rest) i default_type).size ≤ 4
at_place t rest few others zero = few
at_place t rest few others (suc i) = others i

small_rows : (rows : List VariableFields) (i : ℕ) → list_all is_variable_row rows ≡ true
    → (get_or (filter_map variable_type_of rows) i default_type).size ≤ 4
small_rows [] i h = omega arith
small_rows (r ∷ rest) i h =
    let parts = and_parts (is_variable_row r) (list_all is_variable_row rest) h in
    let t = small_row r parts.0 in
    let others = λ (j : ℕ). small_rows rest j parts.1 in
    rw t.1 (at_place t.0 (filter_map variable_type_of rest) t.2 others i)

pub sizes_small : (b : List ℕ) → IsValid b → AreSmall (types_in b)
sizes_small b valid v = small_rows (contents_in b).variables v.0 (variable_rows b valid)
