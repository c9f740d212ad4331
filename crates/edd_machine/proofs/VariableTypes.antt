-- The types of the variables of a valid image, by number.
use Rattle.std.proofs.Common.{◌≡◌, ℕ, zero, suc, ◌+◌, ◌<◌, ◌≤◌, true, false, ℤ, pos, get_or, List, [], ◌∷◌, length, drop, Some, refl, sym, ◌∙◌, arith, add-one}
use Rattle.std.specs.Prelude.{is_some}
use Rattle.std.specs.List.{slice_get}
use Rattle.std.proofs.lemmas.Bool.{and_parts, leb-true}
use Rattle.std.proofs.lemmas.Option.{slice_get-get_or}
use Rattle.edd_syntax.specs.DeviceValues.{VariableType, is_in_range, AreDeviceValues}
use Rattle.edd_image.specs.declared.parts.VarKind.{VarKind}
use Rattle.edd_image.specs.Layout.{type_code}
use Rattle.edd_image.specs.Contents.{contents_in, fields_of_variable, type_of}
use Rattle.edd_instructions.specs.Validity.{IsValid, is_variable_row}
use Rattle.edd_loader.proofs.LookupLaws.{all_at}
use Rattle.edd_loader.proofs.VariableTypes.{variable_rows}

pub kind_sized : (b : List ℕ) (i : ℕ) (kind : VarKind) → IsValid b
    → slice_get (contents_in b).variables i ≡ Some (fields_of_variable kind)
    → (1 ≤ kind.size) × (kind.size ≤ 4)
kind_sized b i kind valid e =
    let row = all_at is_variable_row (contents_in b).variables i (fields_of_variable kind)
    (variable_rows b valid) e in
    let sized = (and_parts _ _ (and_parts (is_some (type_of (type_code kind.var_type))) _ row).1).0
    in
    let bounds = and_parts _ _ sized in
    (leb-true 1 kind.size bounds.0, leb-true kind.size 4 bounds.1)

-- ---- values, one after the other

pub drop_at : {A : Type 0} (xs : List A) (i : ℕ) (x : A) → slice_get xs i ≡ Some x
    → drop i xs ≡ x ∷ drop (i + 1) xs
drop_at [] i x e = absurd cc
drop_at (y ∷ ys) zero x e = let same : y ≡ x = cc in rw same refl
drop_at (y ∷ ys) (suc i) x e = rw add-one (rw add-one at (drop_at ys i x e))

both_from : (types : List VariableType) (numbers : List ℤ) (i : ℕ) (t : VariableType)
    → slice_get types i ≡ Some t → i < length numbers
    → AreDeviceValues (drop i types) (drop i numbers) ≡ AreDeviceValues (t ∷ drop (i + 1) types)
    (get_or numbers i (pos 0) ∷ drop (i + 1) numbers)
both_from types numbers i t e inside =
    let there = drop_at numbers i _ (slice_get-get_or numbers i (pos 0) inside) in
    rw (drop_at types i t e, there) refl

-- a value in its range, and the values after it
pub value_goes : (types : List VariableType) (numbers : List ℤ) (i : ℕ) (t : VariableType)
    → slice_get types i ≡ Some t → i < length numbers → is_in_range t (get_or numbers i (pos 0))
    ≡ true
    → (AreDeviceValues (drop (i + 1) types) (drop (i + 1) numbers)
    → AreDeviceValues (drop i types) (drop i numbers))
    × (AreDeviceValues (drop i types) (drop i numbers)
    → AreDeviceValues (drop (i + 1) types) (drop (i + 1) numbers))
value_goes types numbers i t e inside fits =
    let same = both_from types numbers i t e inside in
    ((λ others. rw same (fits, others)), (λ all. (rw same at all).1))

-- a value out of its range
pub value_fails : (types : List VariableType) (numbers : List ℤ) (i : ℕ) (t : VariableType)
    → slice_get types i ≡ Some t → i < length numbers → is_in_range t (get_or numbers i (pos 0))
    ≡ false
    → AreDeviceValues (drop i types) (drop i numbers) → ⊥
value_fails types numbers i t e inside out all =
    let within : is_in_range t (get_or numbers i (pos 0)) ≡ true =
    (rw (both_from types numbers i t e inside) at all).0 in
    let contradiction : false ≡ true = sym out ∙ within in
    cc

drop_past : {A : Type 0} (xs : List A) (i : ℕ) → length xs ≤ i → drop i xs ≡ []
drop_past [] zero le = refl
drop_past [] (suc i) le = refl
drop_past (x ∷ xs) zero le = absurd (omega arith)
drop_past (x ∷ xs) (suc i) le = drop_past xs i (omega arith)

pub values_done : (types : List VariableType) (numbers : List ℤ) (i : ℕ) → length types ≤ i
    → length numbers ≤ i → AreDeviceValues (drop i types) (drop i numbers)
values_done types numbers i p q = rw (drop_past types i p, drop_past numbers i q) tt
