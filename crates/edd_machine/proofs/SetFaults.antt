-- The test of one set, and of each number as a set of its variable.
use Rattle.std.proofs.Common.{◌≡◌, refl, sym, ap, ◌∙◌, ℕ, zero, suc, ◌+◌, ◌<◌, ◌≤◌, Bool, true, false, ℤ, pos, get_or, List, [], ◌∷◌, length, drop, Option, Some, None, arith}
use Rattle.std.specs.Prelude.{if◌then◌else◌, is_some, option_map}
use Rattle.std.specs.List.{slice_get}
use Rattle.std.proofs.lemmas.Option.{slice_get_past}
use Rattle.edd_syntax.specs.Answers.{Change, SetFault, BadVariable, OutOfRange, set_fault}
use Rattle.edd_syntax.specs.DeviceValues.{VariableType, is_in_range, AreDeviceValues}
use Rattle.edd_machine.specs.declared.fault.SetFault as in_code
use Rattle.edd_machine.specs.Faults.{set_fault_of}
use Rattle.edd_machine.proofs.VariableTypes.{value_goes, value_fails}

-- the fault of a value, where this is the type of its variable
abbrev fault_by : Option VariableType → ℤ → Option SetFault
fault_by None value = Some BadVariable
fault_by (Some t) value = if is_in_range t value then None else Some OutOfRange

fault_is : (types : List VariableType) (set : Change) (o : Option VariableType)
    → slice_get types set.variable.0 ≡ o → set_fault types set ≡ fault_by o set.value
fault_is types set None e =
    ap (λ (x : Option VariableType). elim x [
      | None ↦ Some BadVariable
      | Some t ↦ if is_in_range t set.value then None else Some OutOfRange
    ]) e
fault_is types set (Some t) e =
    ap (λ (x : Option VariableType). elim x [
      | None ↦ Some BadVariable
      | Some t ↦ if is_in_range t set.value then None else Some OutOfRange
    ]) e

-- there is no such variable
pub bad_variable : (types : List VariableType) (set : Change) → length types ≤ set.variable.0
    → set_fault types set ≡ Some BadVariable
bad_variable types set past = fault_is types set None (slice_get_past types set.variable.0 past)

-- the value is in the range of this type, or not
pub no_set_fault : (types : List VariableType) (set : Change) (t : VariableType)
    → slice_get types set.variable.0 ≡ Some t → is_in_range t set.value ≡ true
    → set_fault types set ≡ None
no_set_fault types set t e h = fault_is types set (Some t) e
    ∙ ap (λ (b : Bool). if b then None else Some OutOfRange) h

pub out_of_range : (types : List VariableType) (set : Change) (t : VariableType)
    → slice_get types set.variable.0 ≡ Some t → is_in_range t set.value ≡ false
    → set_fault types set ≡ Some OutOfRange
out_of_range types set t e h = fault_is types set (Some t) e
    ∙ ap (λ (b : Bool). if b then None else Some OutOfRange) h

-- ---- the answer of the test

pub no_fault_seen : (o : Option in_code.SetFault) → is_some o ≡ false → option_map set_fault_of o
    ≡ None
no_fault_seen None h = refl
no_fault_seen (Some f) h = absurd cc

pub fault_seen : (o : Option in_code.SetFault) → is_some o ≡ true
    → (f : SetFault) × (option_map set_fault_of o ≡ Some f)
fault_seen None h = absurd cc
fault_seen (Some f) h = (set_fault_of f, refl)

-- ---- the number at a place, as a set of its variable

module _ (types : List VariableType) (numbers : List ℤ) (i : ℕ) (inside : i < length numbers) where
  abbrev number : ℤ
  number = get_or numbers i (pos 0)

  abbrev set : Change
  set = record { variable = record { 0 = i }; value = number }

  -- it is the value of its variable, and so are those after it
  pub set_goes : set_fault types set ≡ None
      → (AreDeviceValues (drop (i + 1) types) (drop (i + 1) numbers)
      → AreDeviceValues (drop i types) (drop i numbers))
      × (AreDeviceValues (drop i types) (drop i numbers)
      → AreDeviceValues (drop (i + 1) types) (drop (i + 1) numbers))
  set_goes none = by_type (slice_get types i) refl
    where
      by_range : (t : VariableType) → slice_get types i ≡ Some t → (b : Bool)
          → is_in_range t number ≡ b → (AreDeviceValues (drop (i + 1) types) (drop (i + 1) numbers)
          → AreDeviceValues (drop i types) (drop i numbers))
          × (AreDeviceValues (drop i types) (drop i numbers)
          → AreDeviceValues (drop (i + 1) types) (drop (i + 1) numbers))
      by_range t e true h = value_goes types numbers i t e inside h
      by_range t e false h = let bad : None ≡ Some OutOfRange = sym none
          ∙ out_of_range types set t e h in absurd cc

      by_type : (o : Option VariableType) → slice_get types i ≡ o
          → (AreDeviceValues (drop (i + 1) types) (drop (i + 1) numbers)
          → AreDeviceValues (drop i types) (drop i numbers))
          × (AreDeviceValues (drop i types) (drop i numbers)
          → AreDeviceValues (drop (i + 1) types) (drop (i + 1) numbers))
      by_type None e = let bad : None ≡ Some BadVariable = sym none
          ∙ fault_is types set None e in absurd cc
      by_type (Some t) e = by_range t e (is_in_range t number) refl

  -- it is no value of a variable
  pub set_fails : i < length types → (f : SetFault) → set_fault types set ≡ Some f
      → AreDeviceValues (drop i types) (drop i numbers) → ⊥
  set_fails typed f fault all = by_type (slice_get types i) refl
    where
      by_range : (t : VariableType) → slice_get types i ≡ Some t → (b : Bool)
          → is_in_range t number ≡ b → ⊥
      by_range t e true h = let bad : Some f ≡ None = sym fault ∙ no_set_fault types set t e h in cc
      by_range t e false h = value_fails types numbers i t e inside h all

      none_there : {A : Type 0} (xs : List A) (n : ℕ) → n < length xs → slice_get xs n ≡ None → ⊥
      none_there [] n h e = omega arith
      none_there (x ∷ xs) zero h e = cc
      none_there (x ∷ xs) (suc n) h e = none_there xs n (omega (arith, h)) e

      by_type : (o : Option VariableType) → slice_get types i ≡ o → ⊥
      by_type None e = none_there types i typed e
      by_type (Some t) e = by_range t e (is_in_range t number) refl
