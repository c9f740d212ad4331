-- Values that stay in their ranges.
use Rattle.std.proofs.Common.{◌≡◌, ℕ, zero, suc, ◌-◌, ◌*◌, ◌<◌, ◌≤◌, ◌^◌, Bool, true, false, ℤ, pos, List, [], ◌∷◌, ◌++◌, length, Option, Some, None, refl, sym, subst, ◌∙◌, arith}
use Rattle.std.specs.Prelude.{IsTrue, slice_get, slice_set, int_le, neg_ℤ, ◌-ℤ◌, ◌&&◌, replicate}
use Rattle.std.proofs.lemmas.Bool.Decides.{nat_tests}
use Rattle.std.proofs.lemmas.Int.{ints}
use Rattle.std.proofs.lemmas.Nat.{pow_pos}
use Rattle.std.proofs.lemmas.Option.{slice_get_within}
use Rattle.std.proofs.lemmas.Slice.Zip.{AllZip-long}
use Rattle.edd_syntax.specs.declared.types.VarType.{VarType}
use Rattle.edd_syntax.specs.declared.types.VarType.TheVariants as var_type
use Rattle.edd_syntax.specs.Answers.{Change, SetFault, BadVariable, OutOfRange, set_fault}
use Rattle.edd_syntax.specs.DeviceValues.{VariableType, is_in_range, IsInRange, AreDeviceValues}
use Rattle.edd_machine.specs.Types.{types_in}
use Rattle.edd_device.specs.Messages.{number_read}
use Rattle.edd_device.specs.Starts.{StartsAs, or_zero, unless_bad}
use Rattle.edd_machine.proofs.SetFaults.{bad_variable, out_of_range}

-- ---- 0

least_below : (n : ℕ) → int_le (neg_ℤ (pos n)) (pos 0) ≡ true
least_below zero = refl
least_below (suc n) = refl

greatest_above : (n : ℕ) → 0 < n → int_le (pos 0) (pos n -ℤ pos 1) ≡ true
greatest_above zero more = absurd (omega (arith, more))
greatest_above (suc n) more = grind (arith, ints, nat_tests)

both : (a b : Bool) → a ≡ true → b ≡ true → (a && b) ≡ true
both a b p q = rw (p, q) refl

-- 0 is a value of each type and size
pub zero_in_range : (t : VariableType) → is_in_range t (pos 0) ≡ true
zero_in_range t = by_type t.type
  where
    by_type : (kind : VarType) → is_in_range (record { type = kind; size = t.size }) (pos 0) ≡ true
    by_type var_type.Integer = both _ _ (least_below (2 ^ (8 * t.size - 1)))
        (greatest_above (2 ^ (8 * t.size - 1)) (pow_pos (8 * t.size - 1)))
    by_type var_type.UnsignedInteger =
        greatest_above (2 ^ (8 * t.size)) (pow_pos (8 * t.size))
    by_type var_type.Enumerated = greatest_above (2 ^ (8 * t.size)) (pow_pos (8 * t.size))
    by_type var_type.BitEnumerated = greatest_above (2 ^ (8 * t.size)) (pow_pos (8 * t.size))

-- ---- a set without a fault

-- it names a variable and a value in its range
pub record Fits (types : List VariableType) (set : Change) : Type 0 where
  pub type : VariableType
  pub is : slice_get types set.variable.0 ≡ Some type
  pub within : is_in_range type set.value ≡ true

beyond : {A : Type 0} (xs : List A) (n : ℕ) → slice_get xs n ≡ None → length xs ≤ n
beyond [] n e = omega arith
beyond (x ∷ xs) zero e = absurd cc
beyond (x ∷ xs) (suc n) e = omega (arith, beyond xs n e)

pub fits : (types : List VariableType) (set : Change) → set_fault types set ≡ None
    → Fits types set
fits types set none = by_type (slice_get types set.variable.0) refl
  where
    by_range : (t : VariableType) (test : Bool) → slice_get types set.variable.0 ≡ Some t
        → is_in_range t set.value ≡ test → Fits types set
    by_range t true found within = record { type = t; is = found; within = within }
    by_range t false found out = let clash : None ≡ Some OutOfRange = sym none
        ∙ out_of_range types set t found out in absurd cc

    by_type : (o : Option VariableType) → slice_get types set.variable.0 ≡ o → Fits types set
    by_type None found =
        let past : length types ≤ set.variable.0 = beyond types set.variable.0 found in
        let clash : None ≡ Some BadVariable = sym none ∙ bad_variable types set past in absurd cc
    by_type (Some t) found = by_range t (is_in_range t set.value) found refl

pub inside : (types : List VariableType) (set : Change) (values : List ℤ)
    → set_fault types set ≡ None → AreDeviceValues types values
    → set.variable.0 < length values
inside types set values none are =
    let f = fits types set none in
    omega (
      arith,
      slice_get_within types set.variable.0 f.type f.is,
      AllZip-long IsInRange types values are,
    )

-- ---- values of a device

pub value_set : (types : List VariableType) (values : List ℤ) (v : ℕ) (z : ℤ) (t : VariableType)
    → slice_get types v ≡ Some t → is_in_range t z ≡ true → AreDeviceValues types values
    → AreDeviceValues types (slice_set values v z)
value_set [] values v z t e r are = absurd cc
value_set (x ∷ types) [] v z t e r are = are
value_set (x ∷ types) (y ∷ values) zero z t e r are =
    let same : t ≡ x = cc in
    (subst (λ (u : VariableType). IsTrue (is_in_range u z)) same r, are.1)
value_set (x ∷ types) (y ∷ values) (suc v) z t e r are =
    (are.0, value_set types values v z t e r are.1)

-- a set without a fault keeps them
pub keeps : (types : List VariableType) (set : Change) (values : List ℤ)
    → set_fault types set ≡ None → AreDeviceValues types values
    → AreDeviceValues types (slice_set values set.variable.0 set.value)
keeps types set values none are =
    let f = fits types set none in
    value_set types values set.variable.0 set.value f.type f.is f.within are

-- and so does 0
pub keeps_zero : (types : List VariableType) (v : ℕ) (values : List ℤ)
    → AreDeviceValues types values → AreDeviceValues types (slice_set values v (pos 0))
keeps_zero [] v values are = elim values as (λ ys. AreDeviceValues [] ys
    → AreDeviceValues [] (slice_set ys v (pos 0))) [
      | [] ↦ λ a. a
      | y ∷ ys ↦ λ a. absurd a
    ] are
keeps_zero (x ∷ types) v [] are = are
keeps_zero (x ∷ types) zero (y ∷ values) are = (zero_in_range x, are.1)
keeps_zero (x ∷ types) (suc v) (y ∷ values) are = (are.0, keeps_zero types v values are.1)

-- they are, where each is in the range of its variable
pub from_each : (types : List VariableType) (values : List ℤ) → length values ≡ length types
    → ((k : ℕ) (t : VariableType) (z : ℤ) → slice_get types k ≡ Some t
    → slice_get values k ≡ Some z → is_in_range t z ≡ true) → AreDeviceValues types values
from_each [] [] count each = tt
from_each [] (z ∷ values) count each = absurd (omega (arith, count))
from_each (t ∷ types) [] count each = absurd (omega (arith, count))
from_each (t ∷ types) (z ∷ values) count each = (
  each 0 t z refl refl,
  from_each types values (omega (arith, count)) (λ k u y e f. each (suc k) u y e f),
)

-- ---- the start

pub zeros_are : (types : List VariableType)
    → AreDeviceValues types (replicate (length types) (pos 0))
zeros_are [] = tt
zeros_are (t ∷ types) = (zero_in_range t, zeros_are types)

module _ (b : List ℕ) (k : ℕ) (t : VariableType) (is : slice_get (types_in b) k ≡ Some t) where
  by_fault : (n : ℤ) (o : Option SetFault)
      → set_fault (types_in b) (record { variable = record { 0 = k }; value = n }) ≡ o
      → is_in_range t (unless_bad n o) ≡ true
  by_fault n None none =
      let f = fits (types_in b) (record { variable = record { 0 = k }; value = n }) none in
      let one : Some f.type ≡ Some t = sym f.is ∙ is in
      let same : f.type ≡ t = cc in
      subst (λ (u : VariableType). is_in_range u n ≡ true) same f.within
  by_fault n (Some fault) bad = zero_in_range t

  or_zero_within : (o : Option ℤ) → is_in_range t (or_zero b k o) ≡ true
  or_zero_within None = zero_in_range t
  or_zero_within (Some n) = by_fault n
      (set_fault (types_in b) (record { variable = record { 0 = k }; value = n })) refl

  -- a variable starts in its range
  pub starts_within : (n : ℤ) → StartsAs b k n → is_in_range t n ≡ true
  starts_within n (r, read, e) =
      subst (λ (z : ℤ). is_in_range t z ≡ true) (sym e) (or_zero_within (number_read r))

-- ---- one value more

pub grown : (P : ℕ → ℤ → Type 0) (xs : List ℤ) (x : ℤ)
    → ((k : ℕ) (n : ℤ) → slice_get xs k ≡ Some n → P k n) → P (length xs) x
    → (k : ℕ) (n : ℤ) → slice_get (xs ++ x ∷ []) k ≡ Some n → P k n
grown P [] x f p zero n e = let same : x ≡ n = cc in subst (λ (z : ℤ). P 0 z) same p
grown P [] x f p (suc k) n e = absurd cc
grown P (y ∷ ys) x f p zero n e = f zero n e
grown P (y ∷ ys) x f p (suc k) n e =
    grown (λ j z. P (suc j) z) ys x (λ j z g. f (suc j) z g) p k n e
