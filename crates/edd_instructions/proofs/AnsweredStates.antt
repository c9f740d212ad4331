-- A valid answer to a state that asks gives a state again.
use Rattle.std.proofs.Common.{◌≡◌, ℕ, zero, suc, Bool, true, false, cond, ℤ, List, [], ◌∷◌, Option, Some, None, refl, subst, arith}
use Rattle.std.proofs.lemmas.Int.{ints}
use Rattle.std.specs.Prelude.{FitsSigned, IsTrue, slice_get, slice_set}
use Rattle.std.specs.Int.{w32}
use Rattle.edd_syntax.specs.DeviceValues.{VariableType, is_in_range, AreDeviceValues}
use Rattle.edd_syntax.specs.Answers.{Change, Answer, Go, Abort, SetFault, sets_fault, IsValidAnswer, values_set}
use Rattle.edd_instructions.specs.declared.requests.Request.{Request}
use Rattle.edd_instructions.specs.declared.records.Status.{Status}
use Rattle.edd_instructions.specs.declared.records.Status.TheVariants as status
use Rattle.edd_instructions.specs.declared.unit.Context.{Context}
use Rattle.edd_instructions.specs.declared.unit.Sort.{Sort}
use Rattle.edd_instructions.specs.declared.unit.Sort.TheVariants.{Attribute, Method}
use Rattle.edd_instructions.specs.Steps.{State, Environment, Fits, Stands, IsState}
use Rattle.edd_instructions.specs.Execution.{answered}

code_fits : (sort : Sort) (z : ℤ) → FitsSigned w32 z → Fits sort z
code_fits Attribute z fits = omega (arith, ints)
code_fits Method z fits = fits

-- the type of a variable that a set names, and that the value is in its range
value_set : (types : List VariableType) (values : List ℤ) (v : ℕ) (z : ℤ) (t : VariableType)
    → slice_get types v ≡ Some t → is_in_range t z ≡ true → AreDeviceValues types values
    → AreDeviceValues types (slice_set values v z)
value_set [] values v z t e r are = absurd cc
value_set (x ∷ types) [] v z t e r are = are
value_set (x ∷ types) (y ∷ values) zero z t e r are =
    let same : t ≡ x = cc in
    (subst (λ (u : VariableType). IsTrue (is_in_range u z)) same r, are.1)
value_set (x ∷ types) (y ∷ values) (suc v) z t e r are =
    (are.0, value_set types values v z t e r are.1)

-- one set, and what comes of the others
first_set : (env : Environment) (set : Change) (rest : List Change) (values : List ℤ)
    → AreDeviceValues env.types values
    → (sets_fault env.types rest ≡ None
    → AreDeviceValues env.types (slice_set values set.variable.0 set.value)
    → AreDeviceValues env.types (values_set values (set ∷ rest)))
    → sets_fault env.types (set ∷ rest) ≡ None
    → AreDeviceValues env.types (values_set values (set ∷ rest))
first_set env set rest values are others e = by_type (slice_get env.types set.variable.0) refl e
  where
    by_range : (t : VariableType) (test : Bool) → slice_get env.types set.variable.0 ≡ Some t
        → is_in_range t set.value ≡ test
        → elim (cond test None (Some SetFault.OutOfRange)) as (λ o. Option SetFault)
        [ Some fault ↦ Some fault | None ↦ sets_fault env.types rest ] ≡ None
        → AreDeviceValues env.types (values_set values (set ∷ rest))
    by_range t true found r h =
        others h (value_set env.types values set.variable.0 set.value t found r are)
    by_range t false found r h = absurd cc

    by_type : (o : Option VariableType) → slice_get env.types set.variable.0 ≡ o
        → elim (elim o as (λ o'. Option SetFault) [
          | None ↦ Some SetFault.BadVariable
          | Some t ↦ cond (is_in_range t set.value) None (Some SetFault.OutOfRange)
        ]) as
        (λ o'. Option SetFault) [ Some fault ↦ Some fault | None ↦ sets_fault env.types rest ]
        ≡ None → AreDeviceValues env.types (values_set values (set ∷ rest))
    by_type None found h = absurd cc
    by_type (Some t) found h = by_range t (is_in_range t set.value) found refl h

all_set : (env : Environment) (sets : List Change) (values : List ℤ) → sets_fault env.types sets
    ≡ None → AreDeviceValues env.types values → AreDeviceValues env.types (values_set values sets)
all_set env [] values e are = are
all_set env (set ∷ rest) values e are = first_set env set rest values are
    (λ h more. all_set env rest (slice_set values set.variable.0 set.value) h more) e

pub state_again : (context : Context) (env : Environment) (s : State) (r : Request)
    (answer : Answer) → IsState context env s → s.status ≡ status.Asking r
    → IsValidAnswer env.types answer → IsState context env (answered s answer).state
state_again context env s r (Go code sets) is asks valid = record {
  sort = is.sort;
  stands = subst (λ (st : Status). Stands s st) asks is.stands;
  operands = (code_fits context.sort code valid.0, is.operands);
  slot_count = is.slot_count;
  slots = is.slots;
  variable_count = is.variable_count;
  values = all_set env sets s.values valid.1 is.values;
}
state_again context env s r Abort is asks valid = record {
  sort = is.sort;
  stands = tt;
  operands = is.operands;
  slot_count = is.slot_count;
  slots = is.slots;
  variable_count = is.variable_count;
  values = is.values;
}
