-- What is read of an attribute is read within as many steps as its unit has bytes.
use Rattle.std.proofs.Common.{◌≡◌, ℕ, zero, suc, ◌+◌, ◌≤◌, Bool, true, false, ℤ, List, length, Option, Some, None, Result, refl, sym, ap, subst, ◌∙◌, arith}
use Rattle.std.specs.Prelude.{option_map}
use Rattle.edd_syntax.specs.declared.answer.Trap.{Trap}
use Rattle.edd_syntax.specs.declared.numbers.AttrRef.{AttrRef}
use Rattle.edd_syntax.specs.DeviceValues.{AreDeviceValues}
use Rattle.edd_image.specs.Contents.{AttributeFields, Contents, contents_in, part}
use Rattle.edd_instructions.specs.declared.instruction.Instruction.{Instruction}
use Rattle.edd_instructions.specs.declared.records.Record.{Record}
use Rattle.edd_instructions.specs.declared.records.Status.{Status}
use Rattle.edd_instructions.specs.declared.records.Status.TheVariants.{Running}
use Rattle.edd_instructions.specs.declared.unit.Sort.TheVariants.{Attribute}
use Rattle.edd_instructions.specs.Decoding.{instruction_at}
use Rattle.edd_instructions.specs.Reading.{NoItem, Reading, Records, at_end, default_records, environment_of, given_by, given_within, is_no_item, opening_of, reading_of, reading_within, row_of, with_record}
use Rattle.edd_instructions.specs.Steps.{Effect, Environment, State, RunningUnit, act, if_running, opening, step}
use Rattle.edd_instructions.specs.Validity.{IsValid, placed_unit, sort_of}
use Rattle.edd_instructions.proofs.Lengths.{instruction_inside}
use Rattle.edd_instructions.proofs.NextStates.{next_in_unit}
use Rattle.edd_machine.specs.declared.code_unit.CodeUnit.{CodeUnit}
use Rattle.edd_machine.specs.Running.{IsStateIn, code_at, running_unit, unit_at}
use Rattle.edd_machine.specs.Types.{types_in}
use Rattle.edd_machine.proofs.AttributeReadings.{attribute_found, is_found, unit_found}
use Rattle.edd_machine.proofs.Following.{goes_forward}
use Rattle.edd_machine.proofs.ImageUnits.{unit_code}
use Rattle.edd_machine.proofs.Stepping.{instruction_there, opened, state_again, step_is, valid_there}
use Rattle.edd_promise.specs.Reads.{row_length, unit_length}

abbrev Given : Type 0
Given = Result (List Record) Trap

-- ---- a state that is at its end

no_step : (st : Status) (o : Option Effect) → (st ≡ Running → ⊥) → if_running st o ≡ None
no_step Running o not = absurd (not refl)
no_step _ o not = refl

at_rest : (k : ℕ) (env : Environment) (s : State) → (s.status ≡ Running → ⊥)
    → given_within k env s ≡ at_end s.status
unfolding given_within step
at_rest zero env s not = refl
at_rest (suc k) env s not =
    ap (λ (o : Option Effect). given_by o s.status (λ e. given_within k env e.state))
    (no_step s.status _ not)

-- what is made of a result stays where the result does
mapped : {A B : Type 0} (f : A → B) (o p : Option A) (r : B)
    → ((x : A) → o ≡ Some x → p ≡ Some x) → option_map f o ≡ Some r → option_map f p ≡ Some r
mapped f None p r same e = absurd cc
mapped f (Some x) p r same e = ap (option_map f) (same x refl) ∙ e

one_more : (n : ℕ) (env : Environment) (s : State) (e : Effect) → step env s ≡ Some e
    → given_within (suc n) env s ≡ option_map (with_record e.emitted) (given_within n env e.state)
unfolding given_within
one_more n env s e stepped =
    ap (λ (o : Option Effect). given_by o s.status (λ x. given_within n env x.state)) stepped

none_left : (env : Environment) (s : State) (r : Given) → s.status ≡ Running
    → given_within 0 env s ≡ Some r → ⊥
unfolding given_within
none_left env s r running e = let clash : None ≡ Some r = sym (ap at_end running) ∙ e in cc

module _ (b : List ℕ) (u : CodeUnit) (valid : IsValid b) (attribute : u.sort ≡ Attribute) where
  abbrev env : Environment
  env = environment_of (contents_in b)

  is_attribute : (s : State) (is : IsStateIn b u s)
      → (placed_unit (contents_in b) is.unit.row).context.sort ≡ Attribute
  is_attribute s is = ap (λ (x : CodeUnit). x.sort) (sym is.unit.unit) ∙ attribute

  -- the instruction of a running state lies in the unit
  instruction_of : (s : State) → IsStateIn b u s → s.status ≡ Running
      → (found : Instruction × ℕ) × (instruction_at s.unit.code s.place ≡ Some found)
  instruction_of s is running = by_instruction (instruction_at s.unit.code s.place) refl
    where
      by_instruction : (o : Option (Instruction × ℕ)) → instruction_at s.unit.code s.place ≡ o
          → (found : Instruction × ℕ) × (instruction_at s.unit.code s.place ≡ Some found)
      by_instruction None there = absurd (instruction_there b u s valid is running there)
      by_instruction (Some found) there = (found, there)

  -- a state that goes on gives what is given of it, and one that is at its end gives the same at once
  by_status : (n m : ℕ) (after : State) (x : Given) → given_within n env after ≡ Some x
      → (after.status ≡ Running → given_within m env after ≡ Some x)
      → (st : Status) → after.status ≡ st → given_within m env after ≡ Some x
  by_status n m after x given near Running on = near on
  by_status n m after x given near st on =
      let not : after.status ≡ Running → ⊥ =
      λ h. let clash : st ≡ Running = sym on ∙ h in cc in
      at_rest m env after not ∙ sym (at_rest n env after not) ∙ given

  few : (n m : ℕ) (s : State) (r : Given) → IsStateIn b u s → s.status ≡ Running
      → length s.unit.code ≤ s.place + m → given_within n env s ≡ Some r
      → given_within m env s ≡ Some r
  few zero m s r is running left e = absurd (none_left env s r running e)
  few (suc n) zero s r is running left e =
      let found = instruction_of s is running in
      let inside = instruction_inside s.unit.code s.place found.0 found.1 in
      absurd (omega (arith, left, inside.0, inside.1))
  few (suc n) (suc m) s r is running left e =
      let next = next_in_unit (placed_unit (contents_in b) is.unit.row).context env s
      (valid_there b u s valid is running) is.state running in
      let after : State = next.0.state in
      let found = instruction_of s is running in
      let acted = sym (step_is env s found.0 (act env found.0.0 found.0.1 s) running found.1 refl)
      ∙ next.1 in
      let again = state_again b u s valid is running next.0 next.1 next.2.1 in
      let long : length after.unit.code ≡ length s.unit.code =
      ap (λ (x : RunningUnit). length x.code) next.2.1 in
      one_more m env s next.0 next.1
      ∙ mapped (with_record next.0.emitted) (given_within n env after) (given_within m env after) r
      (λ x given. by_status n m after x given (λ on. few n m after x again on (omega (
        arith,
        left,
        long,
        goes_forward b u s valid is running (is_attribute s is) found.0 next.0 found.1 acted on,
      )) given) after.status refl)
      (sym (one_more n env s next.0 next.1) ∙ e)

-- ---- the reading

module _ (b : List ℕ) (ref : AttrRef) (values : List ℤ) (valid : IsValid b)
    (are : AreDeviceValues (types_in b) values) where
  abbrev c : Contents
  c = contents_in b

  few_of_row : (row : AttributeFields) → row_of c ref ≡ Some row → is_no_item c ref ≡ false
      → (n : ℕ) (r : Given) → given_within n (environment_of c) (opening_of c row values) ≡ Some r
      → given_within (row_length c (Some row)) (environment_of c) (opening_of c row values) ≡ Some r
  few_of_row row there item n r given =
      let u : CodeUnit = unit_at b row in
      let found = is_found b ref u (sym (ap (option_map (unit_at b)) there)) in
      let one' : Some found.row ≡ Some row = sym found.is_row ∙ there in
      let one : found.row ≡ row = cc in
      let code : code_at b u ≡ part row.span c.code =
      subst (λ (x : AttributeFields). code_at b (unit_at b x) ≡ part x.span c.code) one
      (unit_code b found.number found.row valid found.there) in
      let s : State = opening (running_unit b u) u.slots values in
      let same : s ≡ opening_of c row values =
      ap (λ (x : List ℕ). opening (record { sort = sort_of row; code = x }) u.slots values) code in
      subst (λ (t : State). given_within (row_length c (Some row)) (environment_of c) t ≡ Some r) same
      (few b u valid (attribute_found b ref u found item) n (row_length c (Some row)) s r
      (opened b u s values valid (unit_found b ref u found) are refl) refl
      (omega (arith, ap length code))
      (subst (λ (t : State). given_within n (environment_of c) t ≡ Some r) (sym same) given))

  -- what is read, by whether there is nothing to read and by the row
  abbrev reads : ℕ → Bool → Option AttributeFields → Option Reading
  reads k true o = Some NoItem
  reads k false None = Some (Records (default_records ref.attr))
  reads k false (Some row) =
      option_map (reading_of ref.attr) (given_within k (environment_of c) (opening_of c row values))

  read_so : (k : ℕ) (t : Bool) (o : Option AttributeFields)
      → elim t as (λ x. Option Reading) [
        | true ↦ Some NoItem
        | false ↦ elim o as (λ x. Option Reading) [
          | None ↦ Some (Records (default_records ref.attr))
          | Some row ↦ option_map (reading_of ref.attr)
              (given_within k (environment_of c) (opening_of c row values))
        ]
      ] ≡ reads k t o
  read_so k true o = refl
  read_so k false None = refl
  read_so k false (Some row) = refl

  by_row : (n : ℕ) (r : Reading) (t : Bool) (o : Option AttributeFields) → is_no_item c ref ≡ t
      → row_of c ref ≡ o → reads n t o ≡ Some r → reads (row_length c o) t o ≡ Some r
  by_row n r true o item there e = e
  by_row n r false None item there e = e
  by_row n r false (Some row) item there e =
      mapped (reading_of ref.attr) (given_within n (environment_of c) (opening_of c row values))
      (given_within (row_length c (Some row)) (environment_of c) (opening_of c row values)) r
      (λ x given. few_of_row row there item n x given) e

  pub few_steps : (n : ℕ) (r : Reading) → reading_within n c ref values ≡ Some r
      → reading_within (unit_length c ref) c ref values ≡ Some r
  few_steps n r e =
      read_so (unit_length c ref) (is_no_item c ref) (row_of c ref)
      ∙ by_row n r (is_no_item c ref) (row_of c ref) refl refl
      (sym (read_so n (is_no_item c ref) (row_of c ref)) ∙ e)
