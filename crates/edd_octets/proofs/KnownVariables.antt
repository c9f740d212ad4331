-- The variables that the items of a message name exist, where the image is valid.
use Rattle.std.proofs.Common.{◌≡◌, ℕ, zero, suc, ◌<◌, Bool, true, false, ℤ, List, [], ◌∷◌, Option, Some, None, Result, Ok, Err, refl, sym, ap, subst, ◌∙◌}
use Rattle.std.specs.Prelude.{◌==◌, ◌&&◌, if◌then◌else◌, negsuc, option_map, pos}
use Rattle.std.proofs.lemmas.Bool.{ltb-true}
use Rattle.edd_syntax.specs.declared.answer.Trap.{Trap}
use Rattle.edd_syntax.specs.declared.numbers.Attr.{Attr}
use Rattle.edd_syntax.specs.declared.numbers.Attr.TheVariants as attr
use Rattle.edd_syntax.specs.declared.numbers.AttrRef.{AttrRef}
use Rattle.edd_syntax.specs.declared.numbers.MethNo.{MethNo}
use Rattle.edd_syntax.specs.AbortMethods.{listed}
use Rattle.edd_syntax.specs.Builtins.{numbers_taken}
use Rattle.edd_syntax.specs.DeviceValues.{AreDeviceValues}
use Rattle.edd_image.specs.Contents.{AttributeFields, contents_in}
use Rattle.edd_image.specs.Fields.{counts_in}
use Rattle.edd_instructions.specs.declared.instruction.Ask.{Ask}
use Rattle.edd_instructions.specs.declared.instruction.Instruction.{Instruction}
use Rattle.edd_instructions.specs.declared.instruction.Instruction.TheVariants as instruction
use Rattle.edd_instructions.specs.declared.records.Emitted.{Emitted}
use Rattle.edd_instructions.specs.declared.records.Emitted.TheVariants as emitted
use Rattle.edd_instructions.specs.declared.records.Record.{Record}
use Rattle.edd_instructions.specs.declared.records.Record.TheVariants as records
use Rattle.edd_instructions.specs.declared.records.Status.{Status}
use Rattle.edd_instructions.specs.declared.records.Status.TheVariants.{Running, Ended}
use Rattle.edd_instructions.specs.declared.unit.Context.{Context}
use Rattle.edd_instructions.specs.Decoding.{instruction_at}
use Rattle.edd_instructions.specs.Reading.{IsReading, NoItem, Reading, Records, at_end, default_records, environment_of, given_by, given_within, is_no_item, is_row_of, opening_of, reading_of, row_of, with_record}
use Rattle.edd_instructions.specs.References.{names_exist}
use Rattle.edd_instructions.specs.Steps.{Effect, Environment, State, act, ask_with, go, if_running, on_top, on_two, opening, push_or_trap, step}
use Rattle.edd_instructions.specs.Validity.{IsValid, placed_unit, slots_of, sort_of}
use Rattle.edd_instructions.proofs.NextStates.{next_in_unit}
use Rattle.edd_machine.specs.declared.code_unit.CodeUnit.{CodeUnit}
use Rattle.edd_machine.specs.Running.{IsStateIn, IsUnitOf, running_unit, unit_at}
use Rattle.edd_machine.specs.Types.{types_in}
use Rattle.edd_machine.proofs.AttributeReadings.{stands}
use Rattle.edd_machine.proofs.ImageUnits.{unit_code}
use Rattle.edd_machine.proofs.Stepping.{can_act, instruction_there, opened, state_again, step_is, valid_there}

-- a record names one of so many variables, if it has a variable
abbrev pub IsKnown : (count : ℕ) → Record → Type 0
IsKnown count (records.DataVar v mask qualifiers) = v.0 < count
IsKnown count _ = Unit {0}

abbrev pub AreKnown : (count : ℕ) → List Record → Type 0
AreKnown count [] = Unit {0}
AreKnown count (r ∷ rest) = IsKnown count r × AreKnown count rest

-- ---- one instruction

abbrev Emits : (count : ℕ) → Emitted → Type 0
Emits count emitted.Nothing = Unit {0}
Emits count (emitted.Record r) = IsKnown count r
Emits count (emitted.Request r) = Unit {0}

abbrev EmitsIf : (count : ℕ) → Option Effect → Type 0
EmitsIf count None = Unit {0}
EmitsIf count (Some e) = Emits count e.emitted

module _ (count : ℕ) where
  top : (operands : List ℤ) (f : ℤ → List ℤ → Option Effect)
      → ((a : ℤ) (below : List ℤ) → EmitsIf count (f a below)) → EmitsIf count (on_top operands f)
  top [] f h = tt
  top (a ∷ below) f h = h a below

  two : (operands : List ℤ) (f : ℤ → ℤ → List ℤ → Option Effect)
      → ((a b : ℤ) (below : List ℤ) → EmitsIf count (f a b below))
      → EmitsIf count (on_two operands f)
  two [] f h = tt
  two (b ∷ []) f h = tt
  two (b ∷ a ∷ below) f h = h a b below

  pushed : (s : State) (next : ℕ) (below : List ℤ) (r : Result ℤ Trap)
      → EmitsIf count (push_or_trap s next below r)
  pushed s next below (Ok z) = tt
  pushed s next below (Err why) = tt

  either : (test : Bool) (x y : Option Effect) → EmitsIf count x → EmitsIf count y
      → EmitsIf count (if test then x else y)
  either true x y h g = h
  either false x y h g = g

  asked : (numbers : ℕ) (a : Ask) (next : ℕ) (s : State) → EmitsIf count (ask_with numbers a next s)
  asked zero a next s = tt
  asked (suc zero) a next s = top s.operands _ (λ x below. tt)
  asked (suc (suc n)) a next s = two s.operands _ (λ x y below. tt)

  added : (o : Option (List MethNo)) (f : List MethNo → Option Effect) (x : Option Effect)
      → ((methods : List MethNo) → EmitsIf count (f methods)) → EmitsIf count x
      → EmitsIf count (elim o as (λ p. Option Effect) [ Some methods ↦ f methods | None ↦ x ])
  added None f x h g = g
  added (Some methods) f x h g = h methods

  emits : (context : Context) (env : Environment) (i : Instruction) (next : ℕ) (s : State)
      → context.counts.variables ≡ count → names_exist context i ≡ true
      → EmitsIf count (act env i next s)
  unfolding act
  emits context env (instruction.Store v) next s same h = top s.operands _ (λ a below. tt)
  emits context env (instruction.SetLocal slot) next s same h = top s.operands _ (λ a below. tt)
  emits context env instruction.Pop next s same h = top s.operands _ (λ a below. tt)
  emits context env instruction.Duplicate next s same h = top s.operands _ (λ a below. tt)
  emits context env (instruction.ReadElement array) next s same h =
      top s.operands _ (λ a below. pushed s next below _)
  emits context env (instruction.Operate op) next s same h =
      two s.operands _ (λ a b below. pushed s next below _)
  emits context env (instruction.Compare op) next s same h =
      two s.operands _ (λ a b below. tt)
  emits context env instruction.Negate next s same h = top s.operands _ (λ a below. tt)
  emits context env instruction.Not next s same h = top s.operands _ (λ a below. tt)
  emits context env instruction.Complement next s same h = top s.operands _ (λ a below. tt)
  emits context env (instruction.JumpIfZero to) next s same h =
      top s.operands _ (λ a below. tt)
  emits context env (instruction.JumpIfNotZero to) next s same h =
      top s.operands _ (λ a below. tt)
  emits context env (instruction.Case label to) next s same h =
      top s.operands _ (λ a below. either _ (go s to below) (go s next s.operands) tt tt)
  emits context env instruction.Number next s same h = top s.operands _ (λ a below. tt)
  emits context env (instruction.DataVar v mask quals) next s same h =
      subst (λ (n : ℕ). v.0 < n) same (ltb-true v.0 context.counts.variables h)
  emits context env (instruction.Ask request) next s same h =
      asked (numbers_taken request.kind) request next s
  emits context env (instruction.AddAbortMethod m) next s same h =
      added (listed s.is_aborting s.abort_methods m)
      (λ methods. go (record s { abort_methods = methods }) next (pos 0 ∷ s.operands))
      (go s next (negsuc 0 ∷ s.operands)) (λ methods. tt) tt
  emits context env _ next s same h = tt

-- ---- a unit

running_of : (st : Status) (o : Option Effect) (e : Effect) → if_running st o ≡ Some e → st ≡ Running
running_of Running o e h = refl
running_of _ o e h = absurd cc

running_at : (env : Environment) (s : State) (e : Effect) → step env s ≡ Some e
    → s.status ≡ Running
unfolding step
running_at env s e h = running_of s.status _ e h

ended : (count : ℕ) (st : Status) (rs : List Record) → at_end st ≡ Some (Ok rs) → AreKnown count rs
ended count Ended rs e = let same : [] ≡ rs = cc in subst (AreKnown count) same tt
ended count _ rs e = absurd cc

joined : (count : ℕ) (x : Emitted) (o : Option (Result (List Record) Trap)) → Emits count x
    → ((rs : List Record) → o ≡ Some (Ok rs) → AreKnown count rs) → (rs : List Record)
    → option_map (with_record x) o ≡ Some (Ok rs) → AreKnown count rs
joined count x None known behind rs e = absurd cc
joined count emitted.Nothing (Some given) known behind rs e = behind rs e
joined count (emitted.Request r) (Some given) known behind rs e = behind rs e
joined count (emitted.Record r) (Some (Ok more)) known behind rs e =
    let same : r ∷ more ≡ rs = cc in
    subst (AreKnown count) same (known, behind more refl)
joined count (emitted.Record r) (Some (Err why)) known behind rs e = absurd cc

module _ (b : List ℕ) (u : CodeUnit) (valid : IsValid b) where
  abbrev count : ℕ
  count = (counts_in b).variables

  abbrev env : Environment
  env = environment_of (contents_in b)

  emitted_by : (s : State) (e : Effect) → IsStateIn b u s → s.status ≡ Running
      → step env s ≡ Some e → (o : Option (Instruction × ℕ))
      → instruction_at s.unit.code s.place ≡ o → Emits count e.emitted
  emitted_by s e is running stepped None at =
      absurd (instruction_there b u s valid is running at)
  emitted_by s e is running stepped (Some found) at =
      let can = can_act b u s valid is running found at in
      let same : can.context.counts.variables ≡ count = ap (λ c. c.variables) can.counts in
      let acted : act env found.0 found.1 s ≡ Some e =
      sym (step_is env s found (act env found.0 found.1 s) running at refl) ∙ stepped in
      subst (EmitsIf count) acted (emits count can.context env found.0 found.1 s same can.exist)

  again : (s : State) (e : Effect) → IsStateIn b u s → s.status ≡ Running → step env s ≡ Some e
      → IsStateIn b u e.state
  again s e is running stepped =
      let next = next_in_unit (placed_unit (contents_in b) is.unit.row).context env s
      (valid_there b u s valid is running) is.state running in
      let both : Some next.0 ≡ Some e = sym next.1 ∙ stepped in
      let one : next.0 ≡ e = cc in
      state_again b u s valid is running e stepped
      (subst (λ (x : Effect). x.state.unit ≡ s.unit) one next.2.1)

  by_step : (n : ℕ) (s : State) → IsStateIn b u s
      → ((t : State) → IsStateIn b u t → (rs : List Record)
      → given_within n env t ≡ Some (Ok rs) → AreKnown count rs)
      → (o : Option Effect) → step env s ≡ o → (rs : List Record)
      → given_by o s.status (λ e. given_within n env e.state) ≡ Some (Ok rs) → AreKnown count rs
  by_step n s is behind None at rs e = ended count s.status rs e
  by_step n s is behind (Some effect) at rs e =
      let running = running_at env s effect at in
      joined count effect.emitted (given_within n env effect.state)
      (emitted_by s effect is running at (instruction_at s.unit.code s.place) refl)
      (behind effect.state (again s effect is running at)) rs e

  given_known : (n : ℕ) (s : State) → IsStateIn b u s → (rs : List Record)
      → given_within n env s ≡ Some (Ok rs) → AreKnown count rs
  unfolding given_within
  given_known zero s is rs e = ended count s.status rs e
  given_known (suc n) s is rs e =
      by_step n s is (λ t there. given_known n t there) (step env s) refl rs e

-- ---- an attribute

default_known : (n : ℕ) (a : Attr) → AreKnown n (default_records a)
default_known n attr.Handling = (tt, tt)
default_known n attr.Validity = (tt, tt)
default_known n _ = tt

unit_known : (n : ℕ) (a : Attr) (o : Option (Result (List Record) Trap)) (entries : List Record)
    → ((rs : List Record) → o ≡ Some (Ok rs) → AreKnown n rs)
    → option_map (reading_of a) o ≡ Some (Records entries) → AreKnown n entries
unit_known n a None entries known e = absurd cc
unit_known n a (Some (Err why)) entries known e = absurd cc
unit_known n a (Some (Ok [])) entries known e =
    let same : default_records a ≡ entries = cc in
    subst (AreKnown n) same (default_known n a)
unit_known n a (Some (Ok (r ∷ rest))) entries known e =
    let same : r ∷ rest ≡ entries = cc in
    subst (AreKnown n) same (known (r ∷ rest) refl)

read_known : (n : ℕ) (a : Attr) (test : Bool) (o : Option AttributeFields)
    (unit : AttributeFields → Option Reading) (entries : List Record)
    → ((r : AttributeFields) → o ≡ Some r → unit r ≡ Some (Records entries)
    → AreKnown n entries)
    → elim test as (λ t. Option Reading) [
      | true ↦ Some NoItem
      | false ↦ elim o as (λ p. Option Reading) [
        | None ↦ Some (Records (default_records a))
        | Some r ↦ unit r
      ]
    ] ≡ Some (Records entries)
    → AreKnown n entries
read_known n a true o unit entries known e = absurd cc
read_known n a false None unit entries known e =
    let same : default_records a ≡ entries = cc in
    subst (AreKnown n) same (default_known n a)
read_known n a false (Some r) unit entries known e = known r refl e

pub items_known : (b : List ℕ) (ref : AttrRef) (values : List ℤ) (entries : List Record)
    → IsValid b → AreDeviceValues (types_in b) values → IsReading b ref values (Records entries)
    → AreKnown (counts_in b).variables entries
items_known b ref values entries valid are reading =
    let c = contents_in b in
    read_known (counts_in b).variables ref.attr (is_no_item c ref) (row_of c ref)
    (λ r. option_map (reading_of ref.attr)
    (given_within reading.0 (environment_of c) (opening_of c r values))) entries
    (λ r found given.
    let at = stands (λ (x : AttributeFields). is_row_of ref.item ref.attr x && x.sub == ref.sub)
    c.attributes r found in
    let is : IsUnitOf b (unit_at b r) =
    record { number = at.0; row = r; stands = at.1; unit = refl } in
    let opens : opening_of c r values
    ≡ opening (running_unit b (unit_at b r)) (unit_at b r).slots values =
    ap (λ (code : List ℕ). opening (record { sort = sort_of r; code = code }) (slots_of r) values)
    (sym (unit_code b at.0 r valid at.1)) in
    let start = opened b (unit_at b r) (opening_of c r values) values valid is are opens in
    unit_known (counts_in b).variables ref.attr
    (given_within reading.0 (environment_of c) (opening_of c r values)) entries
    (given_known b (unit_at b r) valid reading.0 (opening_of c r values) start) given) reading.1
