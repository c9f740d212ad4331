-- The unit of an attribute, followed from its first byte to its end.
use Rattle.std.proofs.Common.{◌≡◌, ℕ, suc, ◌<◌, ◌≤◌, true, nat_lt, ℤ, List, [], ◌∷◌, ◌++◌, length, Option, Some, None, Result, Ok, Err, refl, sym, ap, subst, ◌∙◌, inl, inr, arith, append_assoc}
use Rattle.std.specs.Prelude.{option_map}
use Rattle.std.specs.Option.{option_map_or}
use Rattle.std.proofs.lemmas.Bool.{ltb-true}
use Rattle.edd_syntax.specs.declared.answer.Trap.{Trap}
use Rattle.edd_syntax.specs.declared.answer.Trap.TheVariants as trap
use Rattle.edd_instructions.specs.declared.instruction.Instruction.{Instruction}
use Rattle.edd_instructions.specs.declared.records.Record.{Record}
use Rattle.edd_instructions.specs.declared.records.Status.{Status}
use Rattle.edd_instructions.specs.declared.records.Status.TheVariants.{Running}
use Rattle.edd_instructions.specs.declared.records.Emitted.TheVariants as emitted
use Rattle.edd_instructions.specs.declared.unit.Sort.{Sort}
use Rattle.edd_instructions.specs.declared.unit.Sort.TheVariants.{Attribute}
use Rattle.edd_instructions.specs.declared.unit.Way.{Way}
use Rattle.edd_image.specs.Contents.{contents_in}
use Rattle.edd_instructions.specs.Decoding.{instruction_at}
use Rattle.edd_instructions.specs.Reading.{environment_of, at_end, given_by, given_within, with_record}
use Rattle.edd_instructions.specs.Steps.{State, Environment, Effect, opening, act, step}
use Rattle.edd_instructions.specs.Units.{leaves, jump, is_allowed}
use Rattle.edd_instructions.specs.Validity.{IsValid, placed_unit}
use Rattle.edd_instructions.proofs.Lengths.{instruction_inside}
use Rattle.edd_instructions.proofs.Progress.{AllFit, Arrived, Arrives, instruction_acts}
use Rattle.edd_machine.specs.declared.code_unit.CodeUnit.{CodeUnit}
use Rattle.edd_machine.specs.declared.fault.ReadFault.{ReadFault}
use Rattle.edd_machine.specs.declared.fault.ReadFault.TheVariants as read_fault
use Rattle.edd_machine.specs.declared.outcome.Outcome.{Outcome}
use Rattle.edd_machine.specs.declared.outcome.Outcome.TheVariants.{GoesOn, Gives as GivesRecord, Ends, Traps}
use Rattle.edd_machine.specs.Faults.{trap_of}
use Rattle.edd_machine.specs.Given.{Gives, GivesFault}
use Rattle.edd_machine.specs.Outcomes.{IsShared, comes_to, PerformsWith}
use Rattle.edd_machine.specs.Running.{running_unit, code_at, IsUnitOf, IsStateIn, CanAct}
use Rattle.edd_machine.proofs.Stepping.{step_is, can_act, state_again, valid_there, place_inside, instruction_there}
use Rattle.edd_machine.proofs.UnitFacts.{facts}

abbrev pub Given : Type 0
Given = Result (List Record) Trap

-- the state at a place of a unit, with these operands
abbrev pub at_place : List ℕ → CodeUnit → (values : List ℤ) → (place : ℕ) → (operands : List ℤ)
    → State
at_place b u values place operands = record (opening (running_unit b u) u.slots values)
    { place = place; operands = operands }

-- ---- what is given

-- what is given after these records
abbrev pub after : List Record → Given → Given
after records (Ok rest) = Ok (records ++ rest)
after records (Err why) = Err why

pub after_none : (r : Given) → after [] r ≡ r
after_none (Ok rest) = refl
after_none (Err why) = refl

pub after_more : (records : List Record) (r : Record) (given : Given)
    → after records (with_record (emitted.Record r) given) ≡ after (records ++ r ∷ []) given
after_more records r (Ok rest) = simp append_assoc
after_more records r (Err why) = refl

gives_on : (env : Environment) (s : State) (e : Effect) (r : Given) → step env s ≡ Some e
    → Gives env e.state r → Gives env s (with_record e.emitted r)
unfolding given_within
gives_on env s e r stepped g = (
  suc g.0,
  ap (λ (o : Option Effect). given_by o s.status (λ x. given_within g.0 env x.state)) stepped
      ∙ ap (option_map (with_record e.emitted)) g.1,
)

gives_end : (env : Environment) (s : State) (r : Given) → at_end s.status ≡ Some r → Gives env s r
unfolding given_within
gives_end env s r e = (0, e)

-- ---- a turn

onward_to : (i : Instruction) (next : ℕ) (o : Option ℕ) (w : Way)
    → option_map (λ n. record { to = next; leaves = n }) o ≡ Some w → w.to ≡ next
onward_to i next None w e = absurd cc
onward_to i next (Some n) w e =
    let same : record { to = next; leaves = n } ≡ w = cc in
    ap (λ (x : Way). x.to) (sym same)

jump_to : (place : ℕ) (o : Option Way) (w : Way) → option_map_or (λ x. nat_lt place x.to) o true
    ≡ true → o ≡ Some w → place < w.to
jump_to place None w h e = absurd cc
jump_to place (Some x) w h e =
    let same : x ≡ w = cc in
    subst (λ (y : Way). place < y.to) same (ltb-true place x.to h)

arrived_at : (i : Instruction) (next : ℕ) (s t : State) (st : Status) → st ≡ Running
    → Arrived i next s t st → Arrives i next s t 0
arrived_at i next s t Running e h = h
arrived_at i next s t _ e h = absurd cc

module _ (b : List ℕ) (u : CodeUnit) (s : State) (valid : IsValid b) (is : IsStateIn b u s)
    (running : s.status ≡ Running)
    (attribute : (placed_unit (contents_in b) is.unit.row).context.sort
    ≡ Attribute) where
  -- where the run goes on, it goes forward
  pub goes_forward : (found : Instruction × ℕ) (e : Effect) → instruction_at s.unit.code s.place
      ≡ Some found → act (environment_of (contents_in b)) found.0 found.1 s ≡ Some e
      → e.state.status ≡ Running → s.place < e.state.place
  goes_forward found e there acted on =
      let context = (placed_unit (contents_in b) is.unit.row).context in
      let f = facts context (environment_of (contents_in b)) s (valid_there b u s valid is running)
      is.state running found there in
      let slots = subst (λ (so : Sort). AllFit so s.slots) (sym is.state.sort) is.state.slots in
      let fit = subst (λ (so : Sort). AllFit so s.operands) (sym is.state.sort) is.state.operands in
      let acts = instruction_acts (environment_of (contents_in b)) s running slots is.state.values
      found.0 found.1 fit f.enough in
      let same' : Some acts.0 ≡ Some e = sym acts.1 ∙ acted in
      let same : acts.0 ≡ e = cc in
      let on_there : acts.0.state.status ≡ Running = ap (λ (x : Effect). x.state.status) same
      ∙ on in
      let way = arrived_at found.0 found.1 s acts.0.state acts.0.state.status on_there
      acts.2.arrived in
      let place : e.state.place ≡ way.0.to = ap (λ (x : Effect). x.state.place) (sym same)
      ∙ way.2.0 in
      let ahead : s.place < way.0.to = elim way.1 [
        | inl next ↦ omega (
          arith,
          onward_to found.0 found.1 (leaves found.0) way.0 next,
          (instruction_inside s.unit.code s.place found there).0,
        )
        | inr jumped ↦ jump_to s.place (jump found.0) way.0 (f.forward attribute) jumped
      ] in
      omega (arith, place, ahead)

is_attribute : (b : List ℕ) (u : CodeUnit) (is : IsUnitOf b u) → u.sort ≡ Attribute
    → (placed_unit (contents_in b) is.row).context.sort ≡ Attribute
is_attribute b u is e = ap (λ (x : CodeUnit). x.sort) (sym is.unit) ∙ e

module _ (b : List ℕ) (u : CodeUnit) (values : List ℤ) (place : ℕ) (operands : List ℤ)
    (valid : IsValid b) (is : IsStateIn b u (at_place b u values place operands))
    (attribute : u.sort ≡ Attribute) where
  pub place_there : place ≤ length (code_at b u)
  place_there = place_inside b u (at_place b u values place operands) valid is refl

  pub never_past : instruction_at (code_at b u) place ≡ None → ⊥
  never_past e = instruction_there b u (at_place b u values place operands) valid is refl e

  module _ (i : Instruction) (next : ℕ) (there : instruction_at (code_at b u) place
      ≡ Some (i, next)) where
    pub acts_there : CanAct b i (at_place b u values place operands)
    acts_there = can_act b u (at_place b u values place operands) valid is refl (i, next) there

    pub is_shared : IsShared i
    is_shared =
        let f = facts (placed_unit (contents_in b) is.unit.row).context
        (environment_of (contents_in b))
        (at_place b u values place operands)
        (valid_there b u (at_place b u values place operands) valid is refl) is.state refl
        (i, next) there in
        let context = (placed_unit (contents_in b) is.unit.row).context in (
          context.version,
          subst (λ (sort : Sort). is_allowed context.version sort i ≡ true)
              (is_attribute b u is.unit attribute) f.allowed,
        )

    pub next_ahead : place < next
    next_ahead = (instruction_inside (code_at b u) place (i, next) there).0

    pub next_inside : next ≤ length (code_at b u)
    next_inside = (instruction_inside (code_at b u) place (i, next) there).1

    module _ (o : Outcome) (left : List ℤ)
        (performed : PerformsWith (contents_in b).elements u.sort values operands left i next
        o) where
      stepped : step (environment_of (contents_in b)) (at_place b u values place operands)
          ≡ Some (comes_to o left (at_place b u values place operands))
      stepped = step_is (environment_of (contents_in b)) (at_place b u values place operands)
          (i, next) _ refl there (performed (environment_of (contents_in b))
          (at_place b u values place operands) refl)

      pub given_on : (r : Given)
          → Gives (environment_of (contents_in b))
          (comes_to o left (at_place b u values place operands)).state r
          → Gives (environment_of (contents_in b)) (at_place b u values place operands)
          (with_record (comes_to o left (at_place b u values place operands)).emitted r)
      given_on r g = gives_on (environment_of (contents_in b)) (at_place b u values place operands)
          _ r stepped g

    pub state_on : (to : ℕ) (left : List ℤ)
        → PerformsWith (contents_in b).elements u.sort values operands left i next (GoesOn to)
        → IsStateIn b u (at_place b u values to left)
    state_on to left performed = state_again b u (at_place b u values place operands) valid is refl
        (comes_to (GoesOn to) left (at_place b u values place operands))
        (stepped (GoesOn to) left performed) refl

    pub state_behind : (to : ℕ) (r : Record) (left : List ℤ)
        → PerformsWith (contents_in b).elements u.sort values operands left i next
        (GivesRecord to r)
        → IsStateIn b u (at_place b u values to left)
    state_behind to r left performed = state_again b u (at_place b u values place operands) valid is
        refl (comes_to (GivesRecord to r) left (at_place b u values place operands))
        (stepped (GivesRecord to r) left performed) refl

    pub ahead_behind : (to : ℕ) (r : Record) (left : List ℤ)
        → PerformsWith (contents_in b).elements u.sort values operands left i next
        (GivesRecord to r) → place < to
    ahead_behind to r left performed =
        goes_forward b u (at_place b u values place operands) valid is refl
        (is_attribute b u is.unit attribute) (i, next)
        (comes_to (GivesRecord to r) left (at_place b u values place operands)) there
        (performed (environment_of (contents_in b)) (at_place b u values place operands) refl) refl

    pub ahead : (to : ℕ) (left : List ℤ)
        → PerformsWith (contents_in b).elements u.sort values operands left i next (GoesOn to)
        → place < to
    ahead to left performed =
        goes_forward b u (at_place b u values place operands) valid is refl
        (is_attribute b u is.unit attribute) (i, next)
        (comes_to (GoesOn to) left (at_place b u values place operands)) there
        (performed (environment_of (contents_in b)) (at_place b u values place operands) refl) refl

    pub ends_there : (left : List ℤ)
        → PerformsWith (contents_in b).elements u.sort values operands left i next Ends
        → Gives (environment_of (contents_in b)) (at_place b u values place operands) (Ok [])
    ends_there left performed = given_on Ends left performed (Ok [])
        (gives_end (environment_of (contents_in b)) _ (Ok []) refl)

    pub traps_there : (why : Trap) (left : List ℤ)
        → PerformsWith (contents_in b).elements u.sort values operands left i next (Traps why)
        → Gives (environment_of (contents_in b)) (at_place b u values place operands) (Err why)
    traps_there why left performed = given_on (Traps why) left performed (Err why)
        (gives_end (environment_of (contents_in b)) _ (Err why) refl)

-- the fault of a trap is what is given
pub fault_given : (env : Environment) (s : State) (f : ReadFault) (why : Trap)
    → trap_of f ≡ Some why → Gives env s (Err why) → GivesFault env s f
fault_given env s read_fault.DivZero why e g = let same : trap.DivZero ≡ why =
    cc in subst (λ (t : Trap). Gives env s (Err t)) (sym same) g
fault_given env s read_fault.DivOverflow why e g = let same : trap.DivOverflow ≡ why =
    cc in subst (λ (t : Trap). Gives env s (Err t)) (sym same) g
fault_given env s read_fault.BadShift why e g = let same : trap.BadShift ≡ why =
    cc in subst (λ (t : Trap). Gives env s (Err t)) (sym same) g
fault_given env s read_fault.NoElement why e g = let same : trap.NoElement ≡ why =
    cc in subst (λ (t : Trap). Gives env s (Err t)) (sym same) g
fault_given env s _ why e g = absurd cc
