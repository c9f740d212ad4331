-- The steps of a state on a unit of a valid image.
use Rattle.std.proofs.Common.{◌≡◌, ℕ, ◌+◌, ◌≤◌, ℤ, List, length, Option, Some, None, sym, ap, subst, ◌∙◌}
use Rattle.std.specs.Prelude.{option_map}
use Rattle.edd_syntax.specs.DeviceValues.{AreDeviceValues}
use Rattle.edd_image.specs.declared.parts.Counts.{Counts}
use Rattle.edd_instructions.specs.declared.instruction.Instruction.{Instruction}
use Rattle.edd_instructions.specs.declared.records.Status.{Status}
use Rattle.edd_instructions.specs.declared.records.Status.TheVariants.{Running}
use Rattle.edd_instructions.specs.AbortMethods.{follow_with, next, start_in}
use Rattle.edd_image.specs.Contents.{contents_in}
use Rattle.edd_image.specs.Front.{◌>>=◌}
use Rattle.edd_instructions.specs.Decoding.{instruction_at}
use Rattle.edd_instructions.specs.Units.{IsValidUnit}
use Rattle.edd_instructions.specs.Validity.{placed_unit, IsValid}
use Rattle.edd_instructions.specs.Steps.{RunningUnit, State, Environment, Effect, IsState, opening, act, step, if_running}
use Rattle.edd_instructions.specs.Reading.{environment_of}
use Rattle.edd_instructions.proofs.NextStates.{next_state, opens}
use Rattle.edd_machine.specs.declared.machine.Machine.{Machine}
use Rattle.edd_machine.specs.declared.code_unit.CodeUnit.{CodeUnit}
use Rattle.edd_machine.specs.Running.{code_at, running_unit, state_of, IsUnitOf, IsStateIn, IsMachine, IsEffect, StepsTo, ActsTo, CanAct}
use Rattle.edd_machine.specs.Types.{types_in}
use Rattle.edd_loader.proofs.VariableTypes.{types_counted}
use Rattle.edd_machine.proofs.ImageUnits.{unit_valid, unit_code, unit_inside, counts_are}
use Rattle.edd_machine.proofs.UnitFacts.{inside, not_nothing, facts}

pub step_is : (env : Environment) (s : State) (found : Instruction × ℕ) (o : Option Effect)
    → s.status ≡ Running → instruction_at s.unit.code s.place ≡ Some found
    → act env found.0 found.1 s ≡ o → step env s ≡ o
unfolding step
step_is env s found o running at acted =
    ap (λ (st : Status). if_running st (instruction_at s.unit.code s.place
    >>= (λ f. act env f.0 f.1 s))) running
    ∙ ap (λ (x : Option (Instruction × ℕ)). x >>= (λ f. act env f.0 f.1 s)) at
    ∙ acted

pub code_inside : (b : List ℕ) (u : CodeUnit) → IsValid b → IsUnitOf b u
    → u.start + u.size ≤ length b
code_inside b u valid is = subst (λ (x : CodeUnit). x.start + x.size ≤ length b) (sym is.unit)
    (unit_inside b is.number is.row valid is.stands)

pub code_is : (b : List ℕ) (u : CodeUnit) → IsValid b → (is : IsUnitOf b u)
    → code_at b u ≡ (placed_unit (contents_in b) is.row).code
code_is b u valid is = ap (code_at b) is.unit ∙ unit_code b is.number is.row valid is.stands

module _ (b : List ℕ) (u : CodeUnit) (s : State) (valid : IsValid b) (is : IsStateIn b u s)
    (running : s.status ≡ Running) where
  own_code : s.unit.code ≡ (placed_unit (contents_in b) is.unit.row).code
  own_code = ap (λ (x : RunningUnit). x.code) is.runs ∙ code_is b u valid is.unit

  pub valid_there : IsValidUnit (placed_unit (contents_in b) is.unit.row).context s.unit.code
  valid_there = subst (λ (code : List ℕ). IsValidUnit
      (placed_unit (contents_in b) is.unit.row).context
      code) (sym own_code) (unit_valid b is.unit.number is.unit.row valid is.unit.stands)

  pub place_inside : s.place ≤ length s.unit.code
  place_inside = inside (placed_unit (contents_in b) is.unit.row).context
      (environment_of (contents_in b)) s valid_there is.state running

  pub instruction_there : instruction_at s.unit.code s.place ≡ None → ⊥
  instruction_there e = not_nothing (placed_unit (contents_in b) is.unit.row).context
      (environment_of (contents_in b)) s valid_there is.state running e

  pub can_act : (found : Instruction × ℕ) → instruction_at s.unit.code s.place ≡ Some found
      → CanAct b found.0 s
  can_act found e =
      let f = facts (placed_unit (contents_in b) is.unit.row).context
      (environment_of (contents_in b)) s
      valid_there is.state running found e in
      record {
        context = (placed_unit (contents_in b) is.unit.row).context;
        counts = counts_are b is.unit.row;
        is = is.state;
        enough = f.enough;
        full = f.full;
        room = f.room;
        allowed = f.allowed;
        exist = f.exist;
      }

  pub state_again : (e : Effect) → step (environment_of (contents_in b)) s ≡ Some e
      → e.state.unit ≡ s.unit → IsStateIn b u e.state
  state_again e stepped same =
      let next = next_state (placed_unit (contents_in b) is.unit.row).context
      (environment_of (contents_in b)) s valid_there is.state running in
      let one' : Some next.0 ≡ Some e = sym next.1 ∙ stepped in
      let one : next.0 ≡ e = cc in
      record {
        unit = is.unit;
        runs = same ∙ is.runs;
        state = subst (λ (x : Effect). IsState (placed_unit (contents_in b) is.unit.row).context
            (environment_of (contents_in b)) x.state) one next.2;
      }

-- ---- machines

pub acted : (b : List ℕ) (m n : Machine) (before after : List ℤ) (found : Instruction × ℕ)
    → m.status ≡ Running → instruction_at (code_at b m.unit) m.place ≡ Some found
    → ActsTo b found.0 found.1 m before n after
    → IsEffect (step (environment_of (contents_in b)) (state_of b m before)) b n after
acted b m n before after found running e acts = record {
  effect = acts.effect;
  is = step_is (environment_of (contents_in b)) (state_of b m before) found (Some acts.effect)
      running e acts.is;
  state = acts.state;
  emitted = acts.emitted;
}

-- with what follows it
pub stepped : (b : List ℕ) (m n o : Machine) (before after : List ℤ)
    → IsEffect (step (environment_of (contents_in b)) (state_of b m before)) b n after
    → state_of b o after ≡ next (start_in (contents_in b)) (state_of b n after)
    → o.emitted ≡ n.emitted → StepsTo b m before o after
stepped b m n o before after e follows same =
    let on = next (start_in (contents_in b)) in
    record {
      effect = follow_with on e.effect;
      is = ap (λ (x : Option Effect). option_map (follow_with on) x) e.is;
      state = ap on e.state ∙ sym follows;
      emitted = e.emitted ∙ sym same;
    }

pub again : (b : List ℕ) (m n : Machine) (before after : List ℤ) → IsValid b
    → IsMachine b m before → m.status ≡ Running → n.unit ≡ m.unit
    → IsEffect (step (environment_of (contents_in b)) (state_of b m before)) b n after
    → IsMachine b n after
again b m n before after valid is running same e =
    let runs : e.effect.state.unit ≡ (state_of b m before).unit =
    ap (λ (t : State). t.unit) e.state ∙ ap (running_unit b) same in
    let next = state_again b m.unit (state_of b m before) valid is running e.effect e.is runs in
    subst (λ (u : CodeUnit). IsStateIn b u (state_of b n after)) (sym same)
    (subst (λ (t : State). IsStateIn b m.unit t) e.state next)

pub opened : (b : List ℕ) (u : CodeUnit) (s : State) (values : List ℤ) → IsValid b → IsUnitOf b u
    → AreDeviceValues (types_in b) values → s ≡ opening (running_unit b u) u.slots values
    → IsStateIn b u s
opened b u s values valid is are state =
    let context = (placed_unit (contents_in b) is.row).context in
    let env = environment_of (contents_in b) in
    let code = (placed_unit (contents_in b) is.row).code in
    let counted : length env.types ≡ context.counts.variables = types_counted b valid
    ∙ sym (ap (λ (k : Counts). k.variables) (counts_are b is.row)) in
    let opens_there = opens context env code values (unit_valid b is.number is.row valid is.stands)
    counted are in
    let here : s ≡ opening (record { sort = context.sort; code = code }) context.slots values =
    state ∙ ap (λ (x : CodeUnit). opening (running_unit b x) x.slots values) is.unit
    ∙ ap (λ (c : List ℕ). opening (record { sort = context.sort; code = c }) context.slots
    values) (unit_code b is.number is.row valid is.stands) in
    record {
      unit = is;
      runs = ap (λ (t : State). t.unit) state;
      state = subst (λ (t : State). IsState context env t) (sym here) opens_there;
    }
