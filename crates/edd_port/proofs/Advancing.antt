-- Instructions that are executed one after the other.
use Rattle.std.proofs.Common.{◌≡◌, ℕ, suc, ◌+◌, ◌-◌, ◌≤◌, ℤ, List, [], refl, sym, ap, ◌∙◌, ◌⊎◌, inl, inr, arith}
use Rattle.edd_instructions.specs.declared.records.Status.TheVariants.{Running}
use Rattle.edd_instructions.specs.AbortMethods.{execute_in}
use Rattle.edd_image.specs.Contents.{Contents, contents_in}
use Rattle.edd_instructions.specs.Execution.{Outcome, request_in, preceded, stepped}
use Rattle.edd_instructions.specs.Steps.{State, Effect}
use Rattle.edd_machine.specs.declared.machine.Machine.{Machine}
use Rattle.edd_machine.specs.Running.{state_of, IsMachine, StepsTo}
use Rattle.edd_port.specs.Turns.{turn_of, ending_of}
use Rattle.edd_port.proofs.Outcomes.{halted, without_steps, at_rest, steps_on}

-- The machine that is now there over its values, with so many instructions left, results in what
-- the first one results in over its own within the budget.
pub record Advances (b : List ℕ) (budget left : ℕ) (first : Machine) (before : List ℤ)
    (now : Machine) (values : List ℤ) : Type 0 where
  pub fewer : left ≤ budget
  pub first_left : left ≡ budget → now.status ≡ first.status
  pub machine : IsMachine b now values
  pub state : (execute_in (contents_in b) budget (state_of b first before) []).state
      ≡ (execute_in (contents_in b) left (state_of b now values) []).state
  pub ending : (execute_in (contents_in b) budget (state_of b first before) []).ending
      ≡ (execute_in (contents_in b) left (state_of b now values) []).ending
  pub steps : (execute_in (contents_in b) budget (state_of b first before) []).steps + left
      ≡ budget + (execute_in (contents_in b) left (state_of b now values) []).steps

pub begins : (b : List ℕ) (budget : ℕ) (m : Machine) (values : List ℤ) → IsMachine b m values
    → Advances b budget budget m values m values
begins b budget m values is = record {
  fewer = omega arith;
  first_left = λ e. refl;
  machine = is;
  state = refl;
  ending = refl;
  steps = omega arith;
}

-- after one instruction more
pub goes : (b : List ℕ) (budget left rest : ℕ) (first now next : Machine)
    (before values after : List ℤ) → Advances b budget left first before now values
    → now.status ≡ Running → left ≡ suc rest → StepsTo b now values next after
    → IsMachine b next after → Advances b budget rest first before next after
goes b budget left rest first now next before values after is runs one to there =
    let c : Contents = contents_in b in
    let e : Effect = to.effect in
    let here : execute_in c left (state_of b now values) []
    ≡ stepped (preceded (request_in e.emitted) e.changes (execute_in c rest e.state [])) =
    ap (λ (n : ℕ). execute_in c n (state_of b now values) []) one
    ∙ steps_on c rest (state_of b now values) [] e runs to.is in
    let moved : execute_in c rest e.state [] ≡ execute_in c rest (state_of b next after) [] =
    ap (λ (s : State). execute_in c rest s []) to.state in
    let steps : (execute_in c left (state_of b now values) []).steps
    ≡ suc (execute_in c rest (state_of b next after) []).steps = ap (λ (o : Outcome). o.steps) here
    ∙ ap (λ (o : Outcome). suc o.steps) moved in
    record {
      fewer = omega (arith, is.fewer, one);
      first_left = λ h. absurd (omega (arith, is.fewer, one, h));
      machine = there;
      state = is.state ∙ ap (λ (o : Outcome). o.state) here ∙ ap (λ (o : Outcome). o.state) moved;
      ending = is.ending ∙ ap (λ (o : Outcome). o.ending) here ∙ ap (λ (o : Outcome). o.ending)
          moved;
      steps = omega (arith, is.steps, one, steps);
    }

-- nothing more is executed
pub record Advanced (b : List ℕ) (budget count : ℕ) (first : Machine) (before : List ℤ)
    (now : Machine) (values : List ℤ) : Type 0 where
  pub machine : IsMachine b now values
  pub state : state_of b now values
      ≡ (execute_in (contents_in b) budget (state_of b first before) []).state
  pub ending : (execute_in (contents_in b) budget (state_of b first before) []).ending
      ≡ ending_of (turn_of now.status)
  pub counts : count ≡ (execute_in (contents_in b) budget (state_of b first before) []).steps
  pub all : now.status ≡ Running → count ≡ budget
  pub moves : first.status ≡ Running → 1 ≤ budget → 1 ≤ count

pub ends : (b : List ℕ) (budget left : ℕ) (first now : Machine) (before values : List ℤ)
    → Advances b budget left first before now values → (left ≡ 0) ⊎ (now.status ≡ Running → ⊥)
    → Advanced b budget (budget - left) first before now values
ends b budget left first now before values is over =
    let c : Contents = contents_in b in
    let rest : execute_in c left (state_of b now values) []
    ≡ halted (state_of b now values) (ending_of (turn_of now.status)) = at_end over in
    let none : (execute_in c left (state_of b now values) []).steps ≡ 0 =
    ap (λ (o : Outcome). o.steps) rest in
    record {
      machine = is.machine;
      state = sym (is.state ∙ ap (λ (o : Outcome). o.state) rest);
      ending = is.ending ∙ ap (λ (o : Outcome). o.ending) rest;
      counts = omega (arith, is.steps, is.fewer, none);
      all = λ runs. whole over runs;
      moves = λ runs room. some over runs room;
    }
  where
    at_end : (left ≡ 0) ⊎ (now.status ≡ Running → ⊥)
        → execute_in (contents_in b) left (state_of b now values) []
        ≡ halted (state_of b now values) (ending_of (turn_of now.status))
    at_end (inl none) = ap (λ (n : ℕ). execute_in (contents_in b) n (state_of b now values) []) none
        ∙ without_steps (contents_in b) (state_of b now values)
    at_end (inr never) = at_rest (contents_in b) left (state_of b now values) never

    whole : (left ≡ 0) ⊎ (now.status ≡ Running → ⊥) → now.status ≡ Running → budget - left ≡ budget
    whole (inl none) runs = omega (arith, none)
    whole (inr never) runs = absurd (never runs)

    some : (left ≡ 0) ⊎ (now.status ≡ Running → ⊥) → first.status ≡ Running → 1 ≤ budget
        → 1 ≤ budget - left
    some (inl none) runs room = omega (arith, none, room)
    some (inr never) runs room = omega (arith, is.fewer, room, moved)
      where
        moved : left ≡ budget → ⊥
        moved e = never (is.first_left e ∙ runs)
