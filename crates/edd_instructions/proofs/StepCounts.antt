-- A run takes at most as many steps as it may, and all of them where it is out of steps, whatever
-- follows its steps and answers.
use Rattle.std.proofs.Common.{◌≡◌, refl, ap, ℕ, zero, suc, ◌≤◌, List, Option, Some, None, arith}
use Rattle.edd_syntax.specs.Answers.{Answer}
use Rattle.edd_instructions.specs.Steps.{State, Environment, Effect, step}
use Rattle.edd_instructions.specs.Execution.{Ending, OutOfSteps, Outcome, Meeting, meet, go_on, unchanged, execute_following, execute}
use Rattle.edd_instructions.proofs.Cutting.{meeting_not_out}

few_steps : (n : ℕ) (o : Option Ending) (m : Meeting) (x : Option Effect) (behind : Effect
    → Outcome) → ((e : Effect) → (behind e).steps ≤ n) → (go_on m o x behind).steps ≤ suc n
few_steps n (Some ending) m x behind few = omega arith
few_steps n None m None behind few = omega arith
few_steps n None m (Some e) behind few = omega (arith, few e)

pub at_most_following : (follow : State → State) (env : Environment) (n : ℕ) (s : State)
    (answers : List Answer) → (execute_following follow env n s answers).steps ≤ n
unfolding execute_following
at_most_following follow env zero s answers = omega arith
at_most_following follow env (suc n) s answers =
    let m = meet follow env s answers in
    few_steps n m.ending m (step env m.state) (λ e. execute_following follow env n (follow e.state)
    m.answers) (λ e. at_most_following follow env n (follow e.state) m.answers)

pub at_most : (env : Environment) (n : ℕ) (s : State) (answers : List Answer)
    → (execute env n s answers).steps ≤ n
unfolding execute
at_most env n s answers = at_most_following unchanged env n s answers

every_step : (n : ℕ) (o : Option Ending) (m : Meeting) (x : Option Effect) (behind : Effect
    → Outcome) → (o ≡ Some OutOfSteps → ⊥)
    → ((e : Effect) → (behind e).ending ≡ OutOfSteps → (behind e).steps ≡ n)
    → (go_on m o x behind).ending ≡ OutOfSteps → (go_on m o x behind).steps ≡ suc n
every_step n (Some ending) m x behind never all out =
    absurd (never (ap (λ (y : Ending). Some y) out))
every_step n None m None behind never all out = absurd cc
every_step n None m (Some e) behind never all out = ap suc (all e out)

pub all_taken_following : (follow : State → State) (env : Environment) (n : ℕ) (s : State)
    (answers : List Answer) → (execute_following follow env n s answers).ending ≡ OutOfSteps
    → (execute_following follow env n s answers).steps ≡ n
unfolding execute_following
all_taken_following follow env zero s answers out = refl
all_taken_following follow env (suc n) s answers out =
    let m = meet follow env s answers in
    every_step n m.ending m (step env m.state) (λ e. execute_following follow env n (follow e.state)
    m.answers) (meeting_not_out follow env s.status s answers)
    (λ e h. all_taken_following follow env n (follow e.state) m.answers h) out

pub all_taken : (env : Environment) (n : ℕ) (s : State) (answers : List Answer)
    → (execute env n s answers).ending ≡ OutOfSteps → (execute env n s answers).steps ≡ n
unfolding execute
all_taken env n s answers out = all_taken_following unchanged env n s answers out
