-- A run that is over stays so with more steps, whatever follows its steps and answers.
use Rattle.std.proofs.Common.{◌≡◌, ◌≢◌, refl, ap, ℕ, zero, suc, ◌≤◌, List, ◌++◌, Option, Some, None, arith}
use Rattle.std.specs.Prelude.{unwrap_or}
use Rattle.edd_syntax.specs.Answers.{Answer}
use Rattle.edd_instructions.specs.Steps.{State, Environment, Effect, step}
use Rattle.edd_instructions.specs.Execution.{Ending, OutOfSteps, Outcome, Meeting, meet, closed, request_in, preceded, stepped, go_on, unchanged, execute_following, execute}

-- a meeting that isn't over is out of steps where none is left
over_at_once : (o : Option Ending) (m : Meeting) (x : Option Effect) (behind : Effect → Outcome)
    → unwrap_or o OutOfSteps ≢ OutOfSteps → go_on m o x behind ≡ closed m (unwrap_or o OutOfSteps)
over_at_once None m x behind over = absurd (over refl)
over_at_once (Some e) m x behind over = refl

over_behind : (o : Option Ending) (m : Meeting) (x : Option Effect) (short long : Effect → Outcome)
    → ((e : Effect) → (short e).ending ≢ OutOfSteps → long e ≡ short e) → (go_on m o x short).ending
    ≢ OutOfSteps → go_on m o x long ≡ go_on m o x short
over_behind (Some e) m x short long same over = refl
over_behind None m None short long same over = refl
over_behind None m (Some e) short long same over =
    ap (λ (o : Outcome). stepped (preceded (request_in e.emitted) (m.changes ++ e.changes) o))
    (same e over)

pub stays_over_following : (follow : State → State) (env : Environment) (m n : ℕ) → m ≤ n
    → (s : State) (answers : List Answer)
    → (execute_following follow env m s answers).ending ≢ OutOfSteps
    → execute_following follow env n s answers ≡ execute_following follow env m s answers
unfolding execute_following
stays_over_following follow env zero zero h s answers over = refl
stays_over_following follow env zero (suc n) h s answers over =
    let m = meet follow env s answers in
    over_at_once m.ending m (step env m.state) (λ e. execute_following follow env n (follow e.state)
    m.answers) over
stays_over_following follow env (suc m) zero h s answers over = absurd (omega arith)
stays_over_following follow env (suc m) (suc n) h s answers over =
    let x = meet follow env s answers in
    over_behind x.ending x (step env x.state) (λ e. execute_following follow env m (follow e.state)
    x.answers) (λ e. execute_following follow env n (follow e.state) x.answers)
    (λ e. stays_over_following follow env m n (omega (arith, h)) (follow e.state) x.answers) over

pub stays_over : (env : Environment) (m n : ℕ) → m ≤ n → (s : State) (answers : List Answer)
    → (execute env m s answers).ending ≢ OutOfSteps → execute env n s answers
    ≡ execute env m s answers
unfolding execute
stays_over env m n h s answers over = stays_over_following unchanged env m n h s answers over
