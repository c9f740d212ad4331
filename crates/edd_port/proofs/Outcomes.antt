-- Outcomes of runs without answers.
use Rattle.std.proofs.Common.{◌≡◌, ℕ, zero, suc, List, [], Option, Some, None, refl, ap, ◌∙◌, zero-add}
use Rattle.std.specs.Prelude.{option_map, unwrap_or}
use Rattle.edd_syntax.specs.Answers.{Change, Answer}
use Rattle.edd_instructions.specs.declared.requests.Request.{Request}
use Rattle.edd_instructions.specs.declared.records.Status.{Status}
use Rattle.edd_instructions.specs.declared.records.Status.TheVariants as status
use Rattle.edd_instructions.specs.AbortMethods.{execute_in, follow_with, next, start_in, step_in}
use Rattle.edd_image.specs.Contents.{Contents}
use Rattle.edd_instructions.specs.Reading.{environment_of}
use Rattle.edd_instructions.proofs.Followed.{goes}
use Rattle.edd_instructions.proofs.NextMethods.{next_asks_nothing}
use Rattle.edd_instructions.specs.Execution.{Ending, Stuck, OutOfSteps, Outcome, nothing_met, meet_by, closed, request_in, preceded, stepped, go_on, execute_following}
use Rattle.edd_instructions.specs.Steps.{State, Effect, step}
use Rattle.edd_port.specs.Runs.{followed}
use Rattle.edd_port.specs.Turns.{turn_of, ending_of}

pub same_outcome : {r r' : List Request} {c c' : List Change} {s : State} {left : List Answer}
    {e : Ending} {n n' : ℕ} → r ≡ r' → c ≡ c' → n ≡ n'
    → ◌≡◌ {A = Outcome} (record {
      requests = r;
      changes = c;
      state = s;
      answers = left;
      ending = e;
      steps = n;
    }) (record {
      requests = r';
      changes = c';
      state = s;
      answers = left;
      ending =
          e;
      steps = n';
    })
same_outcome p q t = cc

-- nothing was done, and no answer is left
abbrev pub halted : State → Ending → Outcome
halted s ending = record {
  requests = [];
  changes = [];
  state = s;
  answers = [];
  ending = ending;
  steps = 0;
}

-- after nothing an outcome is as it is
pub behind_nothing : (s : State) (ending : Ending) (rest : Outcome)
    → followed (halted s ending) rest ≡ rest
behind_nothing s ending rest = same_outcome refl refl (zero-add rest.steps)

module _ (c : Contents) where
  abbrev follow : State → State
  follow = next (start_in c)

  -- without steps nothing is done
  pub without_steps : (s : State) → execute_in c zero s [] ≡ halted s (ending_of (turn_of s.status))
  unfolding execute_following
  without_steps s = by_status s.status
    where
      by_status : (st : Status)
          → closed (meet_by follow (environment_of c) st s [])
          (unwrap_or (meet_by follow (environment_of c) st s []).ending OutOfSteps)
          ≡ halted s (ending_of (turn_of st))
      by_status status.Running = refl
      by_status (status.Asking r) = refl
      by_status status.Ended = refl
      by_status status.Aborted = refl
      by_status (status.Trapped why) = refl

  -- nor in a state that doesn't run
  pub at_rest : (n : ℕ) (s : State) → (s.status ≡ status.Running → ⊥)
      → execute_in c n s [] ≡ halted s (ending_of (turn_of s.status))
  unfolding execute_following
  at_rest zero s never = without_steps s
  at_rest (suc n) s never = by_status s.status never
    where
      by_status : (st : Status) → (st ≡ status.Running → ⊥)
          → (let m = meet_by follow (environment_of c) st s [] in go_on m m.ending
          (step (environment_of c) m.state) (λ e. execute_in c n (follow e.state) m.answers))
          ≡ halted s (ending_of (turn_of st))
      by_status status.Running h = absurd (h refl)
      by_status (status.Asking r) h = refl
      by_status status.Ended h = refl
      by_status status.Aborted h = refl
      by_status (status.Trapped why) h = refl

  -- the rest of the steps goes on from what a step led to, with what follows it
  with_follow : (n : ℕ) (s : State) (answers : List Answer) (x : Option Effect)
      → go_on (nothing_met s answers None) None x (λ e. execute_in c n (follow e.state) answers)
      ≡ go_on (nothing_met s answers None) None (option_map (follow_with follow) x)
      (λ e. execute_in c n e.state answers)
  with_follow n s answers None = refl
  with_follow n s answers (Some e) = refl

  -- a running state that has no answer to wait for makes its step, under all answers
  pub goes_on : (n : ℕ) (s : State) (answers : List Answer) → s.status ≡ status.Running
      → execute_in c (suc n) s answers ≡ go_on (nothing_met s answers None) None (step_in c s)
      (λ e. execute_in c n e.state answers)
  goes_on n s answers runs =
      goes follow (next_asks_nothing (start_in c)) (environment_of c) s answers runs n
      ∙ with_follow n s answers (step (environment_of c) s)

  pub steps_on : (n : ℕ) (s : State) (answers : List Answer) (e : Effect)
      → s.status ≡ status.Running → step_in c s ≡ Some e
      → execute_in c (suc n) s answers
      ≡ stepped (preceded (request_in e.emitted) e.changes (execute_in c n e.state answers))
  steps_on n s answers e runs is =
      goes_on n s answers runs
      ∙ ap (λ (x : Option Effect). go_on (nothing_met s answers None) None x
      (λ f. execute_in c n f.state answers)) is

  pub gets_stuck : (n : ℕ) (s : State) → s.status ≡ status.Running → step_in c s ≡ None
      → execute_in c (suc n) s [] ≡ halted s Stuck
  gets_stuck n s runs is =
      goes_on n s [] runs ∙ ap (λ (x : Option Effect). go_on (nothing_met s [] None) None x
      (λ f. execute_in c n f.state [])) is
