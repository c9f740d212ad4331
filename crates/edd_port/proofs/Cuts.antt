-- A run without answers, and what comes of the state that it reaches.
use Rattle.std.proofs.Common.{◌≡◌, ◌≢◌, ℕ, zero, suc, ◌+◌, ◌-◌, List, [], ◌∷◌, Option, Some, None, refl, sym, ap, subst, ◌∙◌, append_assoc, zero-add, arith}
use Rattle.edd_syntax.specs.Answers.{Answer, answer_fault}
use Rattle.edd_instructions.specs.declared.requests.Request.{Request}
use Rattle.edd_instructions.specs.declared.records.Status.{Status}
use Rattle.edd_instructions.specs.declared.records.Status.TheVariants as status
use Rattle.edd_instructions.specs.Execution.{Ending, Stuck, Outcome, request_in, preceded, stepped, resumed_following}
use Rattle.edd_instructions.specs.Steps.{State, Effect}
use Rattle.edd_instructions.specs.AbortMethods.{answered_in, execute_in, next, start_in, step_in}
use Rattle.edd_image.specs.Contents.{Contents}
use Rattle.edd_instructions.specs.Reading.{environment_of}
use Rattle.edd_instructions.proofs.Followed.{answer_met}
use Rattle.edd_instructions.proofs.NextMethods.{next_asks_nothing}
use Rattle.edd_port.specs.Runs.{followed}
use Rattle.edd_port.specs.Turns.{turn_of, ending_of}
use Rattle.edd_port.proofs.Outcomes.{same_outcome, halted, behind_nothing, without_steps, at_rest, steps_on, gets_stuck}

-- a status is Running or not
pub by_running : {P : Status → Type 0} (st : Status) → P status.Running
    → ((other : Status) → (other ≡ status.Running → ⊥) → P other) → P st
by_running status.Running running others = running
by_running x running others = others x (λ e. cc)

-- after one step an outcome follows as after the rest of the steps
behind_step : (e : Effect) (o rest : Outcome)
    → stepped (preceded (request_in e.emitted) e.changes (followed o rest))
    ≡ followed (stepped (preceded (request_in e.emitted) e.changes o)) rest
behind_step e o rest = same_outcome
    (sym (append_assoc (request_in e.emitted) o.requests rest.requests))
    (sym (append_assoc e.changes o.changes rest.changes)) (omega arith)

module _ (c : Contents) where
  -- the run under these answers is what comes of the state that an outcome without answers reached
  abbrev Follows : (n : ℕ) → State → List Answer → Outcome → Type 0
  Follows n s answers o = execute_in c n s answers
      ≡ followed o (execute_in c (n - o.steps) o.state answers)

  from_halt : (n : ℕ) (s : State) (answers : List Answer) (ending : Ending) (o : Outcome)
      → o ≡ halted s ending → Follows n s answers o
  from_halt n s answers ending o is =
      subst (λ (x : Outcome). Follows n s answers x) (sym is)
      (sym (behind_nothing s ending (execute_in c n s answers))
      ∙ ap (λ (m : ℕ). followed (halted s ending) (execute_in c m s answers)) (omega arith))

  pub later : (j k : ℕ) (s : State) (answers : List Answer)
      → Follows (j + k) s answers (execute_in c j s [])
  later zero k s answers = from_halt (zero + k) s answers _ _ (without_steps c s)
  later (suc j) k s answers =
      by_running {P = λ (st : Status). s.status ≡ st
      → Follows (suc j + k) s answers (execute_in c (suc j) s [])} s.status
      (λ runs. by_step (λ t. later j k t answers) runs (step_in c s) refl)
      (λ st never is. from_halt (suc j + k) s answers _ _
      (at_rest c (suc j) s (λ e. never (sym is ∙ e)))) refl
    where
      by_step : ((t : State) → Follows (j + k) t answers (execute_in c j t []))
          → s.status ≡ status.Running → (x : Option Effect) → step_in c s ≡ x
          → Follows (suc j + k) s answers (execute_in c (suc j) s [])
      by_step more runs None is = from_halt (suc j + k) s answers _ _ (gets_stuck c j s runs is)
      by_step more runs (Some e) is =
          let o : Outcome = execute_in c j e.state [] in
          let here : execute_in c (suc j + k) s answers
          ≡ stepped (preceded (request_in e.emitted) e.changes
          (execute_in c (j + k) e.state answers)) =
          ap (λ (n : ℕ). execute_in c n s answers) (omega arith) ∙ steps_on c (j + k) s answers e
          runs is in
          let rest : Outcome = execute_in c ((j + k) - o.steps) o.state answers in
          let whole : execute_in c (suc j + k) s answers
          ≡ followed (stepped (preceded (request_in e.emitted) e.changes o)) rest =
          here ∙ ap (λ (x : Outcome). stepped (preceded (request_in e.emitted) e.changes x))
          (more e.state) ∙ behind_step e o rest in
          let left : (j + k) - o.steps ≡ (suc j + k) - suc o.steps = omega arith in
          let moved : Follows (suc j + k) s answers
          (stepped (preceded (request_in e.emitted) e.changes o)) =
          whole ∙ ap (λ (n : ℕ). followed (stepped (preceded (request_in e.emitted) e.changes o))
          (execute_in c n o.state answers)) left in
          subst (λ (x : Outcome). Follows (suc j + k) s answers x)
          (sym (steps_on c j s [] e runs is)) moved

  -- ---- two runs without answers

  abbrev Resumes : (n k : ℕ) → State → Outcome → Type 0
  Resumes n k s o = execute_in c n s []
      ≡ resumed_following (next (start_in c)) (environment_of c) k o

  pub cut : (j k : ℕ) (s : State) → (execute_in c j s []).ending ≢ Stuck
      → Resumes (j + k) k s (execute_in c j s [])
  cut zero k s never =
      ap (λ (n : ℕ). execute_in c n s []) (zero-add k)
      ∙ subst (λ (x : Outcome). Resumes k k s x) (sym (without_steps c s))
      (sym (behind_nothing s (ending_of (turn_of s.status)) (execute_in c k s [])))
  cut (suc j) k s never =
      by_running {P = λ (st : Status). s.status ≡ st
      → Resumes (suc j + k) k s (execute_in c (suc j) s [])} s.status
      (λ runs. by_step (λ t good. cut j k t good) runs (step_in c s) refl) at_end refl
    where
      at_end : (st : Status) → (st ≡ status.Running → ⊥) → s.status ≡ st
          → Resumes (suc j + k) k s (execute_in c (suc j) s [])
      at_end st other is =
          let rests : s.status ≡ status.Running → ⊥ = λ e. other (sym is ∙ e) in
          let ending : Ending = ending_of (turn_of s.status) in
          subst (λ (x : Outcome). Resumes (suc j + k) k s x) (sym (at_rest c (suc j) s rests))
          (at_rest c (suc j + k) s rests ∙ sym (at_rest c k s rests)
          ∙ sym (behind_nothing s ending (execute_in c k s [])))

      by_step : ((t : State) → (execute_in c j t []).ending ≢ Stuck
          → Resumes (j + k) k t (execute_in c j t [])) → s.status ≡ status.Running
          → (x : Option Effect) → step_in c s ≡ x
          → Resumes (suc j + k) k s (execute_in c (suc j) s [])
      by_step more runs None is =
          absurd (never (ap (λ (o : Outcome). o.ending) (gets_stuck c j s runs is)))
      by_step more runs (Some e) is =
          let o : Outcome = execute_in c j e.state [] in
          let same = steps_on c j s [] e runs is in
          let good : o.ending ≢ Stuck = λ bad. never (ap (λ (x : Outcome). x.ending) same ∙ bad) in
          let here : execute_in c (suc j + k) s []
          ≡ stepped (preceded (request_in e.emitted) e.changes (execute_in c (j + k) e.state []))
          =
          ap (λ (n : ℕ). execute_in c n s []) (omega arith) ∙ steps_on c (j + k) s [] e runs is in
          let rest : Outcome = execute_in c k o.state o.answers in
          let moved : Resumes (suc j + k) k s
          (stepped (preceded (request_in e.emitted) e.changes o)) =
          here ∙ ap (λ (x : Outcome). stepped (preceded (request_in e.emitted) e.changes x))
          (more e.state good) ∙ behind_step e o rest in
          subst (λ (x : Outcome). Resumes (suc j + k) k s x) (sym same) moved

-- ---- an answer

-- a pending request is met by an answer that can be taken
pub met : (c : Contents) (k : ℕ) (s : State) (r : Request) (answer : Answer) (rest : List Answer)
    → s.status ≡ status.Asking r → answer_fault (environment_of c).types answer ≡ None
    → execute_in c k s (answer ∷ rest) ≡ preceded [] (answered_in c s answer).changes
    (execute_in c k (answered_in c s answer).state rest)
met c k s r answer rest asks valid =
    answer_met (next (start_in c)) (next_asks_nothing (start_in c)) (environment_of c) s r asks
    answer rest valid k
