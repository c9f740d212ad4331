-- Runs whose answers were all used, and answers that are left over.
use Rattle.std.proofs.Common.{◌≡◌, ◌≢◌, refl, sym, ap, ◌∙◌, ℕ, suc, ◌+◌, List, [], ◌∷◌, ◌++◌, Option, Some, None, append_assoc, append-nil, zero-add, arith}
use Rattle.std.specs.List.{AllByRecursion}
use Rattle.edd_syntax.specs.Answers.{Answer, answer_fault}
use Rattle.edd_instructions.specs.declared.requests.Request.{Request}
use Rattle.edd_instructions.specs.declared.records.Status.TheVariants as status
use Rattle.edd_image.specs.Contents.{Contents}
use Rattle.edd_instructions.specs.Steps.{State, Effect, step}
use Rattle.edd_instructions.specs.Execution.{Ending, Waiting, Outcome, answered, nothing_met, request_in, preceded, stepped, go_on}
use Rattle.edd_instructions.specs.AbortMethods.{start_in, execute_in}
use Rattle.edd_instructions.proofs.Cutting.{same_outcome}
use Rattle.edd_instructions.proofs.Followed.{answer_met, goes}
use Rattle.edd_instructions.proofs.NextMethods.{next_asks_nothing}
use Rattle.edd_port.specs.Runs.{followed}
use Rattle.edd_port.specs.Turns.{turn_of, ending_of}
use Rattle.edd_port.proofs.Outcomes.{halted, without_steps}
use Rattle.edd_promise.proofs.EveryRun.{at_rest, env, follow, Rests, every_run}

module _ (c : Contents) where
  -- the step of a running state, under any answers
  goes_so : (n : ℕ) (s : State) (answers : List Answer) (e : Effect)
      → s.status ≡ status.Running → step (env c) s ≡ Some e
      → execute_in c (suc n) s answers
      ≡ stepped (preceded (request_in e.emitted) e.changes
      (execute_in c n (follow c e.state) answers))
  goes_so n s answers e running is =
      goes (follow c) (next_asks_nothing (start_in c)) (env c) s answers running n
      ∙ ap (λ (x : Option Effect). go_on (nothing_met s answers None) None x
      (λ f. execute_in c n (follow c f.state) answers)) is

  met_so : (n : ℕ) (s : State) (r : Request) (a : Answer) (rest : List Answer)
      → s.status ≡ status.Asking r → answer_fault (env c).types a ≡ None
      → execute_in c n s (a ∷ rest) ≡ preceded [] (answered s a).changes
      (execute_in c n (follow c (answered s a).state) rest)
  met_so n s r a rest asks fine =
      answer_met (follow c) (next_asks_nothing (start_in c)) (env c) s r asks a rest fine n

  -- ---- where all answers were used, the run goes on under more

  abbrev Continues : ℕ → State → List Answer → Outcome → Type 0
  Continues n s answers o = o.answers ≡ [] → (k : ℕ) (more : List Answer)
      → execute_in c (o.steps + k) s (answers ++ more) ≡ followed o (execute_in c k o.state more)

  rests_on : (n : ℕ) (s : State) (answers : List Answer) (ending : Ending)
      → Rests c n s answers ending → Continues n s answers (at_rest s answers ending)
  rests_on n s [] ending rests used k more =
      ap (λ (m : ℕ). execute_in c m s more) (zero-add k)
      ∙ same_outcome refl refl (sym (zero-add (execute_in c k s more).steps))
  rests_on n s (a ∷ answers) ending rests used k more = absurd cc

  steps_on : (n : ℕ) (s : State) (answers : List Answer) (e : Effect) (o : Outcome)
      → s.status ≡ status.Running → step (env c) s ≡ Some e
      → Continues n (follow c e.state) answers o
      → Continues (suc n) s answers (stepped (preceded (request_in e.emitted) e.changes o))
  steps_on n s answers e o running is behind used k more =
      let rest : Outcome = execute_in c k o.state more in
      let next : suc o.steps + k ≡ suc (o.steps + k) = omega arith in
      ap (λ (m : ℕ). execute_in c m s (answers ++ more)) next
      ∙ goes_so (o.steps + k) s (answers ++ more) e running is
      ∙ ap (λ (p : Outcome). stepped (preceded (request_in e.emitted) e.changes p))
      (behind used k more)
      ∙ same_outcome (sym (append_assoc (request_in e.emitted) o.requests rest.requests))
      (sym (append_assoc e.changes o.changes rest.changes)) (omega arith)

  answers_on : (n : ℕ) (s : State) (r : Request) (a : Answer) (rest : List Answer) (o : Outcome)
      → s.status ≡ status.Asking r → answer_fault (env c).types a ≡ None
      → Continues n (follow c (answered s a).state) rest o
      → Continues n s (a ∷ rest) (preceded [] (answered s a).changes o)
  answers_on n s r a rest o asks fine behind used k more =
      met_so (o.steps + k) s r a (rest ++ more) asks fine
      ∙ ap (λ (p : Outcome). preceded [] (answered s a).changes p) (behind used k more)
      ∙ same_outcome refl (sym (append_assoc (answered s a).changes o.changes
      (execute_in c k o.state more).changes)) refl

  pub continues : (n : ℕ) (s : State) (answers : List Answer)
      → Continues n s answers (execute_in c n s answers)
  continues = every_run c Continues
      (record { rests = rests_on; steps = steps_on; answers = answers_on })

  -- as many steps as were taken do the same, and end as the state says
  pub exactly : (n : ℕ) (s : State) (answers : List Answer)
      → (execute_in c n s answers).answers ≡ []
      → (let o = execute_in c n s answers in execute_in c o.steps s answers
      ≡ followed o (halted o.state (ending_of (turn_of o.state.status))))
  exactly n s answers used =
      let o : Outcome = execute_in c n s answers in
      let none : o.steps ≡ o.steps + 0 = omega arith in
      ap (λ (m : ℕ). execute_in c m s answers) none
      ∙ ap (λ (xs : List Answer). execute_in c (o.steps + 0) s xs) (sym (append-nil answers))
      ∙ continues n s answers used 0 []
      ∙ ap (λ (x : Outcome). followed o x) (without_steps c o.state)

  -- ---- no answer is used that can't be taken

  abbrev Taken : ℕ → State → List Answer → Outcome → Type 0
  Taken n s answers o = o.answers ≡ []
      → AllByRecursion (λ a. answer_fault (env c).types a ≡ None) answers

  rests_taken : (n : ℕ) (s : State) (answers : List Answer) (ending : Ending)
      → Rests c n s answers ending → Taken n s answers (at_rest s answers ending)
  rests_taken n s [] ending rests used = tt
  rests_taken n s (a ∷ answers) ending rests used = absurd cc

  pub used_are_taken : (n : ℕ) (s : State) (answers : List Answer)
      → Taken n s answers (execute_in c n s answers)
  used_are_taken = every_run c Taken (record {
    rests = rests_taken;
    steps = λ n s answers e o running is behind used. behind used;
    answers = λ n s r a rest o asks fine behind used. (fine, behind used);
  })

  -- ---- without answers none is left

  abbrev LeavesNone : ℕ → State → List Answer → Outcome → Type 0
  LeavesNone n s answers o = answers ≡ [] → o.answers ≡ []

  pub leaves_none : (n : ℕ) (s : State) (answers : List Answer)
      → LeavesNone n s answers (execute_in c n s answers)
  leaves_none = every_run c LeavesNone (record {
    rests = λ n s answers ending rests e. e;
    steps = λ n s answers e o running is behind none. behind none;
    answers = λ n s r a rest o asks fine behind none. absurd cc;
  })

  -- ---- answers that are left over

  -- the outcome, with these answers left as well
  abbrev pub with_left : List Answer → Outcome → Outcome
  with_left others o = record o { answers = o.answers ++ others }

  abbrev Ignores : ℕ → State → List Answer → Outcome → Type 0
  Ignores n s answers o = o.ending ≢ Waiting → (others : List Answer)
      → execute_in c n s (answers ++ others) ≡ with_left others o

  pub ignores : (n : ℕ) (s : State) (answers : List Answer)
      → Ignores n s answers (execute_in c n s answers)
  ignores = every_run c Ignores (record {
    rests = λ n s answers ending rests other others. rests.more other others;
    steps = λ n s answers e o running is behind other others.
        goes_so n s (answers ++ others) e running is
        ∙ ap (λ (p : Outcome). stepped (preceded (request_in e.emitted) e.changes p))
        (behind other others);
    answers = λ n s r a rest o asks fine behind other others.
        met_so n s r a (rest ++ others) asks fine
        ∙ ap (λ (p : Outcome). preceded [] (answered s a).changes p) (behind other others);
  })
