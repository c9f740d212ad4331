-- A run may be cut where it is out of steps, whatever follows its steps and answers, as long as
-- that asks nothing.
use Rattle.std.proofs.Common.{◌≡◌, ℕ, zero, suc, ◌+◌, List, [], ◌∷◌, ◌++◌, Option, Some, None, refl, sym, ap, ◌∙◌, append_assoc, append-nil, arith, zero-add}
use Rattle.std.specs.Prelude.{unwrap_or}
use Rattle.edd_syntax.specs.Answers.{Change, Answer, Go, Abort, SetFault, answer_fault}
use Rattle.edd_instructions.specs.declared.requests.Request.{Request}
use Rattle.edd_instructions.specs.declared.records.Status.{Status}
use Rattle.edd_instructions.specs.declared.records.Status.TheVariants as status
use Rattle.edd_instructions.specs.Steps.{State, Environment, Effect, step}
use Rattle.edd_instructions.specs.Execution.{Ending, OutOfSteps, Outcome, Meeting, answered, over_at, after_answer, nothing_met, meet_by, meet, closed, request_in, preceded, stepped, go_on, unchanged, execute_following, execute, AsksNothing, resumed_following, resumed}

-- ---- outcomes

pub same_outcome : {r r' : List Request} {c c' : List Change} {s : State} {left : List Answer}
    {e : Ending} {n n' : ℕ} → r ≡ r' → c ≡ c' → n ≡ n'
    → ◌≡◌ {A = Outcome} (record {
      requests = r;
      changes = c;
      state = s;
      answers = left;
      ending = e;
      steps = n;
    }) (record {
      requests = r';
      changes = c';
      state = s;
      answers = left;
      ending =
          e;
      steps = n';
    })
same_outcome p q t = cc

preceded_twice : (a c : List Request) (b d : List Change) (o : Outcome)
    → preceded a b (preceded c d o) ≡ preceded (a ++ c) (b ++ d) o
preceded_twice a c b d o = same_outcome (sym (append_assoc a c o.requests))
    (sym (append_assoc b d o.changes)) refl

-- ---- meetings

not_out_at : (st : Status) → over_at st ≡ Some OutOfSteps → ⊥
not_out_at status.Running e = cc
not_out_at _ e = cc

-- a state that neither asks nor is over runs
runs_at : (st : Status) → ((r : Request) → st ≡ status.Asking r → ⊥) → over_at st ≡ None
    → st ≡ status.Running
runs_at status.Running never e = refl
runs_at (status.Asking r) never e = absurd (never r refl)
runs_at _ never e = absurd cc

-- after an answer no request is pending
pub none_stands : (s : State) (answer : Answer) (r : Request) → (answered s answer).state.status
    ≡ status.Asking r → ⊥
none_stands s (Go code sets) r e = cc
none_stands s Abort r e = cc

-- a meeting never says that steps are out
pub meeting_not_out : (follow : State → State) (env : Environment) (st : Status) (s : State)
    (answers : List Answer) → (meet_by follow env st s answers).ending ≡ Some OutOfSteps → ⊥
meeting_not_out follow env status.Running s answers e = cc
meeting_not_out follow env (status.Asking r) s [] e = cc
meeting_not_out follow env (status.Asking r) s (a ∷ rest) e = by_fault (answer_fault env.types a) e
  where
    by_fault : (fault : Option SetFault)
        → Meeting.ending (elim fault [
          | Some f ↦ nothing_met s (a ∷ rest) (Some (Ending.Bad f))
          | None ↦ after_answer follow (answered s a) rest
        ]) ≡ Some OutOfSteps → ⊥
    by_fault (Some f) e = cc
    by_fault None e = not_out_at (follow (answered s a).state).status e
meeting_not_out follow env status.Ended s answers e = cc
meeting_not_out follow env status.Aborted s answers e = cc
meeting_not_out follow env (status.Trapped why) s answers e = cc

not_out : (o : Option Ending) → (o ≡ Some OutOfSteps → ⊥) → unwrap_or o OutOfSteps ≡ OutOfSteps
    → o ≡ None
not_out None never e = refl
not_out (Some x) never e = absurd (never (ap (λ (y : Ending). Some y) e))

module _ (follow : State → State) (quiet : AsksNothing follow) (env : Environment) where
  -- where a meeting doesn't end the run, the state is running
  meeting_runs : (st : Status) (s : State) (answers : List Answer) → s.status ≡ st
      → (meet_by follow env st s answers).ending ≡ None
      → (meet_by follow env st s answers).state.status ≡ status.Running
  meeting_runs status.Running s answers is e = is
  meeting_runs (status.Asking r) s [] is e = absurd cc
  meeting_runs (status.Asking r) s (a ∷ rest) is e = by_fault (answer_fault env.types a) e
    where
      by_fault : (fault : Option SetFault)
          → Meeting.ending (elim fault [
            | Some f ↦ nothing_met s (a ∷ rest) (Some (Ending.Bad f))
            | None ↦ after_answer follow (answered s a) rest
          ]) ≡ None
          → State.status (Meeting.state
          (elim fault [
            | Some f ↦ nothing_met s (a ∷ rest) (Some (Ending.Bad f))
            | None ↦ after_answer follow (answered s a) rest
          ])) ≡ status.Running
      by_fault (Some f) e = absurd cc
      by_fault None e = runs_at (follow (answered s a).state).status
          (λ r asks. none_stands s a r (quiet (answered s a).state r asks)) e
  meeting_runs status.Ended s answers is e = absurd cc
  meeting_runs status.Aborted s answers is e = absurd cc
  meeting_runs (status.Trapped why) s answers is e = absurd cc

  -- a running state meets nothing
  meet_again : (s : State) (answers : List Answer) → s.status ≡ status.Running
      → meet follow env s answers ≡ nothing_met s answers None
  meet_again s answers e = ap (λ (st : Status). meet_by follow env st s answers) e

  -- ---- no step before the cut

  -- what comes of a meeting that leaves the state running is what comes of that state, after the
  -- meeting's changes
  from_meeting : (k : ℕ) (m : Meeting) → m.ending ≡ None → m.state.status ≡ status.Running
      → (s : State) (answers : List Answer) → meet follow env s answers ≡ m
      → execute_following follow env k s answers
      ≡ preceded [] m.changes (execute_following follow env k m.state m.answers)
  unfolding execute_following
  from_meeting zero m none runs s answers is =
      let here : execute_following follow env zero s answers ≡ closed m OutOfSteps =
      ap (λ (n : Meeting). closed n (unwrap_or n.ending OutOfSteps)) is
      ∙ ap (λ (o : Option Ending). closed m (unwrap_or o OutOfSteps)) none in
      let there : execute_following follow env zero m.state m.answers
      ≡ closed (nothing_met m.state m.answers None) OutOfSteps =
      ap (λ (n : Meeting). closed n (unwrap_or n.ending OutOfSteps))
      (meet_again m.state m.answers runs) in
      here ∙ same_outcome refl (sym (append-nil m.changes)) refl
      ∙ ap (λ (o : Outcome). preceded [] m.changes o) (sym there)
  from_meeting (suc k) m none runs s answers is =
      let behind : Meeting → Effect
      → Outcome = λ n e. execute_following follow env k (follow e.state) n.answers in
      let here : execute_following follow env (suc k) s answers ≡ go_on m None (step env m.state)
      (behind m) =
      ap (λ (n : Meeting). go_on n n.ending (step env n.state) (behind n)) is
      ∙ ap (λ (o : Option Ending). go_on m o (step env m.state) (behind m)) none in
      let bare : Meeting = nothing_met m.state m.answers None in
      let there : execute_following follow env (suc k) m.state m.answers
      ≡ go_on bare None (step env m.state) (behind m) =
      ap (λ (n : Meeting). go_on n n.ending (step env n.state) (behind n))
      (meet_again m.state m.answers runs) in
      here ∙ by_step (step env m.state) (behind m) ∙ ap (λ (o : Outcome). preceded [] m.changes o)
      (sym there)
    where
      by_step : (x : Option Effect) (behind : Effect → Outcome) → go_on m None x behind
          ≡ preceded [] m.changes (go_on (nothing_met m.state m.answers None) None x behind)
      by_step None behind = same_outcome refl (sym (append-nil m.changes)) refl
      by_step (Some e) behind =
          ap stepped (sym (preceded_twice [] (request_in e.emitted) m.changes e.changes (behind e)))

  cut_at_once : (k : ℕ) (s : State) (answers : List Answer)
      → (execute_following follow env zero s answers).ending ≡ OutOfSteps
      → execute_following follow env k s answers ≡ resumed_following follow env k
      (execute_following follow env zero s answers)
  unfolding execute_following
  cut_at_once k s answers e =
      let m = meet follow env s answers in
      let none : m.ending ≡ None = not_out m.ending (meeting_not_out follow env s.status s answers)
      e in
      from_meeting k m none (meeting_runs s.status s answers refl none) s answers refl
      ∙ same_outcome refl refl
      (sym (zero-add (execute_following follow env k m.state m.answers).steps))

  -- ---- a step before the cut

  cut_behind : (k : ℕ) (m : Meeting) (o : Option Ending) (x : Option Effect) (short long : Effect
      → Outcome) → (o ≡ Some OutOfSteps → ⊥)
      → ((e : Effect) → (short e).ending ≡ OutOfSteps
      → long e ≡ resumed_following follow env k (short e))
      → (go_on m o x short).ending ≡ OutOfSteps
      → go_on m o x long ≡ resumed_following follow env k (go_on m o x short)
  cut_behind k m (Some ending) x short long never same e =
      absurd (never (ap (λ (y : Ending). Some y) e))
  cut_behind k m None None short long never same e = absurd cc
  cut_behind k m None (Some f) short long never same e =
      let r = request_in f.emitted in
      let c = m.changes ++ f.changes in
      let o = short f in
      let rest = execute_following follow env k o.state o.answers in
      ap (λ (o' : Outcome). stepped (preceded r c o')) (same f e)
      ∙ same_outcome (sym (append_assoc r o.requests rest.requests))
      (sym (append_assoc c o.changes rest.changes)) (omega arith)

  pub cut : (j k : ℕ) (s : State) (answers : List Answer)
      → (execute_following follow env j s answers).ending ≡ OutOfSteps
      → execute_following follow env (j + k) s answers ≡ resumed_following follow env k
      (execute_following follow env j s answers)
  unfolding execute_following
  cut zero k s answers e = rw (zero-add k) (cut_at_once k s answers e)
  cut (suc j) k s answers e =
      let m = meet follow env s answers in
      let next : suc j + k ≡ suc (j + k) = omega arith in
      ap (λ (n : ℕ). execute_following follow env n s answers) next
      ∙ cut_behind k m m.ending (step env m.state)
      (λ f. execute_following follow env j (follow f.state) m.answers)
      (λ f. execute_following follow env (j + k) (follow f.state) m.answers)
      (meeting_not_out follow env s.status s answers)
      (λ f h. cut j k (follow f.state) m.answers h) e

pub cut_alone : (env : Environment) (j k : ℕ) (s : State) (answers : List Answer)
    → (execute env j s answers).ending ≡ OutOfSteps → execute env (j + k) s answers
    ≡ resumed env k (execute env j s answers)
unfolding execute
cut_alone env j k s answers e = cut unchanged (λ t r asks. asks) env j k s answers e
