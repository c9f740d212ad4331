-- A run in which something follows, cut where what ran alone is at rest.
use Rattle.std.proofs.Common.{◌≡◌, refl, sym, ap, subst, ◌∙◌, ℕ, zero, suc, ◌+◌, List, [], ◌∷◌, ◌++◌, Option, Some, None, append_assoc, append-nil, arith, zero-add}
use Rattle.std.specs.Prelude.{unwrap_or}
use Rattle.edd_syntax.specs.Answers.{Change, Answer, SetFault, answer_fault}
use Rattle.edd_instructions.specs.declared.requests.Request.{Request}
use Rattle.edd_instructions.specs.declared.records.Status.{Status}
use Rattle.edd_instructions.specs.declared.records.Status.TheVariants as status
use Rattle.edd_instructions.specs.Steps.{State, Environment, Effect, step}
use Rattle.edd_instructions.specs.Execution.{Ending, Ended, Aborted, Trapped, Waiting, OutOfSteps, Bad, Stuck, Outcome, Meeting, answered, over_at, after_answer, nothing_met, meet_by, meet, closed, request_in, preceded, stepped, go_on, unchanged, execute_following, AsksNothing}
use Rattle.edd_instructions.proofs.Cutting.{same_outcome, none_stands}

-- one outcome after another
abbrev pub followed : Outcome → Outcome → Outcome
followed o rest = record (preceded o.requests o.changes rest) { steps = o.steps + rest.steps }

-- ---- an answer

-- what comes of a meeting with changes is what comes of it without, after them
changes_first : (c : List Change) (t : State) (rest : List Answer) (o : Option Ending)
    (x : Option Effect) (behind : Effect → Outcome)
    → go_on (record { changes = c; state = t; answers = rest; ending = o }) o x behind
    ≡ preceded [] c (go_on (nothing_met t rest o) o x behind)
changes_first c t rest (Some e) x behind = same_outcome refl (sym (append-nil c)) refl
changes_first c t rest None None behind = same_outcome refl (sym (append-nil c)) refl
changes_first c t rest None (Some e) behind =
    same_outcome refl (append_assoc c e.changes (behind e).changes) refl

module _ (follow : State → State) (quiet : AsksNothing follow) (env : Environment) where
  -- a state in which no request is pending meets none
  meets_nothing : (st : Status) (t : State) (answers : List Answer)
      → ((r : Request) → st ≡ status.Asking r → ⊥)
      → meet_by follow env st t answers ≡ nothing_met t answers (over_at st)
  meets_nothing (status.Asking r) t answers never = absurd (never r refl)
  meets_nothing _ t answers never = refl

  module _ (s : State) (r : Request) (asks : s.status ≡ status.Asking r) (x : Answer)
      (rest : List Answer) (valid : answer_fault env.types x ≡ None) where
    abbrev behind_it : State
    behind_it = follow (answered s x).state

    met : meet follow env s (x ∷ rest) ≡ after_answer follow (answered s x) rest
    met = ap (λ (st : Status). meet_by follow env st s (x ∷ rest)) asks
        ∙ ap (λ (fault : Option SetFault). elim fault [
          | Some f ↦ nothing_met s (x ∷ rest) (Some (Bad f))
          | None ↦ after_answer follow (answered s x) rest
        ]) valid

    none_met : meet follow env behind_it rest
        ≡ nothing_met behind_it rest (over_at behind_it.status)
    none_met = meets_nothing behind_it.status behind_it rest
        (λ q is. none_stands s x q (quiet (answered s x).state q is))

    -- a pending request is met by the next answer, and the run goes on from what follows
    pub answer_met : (k : ℕ) → execute_following follow env k s (x ∷ rest)
        ≡ preceded [] (answered s x).changes (execute_following follow env k behind_it rest)
    unfolding execute_following
    answer_met zero =
        ap (λ (m : Meeting). closed m (unwrap_or m.ending OutOfSteps)) met
        ∙ same_outcome refl (sym (append-nil (answered s x).changes)) refl
        ∙ ap (λ (o : Outcome). preceded [] (answered s x).changes o)
        (sym (ap (λ (m : Meeting). closed m (unwrap_or m.ending OutOfSteps)) none_met))
    answer_met (suc k) =
        ap (λ (m : Meeting). go_on m m.ending (step env m.state)
        (λ e. execute_following follow env k (follow e.state) m.answers)) met
        ∙ changes_first (answered s x).changes behind_it rest (over_at behind_it.status)
        (step env behind_it) (λ e. execute_following follow env k (follow e.state) rest)
        ∙ ap (λ (o : Outcome). preceded [] (answered s x).changes o)
        (sym (ap (λ (m : Meeting). go_on m m.ending (step env m.state)
        (λ e. execute_following follow env k (follow e.state) m.answers)) none_met))

  -- a request without an answer waits
  pub still_waits : (s : State) (r : Request) → s.status ≡ status.Asking r → (k : ℕ)
      → execute_following follow env k s [] ≡ closed (nothing_met s [] None) Waiting
  unfolding execute_following
  still_waits s r asks zero = ap (λ (st : Status). let m = meet_by follow env st s [] in
      closed m (unwrap_or m.ending OutOfSteps)) asks
  still_waits s r asks (suc k) = ap (λ (st : Status). let m = meet_by follow env st s [] in
      go_on m m.ending (step env m.state)
      (λ e. execute_following follow env k (follow e.state) m.answers)) asks

  -- an answer that can't be taken stays
  pub still_asks : (s : State) (r : Request) → s.status ≡ status.Asking r → (x : Answer)
      (rest : List Answer) (f : SetFault) → answer_fault env.types x ≡ Some f → (k : ℕ)
      → execute_following follow env k s (x ∷ rest)
      ≡ closed (nothing_met s (x ∷ rest) None) (Bad f)
  unfolding execute_following
  still_asks s r asks x rest f bad = by_steps
    where
      met_so : meet follow env s (x ∷ rest) ≡ nothing_met s (x ∷ rest) (Some (Bad f))
      met_so = ap (λ (st : Status). meet_by follow env st s (x ∷ rest)) asks
          ∙ ap (λ (fault : Option SetFault). elim fault [
            | Some g ↦ nothing_met s (x ∷ rest) (Some (Bad g))
            | None ↦ after_answer follow (answered s x) rest
          ]) bad

      by_steps : (k : ℕ) → execute_following follow env k s (x ∷ rest)
          ≡ closed (nothing_met s (x ∷ rest) None) (Bad f)
      by_steps zero = ap (λ (m : Meeting). closed m (unwrap_or m.ending OutOfSteps)) met_so
      by_steps (suc k) = ap (λ (m : Meeting). go_on m m.ending (step env m.state)
          (λ e. execute_following follow env k (follow e.state) m.answers)) met_so

  -- a state that is over stays
  pub stays : (s : State) (answers : List Answer) (ending : Ending)
      → over_at s.status ≡ Some ending → (k : ℕ) → execute_following follow env k s answers
      ≡ closed (nothing_met s answers None) ending
  unfolding execute_following
  stays s answers ending over = by_steps
    where
      by_status : (st : Status) → over_at st ≡ Some ending → meet_by follow env st s answers
          ≡ nothing_met s answers (Some ending)
      by_status status.Running e = absurd (cc e)
      by_status (status.Asking r) e = absurd (cc e)
      by_status status.Ended e = ap (nothing_met s answers) e
      by_status status.Aborted e = ap (nothing_met s answers) e
      by_status (status.Trapped why) e = ap (nothing_met s answers) e

      by_steps : (k : ℕ) → execute_following follow env k s answers
          ≡ closed (nothing_met s answers None) ending
      by_steps zero = ap (λ (m : Meeting). closed m (unwrap_or m.ending OutOfSteps))
          (by_status s.status over)
      by_steps (suc k) = ap (λ (m : Meeting). go_on m m.ending (step env m.state)
          (λ e. execute_following follow env k (follow e.state) m.answers))
          (by_status s.status over)

  -- a running state goes on with its step
  pub goes : (s : State) (answers : List Answer) → s.status ≡ status.Running → (k : ℕ)
      → execute_following follow env (suc k) s answers
      ≡ go_on (nothing_met s answers None) None (step env s)
      (λ e. execute_following follow env k (follow e.state) answers)
  unfolding execute_following
  goes s answers runs k = ap (λ (st : Status). let m = meet_by follow env st s answers in
      go_on m m.ending (step env m.state)
      (λ e. execute_following follow env k (follow e.state) m.answers)) runs

  pub is_out : (s : State) (answers : List Answer) → s.status ≡ status.Running
      → execute_following follow env zero s answers
      ≡ closed (nothing_met s answers None) OutOfSteps
  unfolding execute_following
  is_out s answers runs = ap (λ (st : Status). let m = meet_by follow env st s answers in
      closed m (unwrap_or m.ending OutOfSteps)) runs

-- ---- the cut where what ran alone is at rest

-- it runs, or asks
abbrev pub IsLive : Status → Type 0
IsLive status.Running = Unit {0}
IsLive (status.Asking r) = Unit {0}
IsLive status.Ended = ⊥
IsLive status.Aborted = ⊥
IsLive (status.Trapped why) = ⊥

asks_itself : AsksNothing unchanged
asks_itself s r asks = asks

module _ (follow : State → State) (quiet : AsksNothing follow)
    (live : (s : State) → IsLive s.status → follow s ≡ s) (env : Environment) where
  abbrev F : ℕ → State → List Answer → Outcome
  F = execute_following follow env

  -- with j steps more after what o says, from a state on
  abbrev Along : ℕ → State → List Answer → Outcome → Type 0
  Along j s answers o = F (o.steps + j) s answers ≡ followed o (F j (follow o.state) o.answers)

  abbrev at_rest : State → List Answer → Ending → Outcome
  at_rest s answers ending = closed (nothing_met s answers None) ending

  abbrev alone : ℕ → State → List Answer → Outcome
  alone = execute_following unchanged env

  -- nothing was done before the cut
  at_once : (j : ℕ) (s t : State) (answers : List Answer) (ending : Ending) → follow s ≡ t
      → Along j t answers (at_rest s answers ending)
  at_once j s t answers ending same =
      ap (λ (n : ℕ). F n t answers) (zero-add j)
      ∙ same_outcome refl refl (sym (zero-add (F j t answers).steps))
      ∙ ap (λ (u : State). followed (at_rest s answers ending) (F j u answers)) (sym same)

  step_first : (j : ℕ) (s : State) (answers : List Answer) (o : Outcome) (e : Effect)
      → s.status ≡ status.Running → step env s ≡ Some e → Along j (follow e.state) answers o
      → Along j s answers (stepped (preceded (request_in e.emitted) ([] ++ e.changes) o))
  step_first j s answers o e runs is more =
      let r = request_in e.emitted in
      let rest = F j (follow o.state) o.answers in
      let next : suc o.steps + j ≡ suc (o.steps + j) = omega arith in
      ap (λ (n : ℕ). F n s answers) next ∙ goes follow quiet env s answers runs (o.steps + j)
      ∙ ap (λ (x : Option Effect). go_on (nothing_met s answers None) None x
      (λ f. F (o.steps + j) (follow f.state) answers)) is
      ∙ ap (λ (p : Outcome). stepped (preceded r e.changes p)) more
      ∙ same_outcome (sym (append_assoc r o.requests rest.requests))
      (sym (append_assoc e.changes o.changes rest.changes)) (omega arith)

  abbrev Cut : ℕ → Type 0
  Cut k = (j : ℕ) (s : State) (answers : List Answer) → IsLive s.status
      → Along j s answers (alone k s answers)

  -- from what a step or an answer resulted in
  behind : (k : ℕ) → Cut k → (j : ℕ) (t : State) (answers : List Answer) (st : Status)
      → t.status ≡ st → Along j (follow t) answers (alone k t answers)
  behind k cut j t answers status.Ended is =
      subst (λ (o : Outcome). Along j (follow t) answers o)
      (sym (stays unchanged asks_itself env t answers Ended (ap over_at is) k))
      (at_once j t (follow t) answers Ended refl)
  behind k cut j t answers status.Aborted is =
      subst (λ (o : Outcome). Along j (follow t) answers o)
      (sym (stays unchanged asks_itself env t answers Aborted (ap over_at is) k))
      (at_once j t (follow t) answers Aborted refl)
  behind k cut j t answers (status.Trapped why) is =
      subst (λ (o : Outcome). Along j (follow t) answers o)
      (sym (stays unchanged asks_itself env t answers (Trapped why) (ap over_at is) k))
      (at_once j t (follow t) answers (Trapped why) refl)
  behind k cut j t answers _ is =
      let l : IsLive t.status = subst IsLive (sym is) tt in
      subst (λ (u : State). Along j u answers (alone k t answers)) (sym (live t l))
      (cut j t answers l)

  by_step : (k : ℕ) → Cut k → (j : ℕ) (s : State) (answers : List Answer)
      → s.status ≡ status.Running → (x : Option Effect) → step env s ≡ x
      → Along j s answers (go_on (nothing_met s answers None) None x
      (λ e. alone k e.state answers))
  by_step k cut j s answers runs None is =
      at_once j s s answers Stuck (live s (subst IsLive (sym runs) tt))
  by_step k cut j s answers runs (Some e) is =
      step_first j s answers (alone k e.state answers) e runs is
      (behind k cut j e.state answers e.state.status refl)

  running : (k : ℕ) → Cut k → (j : ℕ) (s : State) (answers : List Answer)
      → s.status ≡ status.Running → Along j s answers (alone (suc k) s answers)
  running k cut j s answers runs =
      subst (λ (o : Outcome). Along j s answers o)
      (sym (goes unchanged asks_itself env s answers runs k))
      (by_step k cut j s answers runs (step env s) refl)

  running_out : (j : ℕ) (s : State) (answers : List Answer) → s.status ≡ status.Running
      → Along j s answers (alone zero s answers)
  running_out j s answers runs =
      subst (λ (o : Outcome). Along j s answers o)
      (sym (is_out unchanged asks_itself env s answers runs))
      (at_once j s s answers OutOfSteps (live s (subst IsLive (sym runs) tt)))

  -- a pending request is met first
  asking : (k j : ℕ) (s : State) (r : Request) (answers : List Answer)
      → s.status ≡ status.Asking r
      → ((t : State) (rest : List Answer) → t.status ≡ status.Running
      → Along j t rest (alone k t rest)) → Along j s answers (alone k s answers)
  asking k j s r [] asks more =
      subst (λ (o : Outcome). Along j s [] o)
      (sym (still_waits unchanged asks_itself env s r asks k))
      (at_once j s s [] Waiting (live s (subst IsLive (sym asks) tt)))
  asking k j s r (x ∷ rest) asks more = by_fault (answer_fault env.types x) refl
    where
      on : (t : State) (st : Status) → t.status ≡ st
          → ((q : Request) → t.status ≡ status.Asking q → ⊥)
          → Along j (follow t) rest (alone k t rest)
      on t status.Running is never =
          subst (λ (u : State). Along j u rest (alone k t rest))
          (sym (live t (subst IsLive (sym is) tt))) (more t rest is)
      on t (status.Asking q) is never = absurd (never q is)
      on t status.Ended is never =
          subst (λ (o : Outcome). Along j (follow t) rest o)
          (sym (stays unchanged asks_itself env t rest Ended (ap over_at is) k))
          (at_once j t (follow t) rest Ended refl)
      on t status.Aborted is never =
          subst (λ (o : Outcome). Along j (follow t) rest o)
          (sym (stays unchanged asks_itself env t rest Aborted (ap over_at is) k))
          (at_once j t (follow t) rest Aborted refl)
      on t (status.Trapped why) is never =
          subst (λ (o : Outcome). Along j (follow t) rest o)
          (sym (stays unchanged asks_itself env t rest (Trapped why) (ap over_at is) k))
          (at_once j t (follow t) rest (Trapped why) refl)

      by_fault : (fault : Option SetFault) → answer_fault env.types x ≡ fault
          → Along j s (x ∷ rest) (alone k s (x ∷ rest))
      by_fault (Some f) is =
          subst (λ (o : Outcome). Along j s (x ∷ rest) o)
          (sym (still_asks unchanged asks_itself env s r asks x rest f is k))
          (at_once j s s (x ∷ rest) (Bad f) (live s (subst IsLive (sym asks) tt)))
      by_fault None is =
          let t = (answered s x).state in
          let c = (answered s x).changes in
          let o = alone k t rest in
          subst (λ (p : Outcome). Along j s (x ∷ rest) p)
          (sym (answer_met unchanged asks_itself env s r asks x rest is k))
          (answer_met follow quiet env s r asks x rest is (o.steps + j)
          ∙ ap (λ (p : Outcome). preceded [] c p) (on t t.status refl (none_stands s x))
          ∙ same_outcome refl (sym
          (append_assoc c o.changes (F j (follow o.state) o.answers).changes))
          refl)

  by_live : (k j : ℕ) → ((t : State) (rest : List Answer) → t.status ≡ status.Running
      → Along j t rest (alone k t rest)) → (s : State) (answers : List Answer) (st : Status)
      → s.status ≡ st → IsLive s.status → Along j s answers (alone k s answers)
  by_live k j run s answers status.Running is l = run s answers is
  by_live k j run s answers (status.Asking r) is l = asking k j s r answers is run
  by_live k j run s answers _ is l = absurd (subst IsLive is l)

  pub cut_at_rest : (k : ℕ) → Cut k
  cut_at_rest zero j s answers l = by_live zero j (running_out j) s answers s.status refl l
  cut_at_rest (suc k) j s answers l =
      by_live (suc k) j (running k (cut_at_rest k) j) s answers s.status refl l
