-- A pending request is met by the next answer.
use Rattle.std.proofs.Common.{◌≡◌, refl, sym, ap, ◌∙◌, ℕ, zero, suc, ℤ, List, [], ◌∷◌, ◌++◌, Option, Some, None, append_assoc, append-nil, subst}
use Rattle.std.specs.Prelude.{unwrap_or}
use Rattle.edd_syntax.specs.Answers.{Change, Answer, Go, Abort, SetFault, answer_fault, values_set}
use Rattle.edd_instructions.specs.declared.requests.Request.{Request}
use Rattle.edd_instructions.specs.declared.records.Status.{Status}
use Rattle.edd_instructions.specs.declared.records.Status.TheVariants.{Running, Asking}
use Rattle.edd_instructions.specs.Steps.{State, Environment, Effect, step}
use Rattle.edd_instructions.specs.Execution.{Ending, Aborted, Waiting, OutOfSteps, Bad, Outcome, Meeting, answered, nothing_met, after_answer, meet_request, closed, request_in, preceded, go_on, unchanged, execute_following, execute}

module _ (env : Environment) (s : State) (r : Request) where
  pub waits : (k : ℕ) → execute env k (record s { status = Asking r }) []
      ≡ record {
        requests = [];
        changes = [];
        state = record s { status = Asking r };
        answers = [];
        ending = Waiting;
        steps = 0;
      }
  unfolding execute execute_following
  waits zero = refl
  waits (suc k) = refl

  pub aborts : (k : ℕ) (rest : List Answer)
      → execute env k (record s { status = Asking r }) (Abort ∷ rest)
      ≡ record {
        requests = [];
        changes = [];
        state = (answered (record s { status = Asking r }) Abort).state;
        answers = rest;
        ending =
            Aborted;
        steps = 0;
      }
  unfolding execute execute_following
  aborts zero rest = refl
  aborts (suc k) rest = refl

  same_outcome : (c c' : List Change) (t : State) (left : List Answer) (e : Ending) → c ≡ c'
      → ◌≡◌ {A = Outcome} (record {
        requests = [];
        changes = c;
        state = t;
        answers = left;
        ending = e;
        steps = 0;
      })
      (record { requests = []; changes = c'; state = t; answers = left; ending = e; steps = 0 })
  same_outcome c c' t left e is =
      ap (λ (x : List Change). record {
        requests = [];
        changes = x;
        state = t;
        answers = left;
        ending = e;
        steps = 0;
      }) is

  by_step : (sets : List Change) (t : State) (rest : List Answer) (x : Option Effect)
      (behind : Effect → Outcome)
      → go_on (record { changes = sets; state = t; answers = rest; ending = None }) None x behind
      ≡ preceded [] sets (go_on (nothing_met t rest None) None x behind)
  by_step sets t rest None behind = same_outcome sets (sets ++ []) t rest _ (sym (append-nil sets))
  by_step sets t rest (Some e) behind =
      ap (λ (cs : List Change). record (behind e) {
        requests = request_in e.emitted
            ++ (behind e).requests;
        changes = cs;
        steps = suc (behind e).steps;
      })
      (append_assoc sets e.changes (behind e).changes)

  -- an answer that can be taken is taken
  taken : (code : ℤ) (sets : List Change) (rest : List Answer)
      → answer_fault env.types (Go code sets) ≡ None
      → meet_request unchanged env (record s { status = Asking r }) (Go code sets ∷ rest)
      ≡ record {
        changes = sets;
        state = record s {
          operands = code ∷ s.operands;
          values = values_set s.values sets;
          status = Running;
        };
        answers = rest;
        ending = None;
      }
  taken code sets rest valid =
      ap (λ (fault : Option SetFault). elim fault [
        | Some f ↦ nothing_met (record s { status = Asking r }) (Go code sets ∷ rest)
            (Some (Bad f))
        | None ↦ after_answer unchanged
            (answered (record s { status = Asking r }) (Go code sets)) rest
      ]) valid

  pub goes_on : (k : ℕ) (code : ℤ) (sets : List Change) (rest : List Answer)
      → answer_fault env.types (Go code sets) ≡ None
      → execute env k (record s { status = Asking r }) (Go code sets ∷ rest)
      ≡ preceded [] sets (execute env k
      (record s {
        operands = code ∷ s.operands;
        values = values_set s.values sets;
        status = Running;
      }) rest)
  unfolding execute execute_following
  goes_on zero code sets rest valid =
      ap (λ (m : Meeting). closed m (unwrap_or m.ending OutOfSteps)) (taken code sets rest valid)
      ∙ same_outcome sets (sets ++ []) _ rest _ (sym (append-nil sets))
  goes_on (suc k) code sets rest valid =
      ap (λ (m : Meeting). go_on m m.ending (step env m.state)
      (λ e. execute env k e.state m.answers)) (taken code sets rest valid)
      ∙ by_step sets (record s {
        operands = code ∷ s.operands;
        values = values_set s.values sets;
        status = Running;
      }) rest
      (step env (record s {
        operands = code ∷ s.operands;
        values = values_set s.values sets;
        status = Running;
      })) (λ e. execute env k e.state rest)

-- ---- the same of any state that asks

asks_so : (s : State) (r : Request) → s.status ≡ Asking r → record s { status = Asking r } ≡ s
asks_so s r e = ap (λ (st : Status). record s { status = st }) (sym e)

module _ (env : Environment) (s : State) (r : Request) (asks : s.status ≡ Asking r) (k : ℕ) where
  pub waiting : execute env k s [] ≡ closed (nothing_met s [] None) Waiting
  waiting = subst (λ (t : State). execute env k t [] ≡ closed (nothing_met t [] None) Waiting)
      (asks_so s r asks) (waits env s r k)

  pub aborted : (rest : List Answer) → execute env k s (Abort ∷ rest)
      ≡ closed (nothing_met (answered s Abort).state rest None) Aborted
  aborted rest =
      subst (λ (t : State). execute env k t (Abort ∷ rest)
      ≡ closed (nothing_met (answered t Abort).state rest None) Aborted) (asks_so s r asks)
      (aborts env s r k rest)

  pub going_on : (code : ℤ) (sets : List Change) (rest : List Answer)
      → answer_fault env.types (Go code sets) ≡ None
      → execute env k s (Go code sets ∷ rest)
      ≡ preceded [] sets (execute env k (answered s (Go code sets)).state rest)
  going_on code sets rest valid =
      subst (λ (t : State). execute env k t (Go code sets ∷ rest)
      ≡ preceded [] sets (execute env k (answered t (Go code sets)).state rest))
      (asks_so s r asks)
      (goes_on env s r k code sets rest valid)
