-- In a valid unit under valid answers a run keeps what states keep, is never stuck and meets no bad
-- answer.
use Rattle.std.proofs.Common.{◌≡◌, refl, sym, subst, ◌∙◌, ℕ, zero, suc, List, [], ◌∷◌, Option, Some, None}
use Rattle.std.specs.Prelude.{unwrap_or, ⊤}
use Rattle.std.specs.List.{AllByRecursion}
use Rattle.edd_syntax.specs.Answers.{Answer, Go, Abort, SetFault, answer_fault, IsValidAnswer}
use Rattle.edd_instructions.specs.declared.requests.Request.{Request}
use Rattle.edd_instructions.specs.declared.records.Status.{Status}
use Rattle.edd_instructions.specs.declared.records.Status.TheVariants as status
use Rattle.edd_instructions.specs.declared.unit.Context.{Context}
use Rattle.edd_instructions.specs.Units.{IsValidUnit}
use Rattle.edd_instructions.specs.Steps.{RunningUnit, State, Environment, Effect, IsState, step}
use Rattle.edd_instructions.specs.Execution.{Ending, OutOfSteps, Bad, Outcome, Meeting, IsGoodEnding, answered, nothing_met, after_answer, meet_by, meet, closed, request_in, preceded, stepped, go_on, unchanged, execute_following, execute}
use Rattle.edd_instructions.proofs.AnsweredStates.{state_again}
use Rattle.edd_instructions.proofs.NextStates.{next_in_unit}

-- a valid answer has no fault
pub no_fault : (env : Environment) (answer : Answer) → IsValidAnswer env.types answer
    → answer_fault env.types answer ≡ None
no_fault env (Go code sets) valid = valid.1
no_fault env Abort valid = refl

module _ (context : Context) (env : Environment) where
  abbrev ValidAnswers : List Answer → Type 0
  ValidAnswers answers = AllByRecursion (IsValidAnswer env.types) answers

  abbrev GoodOption : Option Ending → Type 0
  GoodOption None = ⊤
  GoodOption (Some ending) = IsGoodEnding ending

  -- what a meeting leaves
  record Met (unit : RunningUnit) (m : Meeting) : Type 0 where
    state : IsState context env m.state
    same : m.state.unit ≡ unit
    answers : ValidAnswers m.answers
    good : GoodOption m.ending
    runs : m.ending ≡ None → m.state.status ≡ status.Running

  met_answer : (s : State) (r : Request) (a : Answer) (rest : List Answer)
      → s.status ≡ status.Asking r → IsState context env s → IsValidAnswer env.types a
      → ValidAnswers rest
      → Met s.unit (after_answer unchanged (answered s a) rest)
  met_answer s r (Go code sets) rest asks is valid others =
      record {
        state = state_again context env s r (Go code sets) is asks valid;
        same = refl;
        answers = others;
        good = tt;
        runs = λ e. refl;
      }
  met_answer s r Abort rest asks is valid others =
      record {
        state = state_again context env s r Abort is asks valid;
        same = refl;
        answers = others;
        good = tt;
        runs = λ e. absurd cc;
      }

  over : (s : State) (answers : List Answer) (ending : Ending) → IsState context env s
      → ValidAnswers answers → IsGoodEnding ending
      → Met s.unit (nothing_met s answers (Some ending))
  over s answers ending is valid good =
      record { state = is; same = refl; answers = valid; good = good; runs = λ e. absurd cc }

  met : (st : Status) (s : State) (answers : List Answer) → s.status ≡ st → IsState context env s
      → ValidAnswers answers → Met s.unit (meet_by unchanged env st s answers)
  met status.Running s answers e is valid =
      record { state = is; same = refl; answers = valid; good = tt; runs = λ x. e }
  met (status.Asking r) s [] e is valid = over s [] Ending.Waiting is valid tt
  met (status.Asking r) s (a ∷ rest) e is valid =
      subst (λ (fault : Option SetFault). Met s.unit
      (elim fault [
        | Some f ↦ nothing_met s (a ∷ rest) (Some (Bad f))
        | None ↦ after_answer unchanged (answered s a) rest
      ]))
      (sym (no_fault env a valid.0)) (met_answer s r a rest e is valid.0 valid.1)
  met status.Ended s answers e is valid = over s answers Ending.Ended is valid tt
  met status.Aborted s answers e is valid = over s answers Ending.Aborted is valid tt
  met (status.Trapped why) s answers e is valid = over s answers (Ending.Trapped why) is valid tt

  -- what a run results in
  pub record Bounded (unit : RunningUnit) (o : Outcome) : Type 0 where
    pub state : IsState context env o.state
    pub same : o.state.unit ≡ unit
    pub answers : ValidAnswers o.answers
    pub good : IsGoodEnding o.ending

  stopped : (m : Meeting) (unit : RunningUnit) (o : Option Ending) → m.ending ≡ o → Met unit m
      → Bounded unit (closed m (unwrap_or o OutOfSteps))
  stopped m unit None e is = record {
    state = is.state;
    same = is.same;
    answers = is.answers;
    good = tt;
  }
  stopped m unit (Some ending) e is =
      record {
        state = is.state;
        same = is.same;
        answers = is.answers;
        good = subst GoodOption e is.good;
      }

  behind : (unit : RunningUnit) (requests : List Request) (changes : _) (o : Outcome)
      → Bounded unit o → Bounded unit (stepped (preceded requests changes o))
  behind unit requests changes o is =
      record { state = is.state; same = is.same; answers = is.answers; good = is.good }

  -- from what a meeting leaves, where n steps more are bounded from every state
  go_on_bounded : (n : ℕ) (unit : RunningUnit) → IsValidUnit context unit.code
      → ((s : State) (answers : List Answer) → IsValidUnit context s.unit.code
      → IsState context env s → ValidAnswers answers → Bounded s.unit (execute env n s answers))
      → (m : Meeting) (o : Option Ending) → m.ending ≡ o → Met unit m
      → Bounded unit (go_on m o (step env m.state) (λ e. execute env n e.state m.answers))
  go_on_bounded n unit valid more m (Some ending) e is =
      record {
        state = is.state;
        same = is.same;
        answers = is.answers;
        good = subst GoodOption e is.good;
      }
  go_on_bounded n unit valid more m None e is =
      let next = next_in_unit context env m.state
      (subst (λ (u : RunningUnit). IsValidUnit context u.code) (sym is.same) valid) is.state
      (is.runs e) in
      let effect = next.0 in
      let here : effect.state.unit ≡ unit = next.2.1 ∙ is.same in
      let rest = more effect.state m.answers
      (subst (λ (u : RunningUnit). IsValidUnit context u.code) (sym here) valid) next.2.0
      is.answers in
      subst (λ (x : Option Effect). Bounded unit
      (go_on m None x (λ e. execute env n e.state m.answers))) (sym next.1)
      (subst (λ (u : RunningUnit). Bounded u
      (go_on m None (Some effect) (λ e. execute env n e.state m.answers))) here
      (behind effect.state.unit (request_in effect.emitted) _ (execute env n effect.state m.answers)
      rest))

  pub bounded : (n : ℕ) (s : State) (answers : List Answer) → IsValidUnit context s.unit.code
      → IsState context env s → ValidAnswers answers → Bounded s.unit (execute env n s answers)
  unfolding execute execute_following
  bounded zero s answers unit is valid =
      let m = meet unchanged env s answers in stopped m s.unit m.ending refl
      (met s.status s answers refl is valid)
  bounded (suc n) s answers unit is valid =
      let m = meet unchanged env s answers in
      go_on_bounded n s.unit unit (λ t more. bounded n t more) m m.ending refl
      (met s.status s answers refl is valid)
