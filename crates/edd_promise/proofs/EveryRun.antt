-- What holds of every run of an image under answers, by its steps and answers.
use Rattle.std.proofs.Common.{◌≡◌, ◌≢◌, refl, sym, ap, subst, ◌∙◌, ℕ, zero, suc, List, [], ◌∷◌, ◌++◌, Option, Some, None}
use Rattle.edd_syntax.specs.Answers.{Answer, SetFault, answer_fault}
use Rattle.edd_instructions.specs.declared.requests.Request.{Request}
use Rattle.edd_instructions.specs.declared.records.Status.{Status}
use Rattle.edd_instructions.specs.declared.records.Status.TheVariants as status
use Rattle.edd_image.specs.Contents.{Contents}
use Rattle.edd_instructions.specs.Reading.{environment_of}
use Rattle.edd_instructions.specs.Steps.{State, Environment, Effect, step}
use Rattle.edd_instructions.specs.Execution.{Ending, Ended, Aborted, Trapped, Waiting, OutOfSteps, Bad, Stuck, Outcome, answered, over_at, nothing_met, closed, request_in, preceded, stepped, go_on}
use Rattle.edd_instructions.specs.AbortMethods.{start_in, next, execute_in}
use Rattle.edd_instructions.proofs.Cutting.{none_stands}
use Rattle.edd_instructions.proofs.Followed.{answer_met, still_waits, still_asks, stays, goes, is_out}
use Rattle.edd_instructions.proofs.NextMethods.{next_asks_nothing}

-- nothing is done, and the answers are left
abbrev pub at_rest : State → List Answer → Ending → Outcome
at_rest s answers ending = closed (nothing_met s answers None) ending

module _ (c : Contents) where
  abbrev pub env : Environment
  env = environment_of c

  abbrev pub follow : State → State
  follow = next (start_in c)

  -- Why a run is at rest at once: under more answers it stays at rest, unless it waits; a running
  -- state has no step where it is stuck; and the next answer has a fault where it is bad.
  pub record Rests (n : ℕ) (s : State) (answers : List Answer) (ending : Ending) : Type 0 where
    pub more : ending ≢ Waiting → (others : List Answer)
        → execute_in c n s (answers ++ others) ≡ at_rest s (answers ++ others) ending
    pub stuck : ending ≡ Stuck → (s.status ≡ status.Running) × (step env s ≡ None)
    pub bad : (f : SetFault) → ending ≡ Bad f → (a : Answer) × (rest : List Answer)
        × (answers ≡ a ∷ rest) × (answer_fault env.types a ≡ Some f)

  -- a property of the results of runs that goes from the rest of a run to the whole of it
  pub record IsKept (P : ℕ → State → List Answer → Outcome → Type 0) : Type 0 where
    pub rests : (n : ℕ) (s : State) (answers : List Answer) (ending : Ending)
        → Rests n s answers ending → P n s answers (at_rest s answers ending)
    pub steps : (n : ℕ) (s : State) (answers : List Answer) (e : Effect) (o : Outcome)
        → s.status ≡ status.Running → step env s ≡ Some e → P n (follow e.state) answers o
        → P (suc n) s answers (stepped (preceded (request_in e.emitted) e.changes o))
    pub answers : (n : ℕ) (s : State) (r : Request) (a : Answer) (rest : List Answer) (o : Outcome)
        → s.status ≡ status.Asking r → answer_fault env.types a ≡ None
        → P n (follow (answered s a).state) rest o
        → P n s (a ∷ rest) (preceded [] (answered s a).changes o)

  module _ (P : ℕ → State → List Answer → Outcome → Type 0) (kept : IsKept P) where
    abbrev Holds : ℕ → State → List Answer → Type 0
    Holds n s answers = P n s answers (execute_in c n s answers)

    at_end : (n : ℕ) (s : State) (answers : List Answer) (ending : Ending)
        → over_at s.status ≡ Some ending → (ending ≡ Stuck → ⊥)
        → ((f : SetFault) → ending ≡ Bad f → ⊥) → Holds n s answers
    at_end n s answers ending over good fine =
        subst (λ (o : Outcome). P n s answers o)
        (sym (stays follow (next_asks_nothing (start_in c)) env s answers ending over n))
        (kept.rests n s answers ending (record {
          more = λ other others. stays follow (next_asks_nothing (start_in c)) env s
              (answers ++ others) ending over n;
          stuck = λ e. absurd (good e);
          bad = λ f e. absurd (fine f e);
        }))

    -- the states in which no request is pending
    quiet_state : (n : ℕ) → ((s : State) (answers : List Answer) → s.status ≡ status.Running
        → Holds n s answers) → (s : State) (answers : List Answer) (st : Status) → s.status ≡ st
        → ((r : Request) → s.status ≡ status.Asking r → ⊥) → Holds n s answers
    quiet_state n runs s answers status.Running is never = runs s answers is
    quiet_state n runs s answers (status.Asking r) is never = absurd (never r is)
    quiet_state n runs s answers status.Ended is never =
        at_end n s answers Ended (ap over_at is) (λ e. cc) (λ f e. cc)
    quiet_state n runs s answers status.Aborted is never =
        at_end n s answers Aborted (ap over_at is) (λ e. cc) (λ f e. cc)
    quiet_state n runs s answers (status.Trapped why) is never =
        at_end n s answers (Trapped why) (ap over_at is) (λ e. cc) (λ f e. cc)

    asking : (n : ℕ) → ((s : State) (answers : List Answer) → s.status ≡ status.Running
        → Holds n s answers) → (s : State) (r : Request) (answers : List Answer)
        → s.status ≡ status.Asking r → Holds n s answers
    asking n runs s r [] asks =
        subst (λ (o : Outcome). P n s [] o)
        (sym (still_waits follow (next_asks_nothing (start_in c)) env s r asks n))
        (kept.rests n s [] Waiting (record {
          more = λ other others. absurd (other refl);
          stuck = λ e. absurd cc;
          bad = λ f e. absurd cc;
        }))
    asking n runs s r (a ∷ rest) asks = by_fault (answer_fault env.types a) refl
      where
        by_fault : (fault : Option SetFault) → answer_fault env.types a ≡ fault
            → Holds n s (a ∷ rest)
        by_fault (Some f) is =
            subst (λ (o : Outcome). P n s (a ∷ rest) o)
            (sym (still_asks follow (next_asks_nothing (start_in c)) env s r asks a rest f is n))
            (kept.rests n s (a ∷ rest) (Bad f) (record {
              more = λ other others. still_asks follow (next_asks_nothing (start_in c)) env s r
                  asks a (rest ++ others) f is n;
              stuck = λ e. absurd cc;
              bad = λ g e. let same : f ≡ g = cc in (
                a,
                rest,
                refl,
                is ∙ ap (λ (x : SetFault).
                    Some x) same,
              );
            }))
        by_fault None is =
            let t : State = follow (answered s a).state in
            subst (λ (o : Outcome). P n s (a ∷ rest) o)
            (sym (answer_met follow (next_asks_nothing (start_in c)) env s r asks a rest is n))
            (kept.answers n s r a rest (execute_in c n t rest) asks is
            (quiet_state n runs t rest t.status refl
            (λ q e. none_stands s a q (next_asks_nothing (start_in c) (answered s a).state q e))))

    by_state : (n : ℕ) → ((s : State) (answers : List Answer) → s.status ≡ status.Running
        → Holds n s answers) → (s : State) (answers : List Answer) (st : Status) → s.status ≡ st
        → Holds n s answers
    by_state n runs s answers status.Running is = runs s answers is
    by_state n runs s answers (status.Asking r) is = asking n runs s r answers is
    by_state n runs s answers (status.Trapped why) is =
        quiet_state n runs s answers (status.Trapped why) is
        (λ r e. let no_such : status.Trapped why ≡ status.Asking r = sym is ∙ e in cc)
    by_state n runs s answers x is =
        quiet_state n runs s answers x is (λ r e. let no_such : x
        ≡ status.Asking r = sym is ∙ e in cc)

    without_steps : (s : State) (answers : List Answer) → s.status ≡ status.Running
        → Holds zero s answers
    without_steps s answers running =
        subst (λ (o : Outcome). P zero s answers o)
        (sym (is_out follow (next_asks_nothing (start_in c)) env s answers running))
        (kept.rests zero s answers OutOfSteps (record {
          more = λ other others. is_out follow (next_asks_nothing (start_in c)) env s
              (answers ++ others) running;
          stuck = λ e. absurd cc;
          bad = λ f e. absurd cc;
        }))

    with_step : (n : ℕ) → ((s : State) (answers : List Answer) → Holds n s answers) → (s : State)
        (answers : List Answer) → s.status ≡ status.Running → Holds (suc n) s answers
    with_step n behind s answers running = by_step (step env s) refl
      where
        goes_so : (x : Option Effect) → step env s ≡ x → (left : List Answer)
            → execute_in c (suc n) s left ≡ go_on (nothing_met s left None) None x
            (λ e. execute_in c n (follow e.state) left)
        goes_so x is left =
            goes follow (next_asks_nothing (start_in c)) env s left running n
            ∙ ap (λ (y : Option Effect). go_on (nothing_met s left None) None y
            (λ e. execute_in c n (follow e.state) left)) is

        by_step : (x : Option Effect) → step env s ≡ x → Holds (suc n) s answers
        by_step None is =
            subst (λ (o : Outcome). P (suc n) s answers o) (sym (goes_so None is answers))
            (kept.rests (suc n) s answers Stuck (record {
              more = λ other others. goes_so None is (answers ++ others);
              stuck = λ e. (running, is);
              bad = λ f e. absurd cc;
            }))
        by_step (Some e) is =
            subst (λ (o : Outcome). P (suc n) s answers o) (sym (goes_so (Some e) is answers))
            (kept.steps n s answers e (execute_in c n (follow e.state) answers) running is
            (behind (follow e.state) answers))

    -- it holds of every run
    pub every_run : (n : ℕ) (s : State) (answers : List Answer) → Holds n s answers
    every_run zero s answers = by_state zero without_steps s answers s.status refl
    every_run (suc n) s answers = by_state (suc n)
        (with_step n (λ t left. every_run n t left)) s answers s.status refl
