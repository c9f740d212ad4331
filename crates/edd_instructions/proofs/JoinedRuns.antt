-- The runs of methods' code, joined where abort methods follow, are the runs of the methods.
use Rattle.std.proofs.Common.{◌≡◌, refl, sym, ap, subst, ◌∙◌, ℕ, zero, suc, ◌+◌, ◌≤◌, Bool, true, false, ℤ, pos, List, [], ◌∷◌, ◌++◌, Option, Some, None, append_assoc, append-nil, arith}
use Rattle.std.specs.Prelude.{replicate, unwrap_or}
use Rattle.std.specs.List.{AllByRecursion}
use Rattle.edd_syntax.specs.declared.numbers.MethNo.{MethNo}
use Rattle.edd_syntax.specs.declared.numbers.StrNo.{StrNo}
use Rattle.edd_syntax.specs.declared.reference.Target.{Target}
use Rattle.edd_syntax.specs.Words.{Words}
use Rattle.edd_syntax.specs.Answers.{Change, Answer, Go, Abort, SetFault, answer_fault, IsValidAnswer}
use Rattle.edd_syntax.specs.Device as device
use Rattle.edd_syntax.specs.Item.{Description}
use Rattle.edd_syntax.specs.Statement.{Body, Nil, slots_in}
use Rattle.edd_syntax.specs.MethodState as source
use Rattle.edd_syntax.specs.MethodState.{Done, Stopped, and_then}
use Rattle.edd_syntax.specs.Execution as run
use Rattle.edd_syntax.specs.Execution.{Completion, Transcript, transcript, ended, execute_all, run_body, run_listed, after_body, body_of}
use Rattle.edd_instructions.specs.declared.requests.Request.{Request}
use Rattle.edd_instructions.specs.declared.records.Status.{Status}
use Rattle.edd_instructions.specs.declared.records.Status.TheVariants as status
use Rattle.edd_instructions.specs.Steps.{State, Environment, Effect, opening, step}
use Rattle.edd_instructions.specs.Execution.{Ending, Ended, Aborted, Trapped, Waiting, OutOfSteps, Bad, Stuck, Outcome, Meeting, answered, over_at, after_answer, nothing_met, meet_by, meet, closed, preceded, go_on, unchanged, execute_following, execute}
use Rattle.edd_instructions.specs.AbortMethods.{Start, aborting, start_listed, next_at, next}
use Rattle.edd_instructions.specs.MethodAgreement.{SameRequests, SameOutcome, started, FollowsBody}
use Rattle.edd_instructions.proofs.StepLists.{Kept, kept_twice, step_keeps}
use Rattle.edd_instructions.proofs.Followed.{IsLive, followed, stays, still_waits, is_out, cut_at_rest}
use Rattle.edd_instructions.proofs.NextMethods.{next_asks_nothing, next_of_live}
use Rattle.edd_instructions.proofs.StepCounts.{all_taken_following}

-- ---- what a run alone leaves

-- what an ending says of the status of the state, and of the answers left
abbrev pub Said : Ending → Status → List Answer → Type 0
Said Ended st answers = st ≡ status.Ended
Said Aborted st answers = st ≡ status.Aborted
Said (Trapped why) st answers = st ≡ status.Trapped why
Said Waiting st answers = (answers ≡ []) × (r : Request) × (st ≡ status.Asking r)
Said OutOfSteps st answers = st ≡ status.Running
Said (Bad fault) st answers = Unit {0}
Said Stuck st answers = Unit {0}

-- where a meeting doesn't end the run, the state is running
abbrev Met : Option Ending → Status → List Answer → Type 0
Met None st answers = st ≡ status.Running
Met (Some ending) st answers = Said ending st answers

module _ (P : Answer → Type 0) where
  -- The state is as the ending says, the answers left are among those before, and a run that is
  -- aborting stays so, with the same list.
  pub record Rests (s : State) (o : Outcome) : Type 0 where
    pub says : Said o.ending o.state.status o.answers
    pub answers : AllByRecursion P o.answers
    pub kept : Kept s o.state

  record Meets (s : State) (m : Meeting) : Type 0 where
    says : Met m.ending m.state.status m.answers
    answers : AllByRecursion P m.answers
    kept : Kept s m.state

  same : (s : State) → Kept s s
  same s = (refl, λ on. refl)

  module _ (env : Environment) where
    met_answer : (s : State) (r : Request) (x : Answer) (rest : List Answer)
        → s.status ≡ status.Asking r → AllByRecursion P (x ∷ rest)
        → (fault : Option SetFault) → Meets s (elim fault [
          | Some f ↦ nothing_met s (x ∷ rest) (Some (Bad f))
          | None ↦ after_answer unchanged (answered s x) rest
        ])
    met_answer s r x rest asks all (Some f) =
        record { says = tt; answers = all; kept = same s }
    met_answer s r (Go code sets) rest asks all None =
        record { says = refl; answers = all.1; kept = (refl, λ on. refl) }
    met_answer s r Abort rest asks all None =
        record { says = refl; answers = all.1; kept = (refl, λ on. refl) }

    met : (s : State) (answers : List Answer) (st : Status) → s.status ≡ st
        → AllByRecursion P answers → Meets s (meet_by unchanged env st s answers)
    met s answers status.Running is all = record { says = is; answers = all; kept = same s }
    met s [] (status.Asking r) is all =
        record { says = (refl, r, is); answers = all; kept = same s }
    met s (x ∷ rest) (status.Asking r) is all =
        met_answer s r x rest is all (answer_fault env.types x)
    met s answers status.Ended is all = record { says = is; answers = all; kept = same s }
    met s answers status.Aborted is all = record { says = is; answers = all; kept = same s }
    met s answers (status.Trapped why) is all = record { says = is; answers = all; kept = same s }

    rests_closed : (s : State) (m : Meeting) (o : Option Ending) → m.ending ≡ o → Meets s m
        → Rests s (closed m (unwrap_or o OutOfSteps))
    rests_closed s m None e h = record {
      says = subst (λ (x : Option Ending). Met x m.state.status m.answers) e h.says;
      answers = h.answers;
      kept = h.kept;
    }
    rests_closed s m (Some ending) e h = record {
      says = subst (λ (x : Option Ending). Met x m.state.status m.answers) e h.says;
      answers = h.answers;
      kept = h.kept;
    }

    rests_on : (n : ℕ) → ((t : State) (answers : List Answer) → AllByRecursion P answers
        → Rests t (execute_following unchanged env n t answers))
        → (s : State) (m : Meeting) (o : Option Ending) → m.ending ≡ o → Meets s m
        → (x : Option Effect) → step env m.state ≡ x
        → Rests s (go_on m o x (λ e. execute_following unchanged env n e.state m.answers))
    rests_on n more s m (Some ending) e h x is = record {
      says = subst (λ (x : Option Ending). Met x m.state.status m.answers) e h.says;
      answers = h.answers;
      kept = h.kept;
    }
    rests_on n more s m None e h None is =
        record { says = tt; answers = h.answers; kept = h.kept }
    rests_on n more s m None e h (Some f) is =
        let rest = more f.state m.answers h.answers in
        record {
          says = rest.says;
          answers = rest.answers;
          kept = kept_twice s m.state (execute_following unchanged env n f.state m.answers).state
              h.kept (kept_twice m.state f.state
              (execute_following unchanged env n f.state m.answers).state
              (step_keeps env m.state f is) rest.kept);
        }

    pub rests : (n : ℕ) (s : State) (answers : List Answer) → AllByRecursion P answers
        → Rests s (execute_following unchanged env n s answers)
    unfolding execute_following
    rests zero s answers all =
        let m = meet unchanged env s answers in
        rests_closed s m m.ending refl (met s answers s.status refl all)
    rests (suc n) s answers all =
        let m = meet unchanged env s answers in
        rests_on n (λ t left. rests n t left) s m m.ending refl
        (met s answers s.status refl all) (step env m.state) refl

-- ---- what follows

module _ (start_of : MethNo → Option Start) where
  abbrev then : Status → Bool → State → State
  then = next_at start_of

  over_stays : (t : State) (st : Status) → t.status ≡ st → (on : Bool) → t.is_aborting ≡ on
      → (then st on t ≡ t) → next start_of t ≡ t
  over_stays t st is on aborts e =
      ap (λ (x : Status). then x t.is_aborting t) is ∙ ap (λ (b : Bool). then st b t) aborts ∙ e

  -- the list that follows
  list_follows : (t : State) (methods : List MethNo) → t.abort_methods ≡ methods
      → (st : Status) → t.status ≡ st → (on : Bool) → t.is_aborting ≡ on
      → (then st on t ≡ start_listed start_of t.abort_methods t)
      → next start_of t ≡ start_listed start_of methods t
  list_follows t methods list st is on aborts e =
      ap (λ (x : Status). then x t.is_aborting t) is ∙ ap (λ (b : Bool). then st b t) aborts ∙ e
      ∙ ap (λ (ms : List MethNo). start_listed start_of ms t) list

-- ---- joined

module _ (text : StrNo → Option Words) (unit : Description Target) (start_of : MethNo
    → Option Start) (env : Environment) where
  abbrev source_env : device.Environment
  source_env = device.environment unit

  abbrev Valid : Answer → Type 0
  Valid = IsValidAnswer source_env.variables

  abbrev IsBody : MethNo → Option Start → Type 0
  IsBody m None = body_of unit m ≡ Nil
  IsBody m (Some start) = (start.slots ≡ slots_in (body_of unit m))
      × FollowsBody text source_env.variables
      (λ n s. run_body n source_env (body_of unit m) s)
      (λ k s. execute env k (started start.unit s) s.answers)

  abbrev J : ℕ → State → List Answer → Outcome
  J = execute_following (next start_of) env

  abbrev alone : ℕ → State → List Answer → Outcome
  alone = execute_following unchanged env

  -- The machine, from a state, comes within n steps or more to what is said, after what was asked
  -- and changed before.
  abbrev Comes : ℕ → Transcript → (before : List Request) → (changes : List Change) → State
      → List Answer → Type 0
  Comes n t before changes s answers =
      (k : ℕ) × (n ≤ k) × SameOutcome text t (preceded before changes (J k s answers))

  -- it gets to where a run alone came to rest, and goes on from what follows
  after_alone : (n k1 k2 : ℕ) (s : State) (answers : List Answer) → IsLive s.status
      → (before : List Request) (changes : List Change) (t : Transcript)
      → n ≤ (alone k1 s answers).steps + k2
      → SameOutcome text t (preceded (before ++ (alone k1 s answers).requests)
      (changes ++ (alone k1 s answers).changes)
      (J k2 (next start_of (alone k1 s answers).state) (alone k1 s answers).answers))
      → Comes n t before changes s answers
  after_alone n k1 k2 s answers live before changes t enough h =
      let o = alone k1 s answers in
      let rest = J k2 (next start_of o.state) o.answers in
      let whole : J (o.steps + k2) s answers ≡ followed o rest =
      cut_at_rest (next start_of) (next_asks_nothing start_of) (next_of_live start_of) env k1 k2 s
      answers live in (
        o.steps + k2,
        enough,
        subst (λ (x : Outcome). SameOutcome text t (preceded before changes x)) (sym whole)
            (record {
              requests = subst (λ (rs : List Request). SameRequests text t.requests rs)
                  (append_assoc before o.requests rest.requests) h.requests;
              changes = sym (append_assoc changes o.changes rest.changes) ∙ h.changes;
              values = h.values;
              abort_methods = h.abort_methods;
              answers = h.answers;
              ending = h.ending;
            }),
      )

  -- nothing more comes of it
  ended_there : (o : Outcome) (t : Transcript) (before : List Request) (changes : List Change)
      → SameOutcome text t (preceded before changes o) → (u : State) → u ≡ o.state
      → (rest : Outcome) → rest ≡ closed (nothing_met u o.answers None) o.ending
      → SameOutcome text t (preceded (before ++ o.requests) (changes ++ o.changes) rest)
  ended_there o t before changes h u state rest is = record {
    requests = subst (λ (rs : List Request). SameRequests text t.requests rs)
        (sym (ap (λ (x : Outcome). (before ++ o.requests) ++ x.requests) is
        ∙ append-nil (before ++ o.requests))) h.requests;
    changes = ap (λ (x : Outcome). (changes ++ o.changes) ++ x.changes) is
        ∙ append-nil (changes ++ o.changes) ∙ h.changes;
    values = ap (λ (x : Outcome). x.state.values) is ∙ ap (λ (s : State). s.values) state
        ∙ h.values;
    abort_methods = ap (λ (x : Outcome). x.state.abort_methods) is
        ∙ ap (λ (s : State). s.abort_methods) state ∙ h.abort_methods;
    answers = ap (λ (x : Outcome). x.answers) is ∙ h.answers;
    ending = ap (λ (x : Outcome). x.ending) is ∙ h.ending;
  }

  -- ---- the body of one method, from a running state

  module _ (n k1 : ℕ) (enough : n ≤ k1) (s : State) (runs : s.status ≡ status.Running)
      (answers : List Answer) (valid : AllByRecursion Valid answers) (before : List Request)
      (changes : List Change) where
    abbrev o : Outcome
    o = alone k1 s answers

    rest_of : Rests Valid s o
    rest_of = rests Valid env k1 s answers valid

    live : IsLive s.status
    live = subst IsLive (sym runs) tt

    said : (ending : Ending) → o.ending ≡ ending → Said ending o.state.status o.answers
    said ending is = subst (λ (e : Ending). Said e o.state.status o.answers) is rest_of.says

    -- where it stays over
    over : (t : Transcript) → SameOutcome text t (preceded before changes o)
        → next start_of o.state ≡ o.state → over_at o.state.status ≡ Some o.ending
        → Comes n t before changes s answers
    over t h stayed at =
        let u = next start_of o.state in
        after_alone n k1 n s answers live before changes t (omega arith)
        (ended_there o t before changes h u stayed (J n u o.answers)
        (stays (next start_of) (next_asks_nothing start_of) env u o.answers o.ending
        (ap (λ (x : State). over_at x.status) stayed ∙ at) n))

    trapped : (t : Transcript) → SameOutcome text t (preceded before changes o) → (why : _)
        → o.ending ≡ Trapped why → Comes n t before changes s answers
    trapped t h why is =
        let st = said (Trapped why) is in
        over t h (over_stays start_of o.state (status.Trapped why) st o.state.is_aborting refl refl)
        (ap over_at st ∙ ap (λ (e : Ending). Some e) (sym is))

    waiting : (t : Transcript) → SameOutcome text t (preceded before changes o)
        → o.ending ≡ Waiting → Comes n t before changes s answers
    waiting t h is =
        let st = said Waiting is in
        let u = next start_of o.state in
        let stayed : u ≡ o.state =
        next_of_live start_of o.state (subst IsLive (sym st.2) tt) in
        let none : J n u o.answers ≡ closed (nothing_met u o.answers None) o.ending =
        ap (λ (left : List Answer). J n u left) st.0
        ∙ still_waits (next start_of) (next_asks_nothing start_of) env u st.1
        (ap (λ (x : State). x.status) stayed ∙ st.2) n
        ∙ ap (λ (left : List Answer). closed (nothing_met u left None) Waiting) (sym st.0)
        ∙ ap (λ (e : Ending). closed (nothing_met u o.answers None) e) (sym is) in
        after_alone n k1 n s answers live before changes t (omega arith)
        (ended_there o t before changes h u stayed (J n u o.answers) none)

    out : (t : Transcript) → SameOutcome text t (preceded before changes o)
        → o.ending ≡ OutOfSteps → Comes n t before changes s answers
    out t h is =
        let st : o.state.status ≡ status.Running = said OutOfSteps is in
        let u = next start_of o.state in
        let stayed : u ≡ o.state = next_of_live start_of o.state (subst IsLive (sym st) tt) in
        let all : o.steps ≡ k1 = all_taken_following unchanged env k1 s answers is in
        let none : J zero u o.answers ≡ closed (nothing_met u o.answers None) o.ending =
        is_out (next start_of) (next_asks_nothing start_of) env u o.answers
        (ap (λ (x : State). x.status) stayed ∙ st)
        ∙ ap (λ (e : Ending). closed (nothing_met u o.answers None) e) (sym is) in
        after_alone n k1 zero s answers live before changes t (omega (arith, enough, all))
        (ended_there o t before changes h u stayed (J zero u o.answers) none)

    -- where its list follows
    on_with : (t : Transcript) (methods : List MethNo)
        → next start_of o.state ≡ start_listed start_of methods o.state
        → (later : List Change) → later ≡ changes ++ o.changes
        → (left : List Answer) → left ≡ o.answers
        → Comes n t (before ++ o.requests) later (start_listed start_of methods o.state) left
        → Comes n t before changes s answers
    on_with t methods is later same left given more =
        after_alone n k1 more.0 s answers live before changes t (omega (arith, more.1))
        (subst (λ (u : State). SameOutcome text t (preceded (before ++ o.requests)
        (changes ++ o.changes) (J more.0 u o.answers))) (sym is)
        (subst (λ (cs : List Change). SameOutcome text t (preceded (before ++ o.requests) cs
        (J more.0 (start_listed start_of methods o.state) o.answers))) same
        (subst (λ (x : List Answer). SameOutcome text t (preceded (before ++ o.requests) later
        (J more.0 (start_listed start_of methods o.state) x))) given more.2)))

  -- ---- the listed methods

  abbrev ListedCome : ℕ → List MethNo → Type 0
  ListedCome n methods = (s : source.State) (t : State) (before : List Request)
      → s.abort_methods ≡ methods → t.values ≡ s.values → AllByRecursion Valid s.answers
      → SameRequests text s.requests before
      → Comes n (ended (run_listed n unit methods s)) before s.changes
      (start_listed start_of methods t) s.answers

  none_listed : (n : ℕ) → ListedCome n []
  unfolding run_listed
  none_listed n s t before is values valid asked =
      let u : State = record t { status = status.Aborted; abort_methods = [] } in (
        n,
        omega arith,
        subst (λ (x : Outcome). SameOutcome text (transcript run.Aborted s)
            (preceded before s.changes x))
            (sym (stays (next start_of) (next_asks_nothing start_of) env u s.answers Aborted refl
            n))
            (record {
              requests = subst (λ (rs : List Request). SameRequests text s.requests rs)
                  (sym (append-nil before)) asked;
              changes = append-nil s.changes;
              values = values;
              abort_methods = sym is;
              answers = refl;
              ending = refl;
            }),
      )

  module _ (n : ℕ) (rest : List MethNo) (later : ListedCome n rest) where
    -- after the body of a listed method
    listed_on : (k1 : ℕ) → n ≤ k1 → (s : State) → s.status ≡ status.Running
        → s.is_aborting ≡ true → s.abort_methods ≡ rest
        → (answers : List Answer) → AllByRecursion Valid answers
        → (before : List Request) (changes : List Change)
        → (outcome : source.Outcome Completion)
        → SameOutcome text (ended outcome) (preceded before changes (alone k1 s answers))
        → Comes n (ended (and_then outcome (λ completion. run_listed n unit rest))) before changes
        s answers
    listed_on k1 enough s runs aborts list answers valid before changes (Done completion s2) h =
        let o = alone k1 s answers in
        let r = rest_of n k1 enough s runs answers valid before changes in
        let st : o.state.status ≡ status.Ended =
        said n k1 enough s runs answers valid before changes Ended h.ending in
        let left : o.state.abort_methods ≡ rest = r.kept.1 aborts ∙ list in
        on_with n k1 enough s runs answers valid before changes _ rest
        (list_follows start_of o.state rest left status.Ended st true (r.kept.0 ∙ aborts) refl)
        s2.changes (sym h.changes) s2.answers (sym h.answers)
        (later s2 o.state (before ++ o.requests) (sym h.abort_methods ∙ left) h.values
        (subst (AllByRecursion Valid) h.answers r.answers) h.requests)
    listed_on k1 enough s runs aborts list answers valid before changes
        (Stopped (source.Trapped why) s2) h =
        trapped n k1 enough s runs answers valid before changes _ h why h.ending
    listed_on k1 enough s runs aborts list answers valid before changes
        (Stopped source.Aborted s2) h =
        let o = alone k1 s answers in
        let r = rest_of n k1 enough s runs answers valid before changes in
        let st : o.state.status ≡ status.Aborted =
        said n k1 enough s runs answers valid before changes Aborted h.ending in
        over n k1 enough s runs answers valid before changes _ h
        (over_stays start_of o.state status.Aborted st true (r.kept.0 ∙ aborts) refl)
        (ap over_at st ∙ ap (λ (e : Ending). Some e) (sym h.ending))
    listed_on k1 enough s runs aborts list answers valid before changes
        (Stopped source.Waiting s2) h =
        waiting n k1 enough s runs answers valid before changes _ h h.ending
    listed_on k1 enough s runs aborts list answers valid before changes
        (Stopped source.OutOfTurns s2) h =
        out n k1 enough s runs answers valid before changes _ h h.ending

    one_listed : (m : MethNo) (o : Option Start) → IsBody m o
        → (s : source.State) (t : State) (before : List Request)
        → t.values ≡ s.values → AllByRecursion Valid s.answers
        → SameRequests text s.requests before
        → Comes n (ended (and_then (execute_all source_env (body_of unit m) n
        (run.aborting (slots_in (body_of unit m)) rest s)) (λ completion. run_listed n unit rest)))
        before s.changes (elim o [
          | Some start ↦ aborting start rest t
          | None ↦ start_listed start_of rest t
        ]) s.answers
    unfolding run.execute run_body execute
    one_listed m None empty s t before values valid asked =
        let s1 = run.aborting (slots_in (body_of unit m)) rest s in
        subst (λ (b : Body Target). Comes n (ended (and_then (execute_all source_env b n s1)
        (λ completion. run_listed n unit rest))) before s.changes
        (start_listed start_of rest t) s.answers) (sym empty)
        (later s1 t before refl values valid asked)
    one_listed m (Some start) body s t before values valid asked =
        let s1 = run.aborting (slots_in (body_of unit m)) rest s in
        let f = body.1 s1 before valid asked n in
        let same : aborting start rest t ≡ started start.unit s1 =
        ap (λ (count : ℕ). record (aborting start rest t) { slots = replicate count (pos 0) })
        body.0
        ∙ ap (λ (vs : List ℤ). record (started start.unit s1) { values = vs }) values in
        subst (λ (u : State). Comes n (ended (and_then (execute_all source_env (body_of unit m) n
        s1) (λ completion. run_listed n unit rest))) before s.changes u s.answers) (sym same)
        (listed_on f.0 f.1 (started start.unit s1) refl refl refl s.answers valid before s.changes
        (execute_all source_env (body_of unit m) n s1) f.2)

  module _ (each : (m : MethNo) → IsBody m (start_of m)) where
    pub listed_come : (n : ℕ) (methods : List MethNo) → ListedCome n methods
    unfolding run_listed
    listed_come n [] = none_listed n
    listed_come n (m ∷ rest) = λ s t before is values valid asked.
        one_listed n rest (listed_come n rest) m (start_of m) (each m) s t before values valid asked

    -- ---- a method, with its abort methods

    -- after its body
    body_on : (n k1 : ℕ) → n ≤ k1 → (s : State) → s.status ≡ status.Running
        → s.is_aborting ≡ false
        → (answers : List Answer) → AllByRecursion Valid answers
        → (outcome : source.Outcome Completion)
        → SameOutcome text (ended outcome) (preceded [] [] (alone k1 s answers))
        → Comes n (ended (after_body n unit outcome)) [] [] s answers
    body_on n k1 enough s runs first answers valid (Done completion s2) h =
        let o = alone k1 s answers in
        let r = rest_of n k1 enough s runs answers valid [] [] in
        let st : o.state.status ≡ status.Ended =
        said n k1 enough s runs answers valid [] [] Ended h.ending in
        over n k1 enough s runs answers valid [] [] _ h
        (over_stays start_of o.state status.Ended st false (r.kept.0 ∙ first) refl)
        (ap over_at st ∙ ap (λ (e : Ending). Some e) (sym h.ending))
    body_on n k1 enough s runs first answers valid (Stopped (source.Trapped why) s2) h =
        trapped n k1 enough s runs answers valid [] [] _ h why h.ending
    body_on n k1 enough s runs first answers valid (Stopped source.Aborted s2) h =
        let o = alone k1 s answers in
        let r = rest_of n k1 enough s runs answers valid [] [] in
        let st : o.state.status ≡ status.Aborted =
        said n k1 enough s runs answers valid [] [] Aborted h.ending in
        on_with n k1 enough s runs answers valid [] [] _ s2.abort_methods
        (list_follows start_of o.state s2.abort_methods h.abort_methods status.Aborted st false
        (r.kept.0 ∙ first) refl)
        s2.changes (sym h.changes) s2.answers (sym h.answers)
        (listed_come n s2.abort_methods s2 o.state o.requests refl h.values
        (subst (AllByRecursion Valid) h.answers r.answers) h.requests)
    body_on n k1 enough s runs first answers valid (Stopped source.Waiting s2) h =
        waiting n k1 enough s runs answers valid [] [] _ h h.ending
    body_on n k1 enough s runs first answers valid (Stopped source.OutOfTurns s2) h =
        out n k1 enough s runs answers valid [] [] _ h h.ending

    pub method_comes : (m : MethNo) (start : Start) → start_of m ≡ Some start
        → (n : ℕ) (values : List ℤ) (answers : List Answer) → AllByRecursion Valid answers
        → (k : ℕ) × (n ≤ k) × SameOutcome text (run.run n unit m values answers)
        (J k (opening start.unit start.slots values) answers)
    unfolding run.run run_body execute
    method_comes m start is n values answers valid =
        let body : IsBody m (Some start) = subst (IsBody m) is (each m) in
        let s = run.opening (slots_in (body_of unit m)) values answers in
        let f = body.1 s [] valid tt n in
        subst (λ (count : ℕ). (k : ℕ) × (n ≤ k) × SameOutcome text (run.run n unit m values answers)
        (J k (opening start.unit count values) answers)) (sym body.0)
        (body_on n f.0 f.1 (started start.unit s) refl refl answers valid
        (execute_all source_env (body_of unit m) n s) f.2)
