-- One step of a method, in what it reports.
use Rattle.std.proofs.Common.{◌≡◌, refl, sym, ap, subst, ◌∙◌, ℕ, zero, suc, ℤ, List, [], ◌∷◌, ◌++◌, Option, Some, arith, append_assoc, append-nil}
use Rattle.std.specs.Prelude.{map, unwrap_or}
use Rattle.edd_syntax.specs.declared.numbers.MethNo.{MethNo}
use Rattle.edd_syntax.specs.declared.numbers.StrNo.{StrNo}
use Rattle.edd_syntax.specs.declared.answer.Trap.{Trap}
use Rattle.edd_syntax.specs.Words.{Words}
use Rattle.edd_syntax.specs.Answers.{Change, Answer, Go, Abort, values_set}
use Rattle.edd_syntax.specs.MethodState as source
use Rattle.edd_syntax.specs.MethodState.{apply_sets, answered}
use Rattle.edd_instructions.specs.declared.requests.Request.{Request}
use Rattle.edd_instructions.specs.declared.records.Emitted.{Emitted}
use Rattle.edd_instructions.specs.declared.records.Emitted.TheVariants as emitted
use Rattle.edd_instructions.specs.declared.records.Status.TheVariants.{Asking, Ended, Aborted, Trapped}
use Rattle.edd_instructions.specs.declared.instruction.Instruction.{Instruction}
use Rattle.edd_instructions.specs.Decoding.{instruction_at}
use Rattle.edd_instructions.specs.Steps.{State, Environment, Effect, act, step}
use Rattle.edd_instructions.specs.Execution as image
use Rattle.edd_instructions.specs.Execution.{Outcome, OutOfSteps, Meeting, nothing_met, meet, closed, go_on, request_in, preceded, stepped, unchanged, execute_following, execute}
use Rattle.edd_code.specs.BlockEffects.{Goes}
use Rattle.edd_code.specs.Reports.{at, worded, report_after, report}
use Rattle.edd_code.specs.MethodEffects.{pushed, CanBeTaken, stopped, Comes}
use Rattle.edd_instructions.proofs.Meetings.{waits, aborts, goes_on}

-- ---- the sets of an answer

sets_apply : (sets : List Change) (s : source.State)
    → apply_sets sets s ≡ record s {
      values = values_set s.values sets;
      changes = s.changes
          ++ sets;
    }
sets_apply [] s = ap (λ (cs : List Change). record s { changes = cs }) (sym (append-nil s.changes))
sets_apply (c ∷ rest) s =
    sets_apply rest (source.change c.variable c.value s)
    ∙ ap (λ (cs : List Change). record s { values = values_set s.values (c ∷ rest); changes = cs })
    (append_assoc s.changes (c ∷ []) rest)

-- ---- reports

-- changes in front may be counted among those before
changes_before : (text : StrNo → Option Words) (changes : List Change) (s : source.State)
    (o : Outcome)
    → report_after text s (preceded [] changes o)
    ≡ report_after text (record s { changes = s.changes ++ changes }) o
changes_before text changes s o =
    ap (λ (cs : List Change). record {
      requests = map Some s.requests
          ++ map (worded text) o.requests;
      changes = cs;
      values = o.state.values;
      abort_methods = o.state.abort_methods;
      answers = o.answers;
      ending = o.ending;
    })
    (sym (append_assoc s.changes changes o.changes))

-- so may a request whose strings are known
request_before : (text : StrNo → Option Words) (r : Request) (q : source.Request)
    → worded text r ≡ Some q → (s : source.State) (o : Outcome)
    → report_after text s (preceded (r ∷ []) [] o)
    ≡ report_after text (record s { requests = s.requests ++ q ∷ [] }) o
request_before text r q is s o =
    ap (λ (rs : List (Option source.Request)). record {
      requests = rs;
      changes = s.changes
          ++ o.changes;
      values = o.state.values;
      abort_methods = o.state.abort_methods;
      answers = o.answers;
      ending = o.ending;
    })
    (ap (λ (x : Option source.Request). map Some s.requests ++ (x ∷ map (worded text) o.requests))
    is ∙ one_more s.requests (map (worded text) o.requests))
  where
    one_more : (qs : List source.Request) (rest : List (Option source.Request))
        → map Some qs ++ (Some q ∷ rest) ≡ map Some (qs ++ q ∷ []) ++ rest
    one_more [] rest = refl
    one_more (x ∷ qs) rest = ap (λ (ys : List (Option source.Request)). Some x ∷ ys)
        (one_more qs rest)

-- a run that is over at once reports what was so far
pub over_now : (text : StrNo → Option Words) (s : source.State) (t : State) (answers : List Answer)
    (ending : image.Ending)
    → report_after text s (record {
      requests = [];
      changes = [];
      state = t;
      answers = answers;
      ending = ending;
      steps = 0;
    })
    ≡ record {
      requests = map Some s.requests;
      changes = s.changes;
      values = t.values;
      abort_methods = t.abort_methods;
      answers = answers;
      ending = ending;
    }
over_now text s t answers ending =
    ap (λ (rs : List (Option source.Request)). record {
      requests = rs;
      changes = s.changes ++ [];
      values = t.values;
      abort_methods = t.abort_methods;
      answers = answers;
      ending = ending;
    }) (append-nil (map Some s.requests))
    ∙ ap (λ (cs : List Change). record {
      requests = map Some s.requests;
      changes = cs;
      values = t.values;
      abort_methods = t.abort_methods;
      answers = answers;
      ending = ending;
    }) (append-nil s.changes)

-- a state that is over has nothing more
is_over : (env : Environment) (k : ℕ) (t : State) (answers : List Answer) (ending : image.Ending)
    → meet unchanged env t answers ≡ nothing_met t answers (Some ending)
    → execute env k t answers ≡ record {
      requests = [];
      changes = [];
      state = t;
      answers = answers;
      ending = ending;
      steps = 0;
    }
unfolding execute execute_following
is_over env zero t answers ending is =
    ap (λ (m : Meeting). closed m (unwrap_or m.ending OutOfSteps)) is
is_over env (suc k) t answers ending is =
    ap (λ (m : Meeting). go_on m m.ending (step env m.state) (λ e. execute env k e.state m.answers))
    is

module _ (text : StrNo → Option Words) (env : Environment) (code : List ℕ) where
  -- there is an instruction at a place, with this effect
  pub record Acts (p : ℕ) (operands : List ℤ) (s : source.State) (e : Effect) : Type 0 where
    pub instruction : Instruction
    pub next : ℕ
    pub stands : instruction_at code p ≡ Some (instruction, next)
    pub acts : act env instruction next (at code p operands s) ≡ Some e

  -- it is done, and the run goes on
  one_step : {p : ℕ} {operands : List ℤ} {s : source.State} {e : Effect} → Acts p operands s e
      → (k : ℕ) → execute env (suc k) (at code p operands s) s.answers
      ≡ stepped (preceded (request_in e.emitted) e.changes (execute env k e.state s.answers))
  unfolding execute execute_following step
  one_step h k = rw (h.stands, h.acts) refl

  -- ---- a step that goes on

  -- from a place with these operands the next step leads to another, with these operands and this
  -- state
  abbrev pub Leads : (p q : ℕ) (operands left : List ℤ) (s t : source.State) → Type 0
  Leads p q operands left s t = (k : ℕ) → report text env code (suc k) p operands s
      ≡ report text env code k q left t

  pub quiet_leads : (p q : ℕ) (operands left : List ℤ) (s : source.State) (slots : List ℤ)
      → Acts p operands s (record {
        state = at code q left (record s { slots = slots });
        emitted = emitted.Nothing;
        changes = [];
      })
      → Leads p q operands left s (record s { slots = slots })
  quiet_leads p q operands left s slots h k = ap (report_after text s) (one_step h k)

  pub list_leads : (p q : ℕ) (operands left : List ℤ) (s : source.State) (methods : List MethNo)
      → Acts p operands s (record {
        state = at code q left (record s { abort_methods = methods });
        emitted = emitted.Nothing;
        changes = [];
      })
      → Leads p q operands left s (record s { abort_methods = methods })
  list_leads p q operands left s methods h k =
      ap (report_after text s) (one_step h k)

  -- the records of an attribute are none of a method's requests
  pub record_leads : (p q : ℕ) (operands left : List ℤ) (s : source.State) (given : Emitted)
      → request_in given ≡ []
      → Acts p operands s (record { state = at code q left s; emitted = given; changes = [] })
      → Leads p q operands left s s
  record_leads p q operands left s given none h k =
      ap (report_after text s) (one_step h k ∙ ap (λ (rs : List Request). stepped
      (preceded rs [] (execute env k (at code q left s) s.answers))) none)

  pub change_leads : (p q : ℕ) (operands left : List ℤ) (s : source.State) (c : Change)
      (values : List ℤ)
      → Acts p operands s (record {
        state = at code q left (record s { values = values });
        emitted = emitted.Nothing;
        changes = c ∷ [];
      })
      → Leads p q operands left s (record s { values = values; changes = s.changes ++ c ∷ [] })
  change_leads p q operands left s c values h k =
      ap (report_after text s) (one_step h k) ∙ changes_before text (c
      ∷ []) s (execute env k (at code q left (record s { values = values })) s.answers)

  -- ---- a step that is over

  pub trap_reports : (p : ℕ) (operands left : List ℤ) (s : source.State) (why : Trap)
      → Acts p operands s (record {
        state = record (at code p left s) { status = Trapped why };
        emitted = emitted.Nothing;
        changes = [];
      })
      → (k : ℕ) → report text env code (suc k) p operands s ≡ stopped (source.Trapped why) s
  trap_reports p operands left s why h k =
      ap (report_after text s) (one_step h k ∙ ap stepped (is_over env k (record (at code p left s)
      { status = Trapped why }) s.answers (image.Trapped why) refl)) ∙ over_now text s
      (record (at code p left s) { status = Trapped why }) s.answers (image.Trapped why)

  pub abort_reports : (p : ℕ) (operands : List ℤ) (s : source.State)
      → Acts p operands s (record {
        state = record (at code p operands s) { status = Aborted };
        emitted = emitted.Nothing;
        changes = [];
      })
      → (k : ℕ) → report text env code (suc k) p operands s ≡ stopped source.Aborted s
  abort_reports p operands s h k =
      ap (report_after text s) (one_step h k ∙ ap stepped (is_over env k
      (record (at code p operands s) { status = Aborted }) s.answers image.Aborted refl))
      ∙ over_now text s (record (at code p operands s) { status = Aborted }) s.answers image.Aborted

  pub end_reports : (p : ℕ) (operands : List ℤ) (s : source.State)
      → Acts p operands s (record {
        state = record (at code p operands s) { status = Ended };
        emitted = emitted.Nothing;
        changes = [];
      })
      → (k : ℕ) → report text env code (suc k) p operands s
      ≡ record {
        requests = map Some s.requests;
        changes = s.changes;
        values = s.values;
        abort_methods = s.abort_methods;
        answers = s.answers;
        ending = image.Ended;
      }
  end_reports p operands s h k =
      ap (report_after text s) (one_step h k ∙ ap stepped
      (is_over env k (record (at code p operands s) { status = Ended }) s.answers image.Ended refl))
      ∙ over_now text s (record (at code p operands s) { status = Ended }) s.answers image.Ended

  -- ---- a request and its answer

  module _ (p q : ℕ) (operands left : List ℤ) (r : Request) (said : source.Request)
      (is_said : worded text r ≡ Some said) where
    -- the state that asks
    abbrev asks : source.State → State
    asks s = record (at code q left s) { status = Asking r }

    -- the request is noted
    abbrev asked : source.State → source.State
    asked s = record s { requests = s.requests ++ said ∷ [] }

    requested : (s : source.State)
        → Acts p operands s (record { state = asks s; emitted = emitted.Request r; changes = [] })
        → (k : ℕ)
        → report text env code (suc k) p operands s
        ≡ report_after text (asked s) (execute env k (asks s) s.answers)
    requested s h k =
        ap (report_after text s) (one_step h k)
        ∙ request_before text r said is_said s (execute env k (asks s) s.answers)

    -- the state of the method in which each of these answers is the next
    abbrev with : source.State → List Answer → source.State
    with s answers = record s { answers = answers }

    pub ask_comes : (s : source.State) (answers : List Answer) → s.answers ≡ answers
        → CanBeTaken env answers
        → Acts p operands s (record { state = asks s; emitted = emitted.Request r; changes = [] })
        → Comes text env code p q operands s (pushed left (answered answers (asked s)))
    ask_comes s [] is valid h = λ k. (
      suc k,
      omega arith,
      requested s h k
          ∙ ap (λ (a : List Answer). report_after text (asked s) (execute env k (asks s) a)) is
          ∙ ap (report_after text (asked s)) (waits env (at code q left s) r k)
          ∙ over_now text (asked s) (asks s) [] image.Waiting
          ∙ ap (λ (a : List Answer). record {
            requests = map Some (s.requests ++ said ∷ []);
            changes = s.changes;
            values = s.values;
            abort_methods = s.abort_methods;
            answers = a;
            ending = image.Waiting;
          })
          (sym is),
    )
    ask_comes s (Abort ∷ rest) is valid h = λ k. (
      suc k,
      omega arith,
      requested s h k
          ∙ ap (λ (a : List Answer). report_after text (asked s) (execute env k (asks s) a)) is
          ∙ ap (report_after text (asked s)) (aborts env (at code q left s) r k rest)
          ∙ over_now text (asked s) (asks s) rest image.Aborted,
    )
    ask_comes s (Go number sets ∷ rest) is valid h =
        let t : source.State = record (asked s) { answers = rest } in
        let u : source.State = record t {
          values = values_set s.values sets;
          changes = s.changes
              ++ sets;
        } in
        subst (λ (x : source.State). Comes text env code p q operands s (Goes (number ∷ left) x))
        (sym (sets_apply sets t)) (
          valid.1,
          λ k. (
            suc k,
            omega arith,
            requested s h k
                ∙ ap (λ (a : List Answer). report_after text (asked s) (execute env k (asks s) a))
                is ∙ ap (report_after text (asked s))
                (goes_on env (at code q left s) r k number sets rest valid.0)
                ∙ changes_before text sets (asked s)
                (execute env k (at code q (number ∷ left)
                (record (asked s) { values = values_set s.values sets })) rest),
          ),
        )
