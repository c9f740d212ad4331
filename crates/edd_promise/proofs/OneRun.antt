-- What comes of calls on a session is one run.
use Rattle.std.proofs.Common.{◌≡◌, refl, sym, ap, subst, ◌∙◌, ℕ, ◌+◌, List, [], ◌∷◌, ◌++◌, None, append-nil, arith}
use Rattle.edd_syntax.specs.Answers.{Abort, Answer, Change, Go, answer_fault}
use Rattle.edd_instructions.specs.declared.requests.Request.{Request}
use Rattle.edd_image.specs.Contents.{Contents, contents_in}
use Rattle.edd_instructions.specs.Reading.{environment_of}
use Rattle.edd_instructions.specs.Steps.{State}
use Rattle.edd_instructions.specs.Execution.{Outcome, preceded}
use Rattle.edd_instructions.specs.AbortMethods.{answered_in, execute_in}
use Rattle.edd_port.specs.Books.{Pair}
use Rattle.edd_port.specs.Drives.{Takes}
use Rattle.edd_port.specs.Refusals.{sets_of}
use Rattle.edd_port.specs.Runs.{Run, environment, followed}
use Rattle.edd_port.specs.Turns.{turn_of, ending_of}
use Rattle.edd_port.proofs.Cuts.{met}
use Rattle.edd_port.proofs.Outcomes.{halted, without_steps}
use Rattle.edd_promise.specs.Sessions.{Past, nothing_done, with_run, with_answer, answers_of, Comes, Started, Advanced, Answered, Driven, at_once, IsOneRun}
use Rattle.edd_promise.proofs.Used.{continues, exactly, leaves_none}

-- an answer changes what it sets
changed_by : (c : Contents) (s : State) (answer : Answer)
    → (answered_in c s answer).changes ≡ sets_of answer
changed_by c s (Go code sets) = refl
changed_by c s Abort = refl

module _ (first : Run) where
  abbrev c : Contents
  c = contents_in first.image

  -- it is one run, where this is what that results in
  one_run : (past : Past) (now : Run) (o : Outcome) → now.image ≡ first.image
      → at_once first past.steps past.answers ≡ o → now.state ≡ o.state
      → o.requests ≡ past.requests → o.changes ≡ past.changes → o.answers ≡ []
      → o.steps ≡ past.steps → o.ending ≡ ending_of (turn_of now.state.status)
      → IsOneRun first past now
  one_run past now o image is state requests changes used count ending = record {
    image = image;
    state = state ∙ sym (ap (λ (x : Outcome). x.state) is);
    requests = ap (λ (x : Outcome). x.requests) is ∙ requests;
    changes = ap (λ (x : Outcome). x.changes) is ∙ changes;
    used = ap (λ (x : Outcome). x.answers) is ∙ used;
    count = ap (λ (x : Outcome). x.steps) is ∙ count;
    ending = ap (λ (x : Outcome). x.ending) is ∙ ending;
  }

  started : IsOneRun first nothing_done first
  started = one_run nothing_done first (halted first.state (ending_of (turn_of first.state.status)))
      refl (without_steps c first.state) refl refl refl refl refl refl

  -- from where the session is the run goes on under any answers
  goes_on : (past : Past) (now : Run) → IsOneRun first past now → (k : ℕ) (more : List Answer)
      → at_once first (past.steps + k) (past.answers ++ more)
      ≡ followed (at_once first past.steps past.answers) (execute_in c k now.state more)
  goes_on past now is k more =
      let o : Outcome = at_once first past.steps past.answers in
      ap (λ (n : ℕ). execute_in c (n + k) first.state (past.answers ++ more)) (sym is.count)
      ∙ continues c past.steps first.state past.answers is.used k more
      ∙ ap (λ (s : State). followed o (execute_in c k s more)) (sym is.state)

  -- an execution that uses all of its answers is done as well
  ran : (past : Past) (now next : Run) (n : ℕ) (answers : List Answer) → IsOneRun first past now
      → next.image ≡ now.image
      → next.state ≡ (execute_in (contents_in now.image) n now.state answers).state
      → (execute_in (contents_in now.image) n now.state answers).answers ≡ []
      → IsOneRun first (with_run past answers
      (execute_in (contents_in now.image) n now.state answers)) next
  ran past now next n answers is image state used =
      let o : Outcome = at_once first past.steps past.answers in
      let p : Outcome = execute_in (contents_in now.image) n now.state answers in
      let end : Outcome = halted p.state (ending_of (turn_of p.state.status)) in
      let same : p ≡ execute_in c n now.state answers =
      ap (λ (b : List ℕ). execute_in (contents_in b) n now.state answers) is.image in
      let there : execute_in c p.steps now.state answers ≡ followed p end =
      subst (λ (x : Outcome). execute_in c x.steps now.state answers
      ≡ followed x (halted x.state (ending_of (turn_of x.state.status)))) (sym same)
      (exactly c n now.state answers (sym (ap (λ (x : Outcome). x.answers) same) ∙ used)) in
      one_run (with_run past answers p) next (followed o (followed p end)) (image ∙ is.image)
      (goes_on past now is p.steps answers ∙ ap (λ (x : Outcome). followed o x) there)
      state
      (ap (λ (rs : List Request). o.requests ++ rs) (append-nil p.requests)
      ∙ ap (λ (rs : List Request). rs ++ p.requests) is.requests)
      (ap (λ (xs : List Change). o.changes ++ xs) (append-nil p.changes)
      ∙ ap (λ (xs : List Change). xs ++ p.changes) is.changes)
      refl (omega (arith, is.count))
      (ap (λ (s : State). ending_of (turn_of s.status)) (sym state))

  answered_so : (past : Past) (now next : Run) (pair : Pair) → IsOneRun first past now
      → Takes now pair next → IsOneRun first (with_answer past pair.answer) next
  answered_so past now next pair is takes =
      let o : Outcome = at_once first past.steps past.answers in
      let after : State = (answered_in c now.state pair.answer).state in
      let changes = (answered_in c now.state pair.answer).changes in
      let end : Outcome = halted after (ending_of (turn_of after.status)) in
      let fine : answer_fault (environment_of c).types pair.answer ≡ None =
      subst (λ (b : List ℕ). answer_fault (environment b).types pair.answer ≡ None) is.image
      takes.valid in
      let state : next.state ≡ after =
      ap (λ (r : Run). r.state) takes.is
      ∙ ap (λ (b : List ℕ). (answered_in (contents_in b) now.state pair.answer).state) is.image in
      let none : past.steps ≡ past.steps + 0 = omega arith in
      let there : at_once first past.steps (past.answers ++ pair.answer ∷ [])
      ≡ followed o (preceded [] changes end) =
      ap (λ (n : ℕ). execute_in c n first.state (past.answers ++ pair.answer ∷ [])) none
      ∙ goes_on past now is 0 (pair.answer ∷ [])
      ∙ ap (λ (x : Outcome). followed o x)
      (met c 0 now.state pair.request pair.answer [] takes.asks fine
      ∙ ap (λ (x : Outcome). preceded [] changes x) (without_steps c after)) in
      one_run (with_answer past pair.answer) next (followed o (preceded [] changes end))
      (ap (λ (r : Run). r.image) takes.is ∙ is.image) there state
      (append-nil o.requests ∙ is.requests)
      (ap (λ (xs : List Change). o.changes ++ xs)
      (append-nil changes ∙ changed_by c now.state pair.answer)
      ∙ ap (λ (xs : List Change). xs ++ sets_of pair.answer) is.changes)
      refl (omega (arith, is.count))
      (ap (λ (s : State). ending_of (turn_of s.status)) (sym state))

  pub comes_of_one : (past : Past) (now : Run) → Comes first past now → IsOneRun first past now
  comes_of_one past now Started = started
  comes_of_one past now (Advanced before_past before after budget comes advances) =
      ran before_past before after budget [] (comes_of_one before_past before comes)
      advances.image advances.state
      (leaves_none (contents_in before.image) budget before.state [] refl)
  comes_of_one past now (Answered before_past before after pair comes takes) =
      answered_so before_past before after pair (comes_of_one before_past before comes) takes
  comes_of_one past now (Driven before_past before after steps pairs comes drives) =
      ran before_past before after steps (answers_of pairs)
      (comes_of_one before_past before comes) drives.image drives.state drives.used
