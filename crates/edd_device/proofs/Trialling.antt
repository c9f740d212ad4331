-- A method that is run with a device, turn by turn.
use Rattle.std.proofs.Common.{◌≡◌, ℕ, zero, suc, ◌+◌, ◌*◌, ◌<◌, ◌≤◌, List, [], ◌∷◌, ◌++◌, length, map, Option, Some, None, refl, sym, ap, subst, ◌∙◌, arith}
use Rattle.std.specs.Prelude.{option_map}
use Rattle.edd_syntax.specs.Answers.{Answer, Go, Abort, SetFault, answer_fault, IsValidAnswer}
use Rattle.edd_syntax.specs.DeviceValues.{VariableType}
use Rattle.edd_image.specs.Contents.{Contents, contents_in}
use Rattle.edd_instructions.specs.declared.requests.Request.{Request}
use Rattle.edd_instructions.specs.declared.records.Status.{Status}
use Rattle.edd_instructions.specs.declared.records.Status.TheVariants as status
use Rattle.edd_instructions.specs.AbortMethods.{answered_in, execute_in, next, start_in, step_in}
use Rattle.edd_instructions.specs.Execution.{Bad, Outcome, Stuck}
use Rattle.edd_instructions.specs.Reading.{environment_of}
use Rattle.edd_instructions.specs.Steps.{State, Effect}
use Rattle.edd_instructions.proofs.Followed.{still_asks}
use Rattle.edd_instructions.proofs.NextMethods.{next_asks_nothing}
use Rattle.edd_instructions.proofs.StepCounts.{at_most_following}
use Rattle.edd_port.specs.declared.fault.PlayFault.{PlayFault}
use Rattle.edd_port.specs.declared.fault.PlayFault.TheVariants as play_fault
use Rattle.edd_port.specs.declared.turn.Turn.{Turn}
use Rattle.edd_port.specs.declared.turn.Turn.TheVariants as turns
use Rattle.edd_port.specs.Books.{Pair}
use Rattle.edd_port.specs.Drives.{Executes, Takes, standing}
use Rattle.edd_port.specs.Faults.{play_refusal}
use Rattle.edd_port.specs.Refusals.{Refusal, BadSet, CodeFits, refusal}
use Rattle.edd_port.specs.Runs.{Run, environment}
use Rattle.edd_port.specs.Turns.{ending_of}
use Rattle.edd_port.proofs.Accepted.{taken as accepted}
use Rattle.edd_port.proofs.Outcomes.{gets_stuck, steps_on}
use Rattle.edd_port.proofs.Drivings.{Driving, answers_of, requests_of, starts, executed, given, none_stands}
use Rattle.edd_port.proofs.ShownTurns.{of_refused}
use Rattle.edd_device.specs.Trials.{IsRefused, Refuses}

-- With so many instructions left of these steps the session got to where it is now, and these
-- requests were answered on the way.
pub record Going (first : Run) (steps left : ℕ) (now : Run) (requests : List Request) : Type 0 where
  pub pairs : List Pair
  pub driving : Driving first steps left now pairs
  pub noted : requests ≡ requests_of pairs

unfoldable pub begins : (first : Run) (steps : ℕ) → first.taken ≡ 0 → Going first steps steps first
    []
begins first steps none = record {
  pairs = [];
  driving = starts first steps (omega (arith, none));
  noted = refl;
}

unfoldable pub goes : (first : Run) (steps left fewer : ℕ) (now after : Run) (requests : List
    Request)
    → Going first steps left now requests → Executes left now fewer after
    → Going first steps fewer after requests
goes first steps left fewer now after requests is to = record {
  pairs = is.pairs;
  driving = executed first steps left fewer now after is.pairs is.driving to;
  noted = is.noted;
}

pub map_more : {A B : Type 0} (f : A → B) (xs : List A) (x : A) → map f (xs ++ x ∷ []) ≡ map f xs ++
    f x
    ∷ []
map_more f [] x = refl
map_more f (y ∷ xs) x = ap (λ (ys : List _). f y ∷ ys) (map_more f xs x)

-- after the pending request was answered
unfoldable pub meets : (first : Run) (steps left : ℕ) (now after : Run) (requests : List Request)
    (q : Request) → Going first steps left now requests → now.state.status ≡ status.Asking q
    → (pair : Pair) → Takes now pair after → Going first steps left after (requests ++ q ∷ [])
meets first steps left now after requests q is asks pair takes =
    let same : q ≡ pair.request = cc (asks, takes.asks) in
    record {
      pairs = is.pairs ++ pair ∷ [];
      driving = given first steps left now after is.pairs pair is.driving takes;
      noted = ap (λ (rs : List Request). rs ++ q ∷ []) is.noted
          ∙ ap (λ (r : Request). requests_of is.pairs ++ r ∷ []) same
          ∙ sym (map_more (λ (p : Pair). p.request) is.pairs pair);
    }

same_run : {i i' : List ℕ} {s s' : State} {t t' : ℕ} → i ≡ i' → s ≡ s' → t ≡ t'
    → ◌≡◌ {A = Run} (record { image = i; state = s; taken = t })
    (record { image = i'; state = s'; taken = t' })
same_run p q r = cc

-- a session after its answer
pub takes : (before after : Run) (q : Request) (a : Answer)
    → before.state.status ≡ status.Asking q
    → answer_fault (environment before.image).types a ≡ None → CodeFits a
    → after.image ≡ before.image → after.taken ≡ before.taken
    → after.state ≡ (answered_in (contents_in before.image) before.state a).state
    → Takes before (record { request = q; answer = a }) after
takes before after q a asks valid fits image taken state =
    record { asks = asks; valid = valid; fits = fits; is = same_run image state taken }

-- of an answer that was not refused
pub takes_unrefused : (before after : Run) (q : Request) (a : Answer)
    → before.state.status ≡ status.Asking q
    → None ≡ refusal (environment before.image).types before.state.status a → CodeFits a
    → after.image ≡ before.image → after.taken ≡ before.taken
    → after.state ≡ (answered_in (contents_in before.image) before.state a).state
    → Takes before (record { request = q; answer = a }) after
takes_unrefused before after q a asks free fits image taken state = takes before after q a asks
    (accepted (environment before.image).types before.state.status a (sym free)).2 fits image taken
    state

-- ---- instructions

-- a state that runs executes one at least
pub moves : (c : Contents) (n : ℕ) (s : State) (t : Turn) → s.status ≡ status.Running → 1 ≤ n
    → (execute_in c n s []).ending ≡ ending_of t → 1 ≤ (execute_in c n s []).steps
moves c zero s t runs more shows = absurd (omega (arith, more))
moves c (suc n) s t runs more shows = by_step (step_in c s) refl
  where
    not_stuck : (u : Turn) → Stuck ≡ ending_of u → ⊥
    not_stuck (turns.Asks r) e = cc
    not_stuck turns.Ended e = cc
    not_stuck turns.Aborted e = cc
    not_stuck (turns.Trapped why) e = cc
    not_stuck turns.Spent e = cc

    by_step : (o : Option Effect) → step_in c s ≡ o → 1 ≤ (execute_in c (suc n) s []).steps
    by_step None is = absurd (not_stuck t (sym (ap (λ (o : Outcome). o.ending)
        (gets_stuck c n s runs is)) ∙ shows))
    by_step (Some e) is = omega (
      arith,
      ap (λ (o : Outcome). o.steps)
          (steps_on c n s [] e runs is),
    )

pub at_most : (c : Contents) (n : ℕ) (s : State) → (execute_in c n s []).steps ≤ n
at_most c n s = at_most_following (next (start_in c)) (environment_of c) n s []

-- ---- ends

bad_ends : (c : Contents) (n : ℕ) (s : State) (q : Request) (answer : Answer)
    (rest : List Answer) (fault : SetFault) → s.status ≡ status.Asking q
    → answer_fault (environment_of c).types answer ≡ Some fault
    → (execute_in c n s (answer ∷ rest)).ending ≡ Bad fault
bad_ends c n s q answer rest fault asks bad =
    ap (λ (o : Outcome). o.ending)
    (still_asks (next (start_in c)) (next_asks_nothing (start_in c)) (environment_of c) s q asks
    answer rest fault bad n)

refused_by : (first : Run) (steps left : ℕ) (now : Run) (requests : List Request) (q : Request)
    (fault : PlayFault) (refused : Refusal) (answer : Answer)
    → Going first steps left now requests → now.state.status ≡ status.Asking q
    → play_refusal fault ≡ Some refused
    → option_map BadSet (answer_fault (environment now.image).types answer) ≡ play_refusal fault
    → IsRefused first steps fault
refused_by first steps left now requests q fault refused answer is asks e bad =
    let c : Contents = contents_in first.image in
    let here : option_map BadSet (answer_fault (environment first.image).types answer)
    ≡ play_refusal fault =
    subst (λ (b : List ℕ). option_map BadSet (answer_fault (environment b).types answer)
    ≡ play_refusal fault) is.driving.image bad in (
      answers_of is.pairs ++ answer ∷ [],
      of_refused fault refused (answer_fault (environment first.image).types answer) _ e
          (sym (here ∙ e))
          (λ f g. ap (λ (o : Outcome). o.ending) (is.driving.runs (answer ∷ []))
          ∙ bad_ends c left now.state q answer [] f asks g),
    )

pub is_refused : (first : Run) (steps left : ℕ) (now : Run) (requests : List Request)
    (q : Request) (fault : PlayFault) → Going first steps left now requests
    → now.state.status ≡ status.Asking q → Refuses now fault → IsRefused first steps fault
is_refused first steps left now requests q play_fault.NoItem is asks h = absurd h
is_refused first steps left now requests q play_fault.WrongValues is asks h = absurd h
is_refused first steps left now requests q play_fault.BadVariable is asks (answer, bad) =
    refused_by first steps left now requests q play_fault.BadVariable _ answer is asks refl bad
is_refused first steps left now requests q play_fault.OutOfRange is asks (answer, bad) =
    refused_by first steps left now requests q play_fault.OutOfRange _ answer is asks refl bad
is_refused first steps left now requests q play_fault.Memory is asks h = ([], tt)

-- an answer that is taken leaves less to do: no request comes after it
pub answer_falls : (left : ℕ) (now after : Run) (q : Request) → now.state.status ≡ status.Asking q
    → (pair : Pair) → Takes now pair after
    → 2 * left + length (standing after.state.status)
    < 2 * left + length (standing now.state.status)
answer_falls left now after q asks pair takes =
    let one : length (standing now.state.status) ≡ 1 = ap (λ (st : Status). length (standing st))
    asks in
    let none : length (standing after.state.status) ≡ 0 =
    ap (λ (r : Run). length (standing r.state.status)) takes.is
    ∙ ap (λ (rs : List Request). length rs)
    (none_stands (contents_in now.image) now.state pair.answer) in
    omega (arith, one, none)

-- ---- valid answers

pub no_fault : (types : List VariableType) (a : Answer) → IsValidAnswer types a
    → answer_fault types a ≡ None
no_fault types (Go code sets) valid = valid.1
no_fault types Abort valid = refl
