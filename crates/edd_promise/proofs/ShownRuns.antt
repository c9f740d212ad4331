-- What `play` and sessions show of an image that agrees with a unit is what its method does.
use Rattle.std.proofs.Common.{◌≡◌, ◌≢◌, refl, sym, ap, subst, ◌∙◌, ℕ, ◌≤◌, ◌<◌, ℤ, List, [], ◌∷◌, ◌++◌, Option, Some, None, inl, inr, arith}
use Rattle.std.specs.Prelude.{option_map}
use Rattle.std.specs.List.{AllByRecursion}
use Rattle.std.proofs.lemmas.Bool.{cases_lt}
use Rattle.edd_syntax.specs.declared.numbers.MethNo.{MethNo}
use Rattle.edd_syntax.specs.declared.reference.Target.{Target}
use Rattle.edd_syntax.specs.Item.{Description}
use Rattle.edd_syntax.specs.Answers.{Answer, Change, Go, Abort, SetFault, BadVariable, OutOfRange, IsValidAnswer, answer_fault}
use Rattle.edd_syntax.specs.DeviceValues.{VariableType, AreDeviceValues}
use Rattle.edd_syntax.specs.Execution as source
use Rattle.edd_syntax.specs.Execution.{Transcript, run}
use Rattle.edd_image.specs.Contents.{AttributeFields, Contents, contents_in}
use Rattle.edd_instructions.specs.declared.requests.Request.{Request}
use Rattle.edd_instructions.specs.AbortMethods.{execute_in}
use Rattle.edd_instructions.specs.Agreement.{string_numbered}
use Rattle.edd_instructions.specs.Execution as image
use Rattle.edd_instructions.specs.Execution.{Outcome}
use Rattle.edd_instructions.specs.MethodAgreement.{Agrees, SameOutcome, SameRequests}
use Rattle.edd_instructions.specs.Reading.{body_of, opening_of}
use Rattle.edd_instructions.specs.Steps.{State}
use Rattle.edd_instructions.specs.Validity.{IsValid}
use Rattle.edd_machine.specs.Types.{types_in}
use Rattle.edd_port.specs.declared.fault.PlayFault.{PlayFault}
use Rattle.edd_port.specs.declared.fault.PlayFault.TheVariants as play_fault
use Rattle.edd_port.specs.declared.playing.Ending.{Ending}
use Rattle.edd_port.specs.declared.playing.Ending.TheVariants as ending
use Rattle.edd_port.specs.declared.turn.Turn.{Turn}
use Rattle.edd_port.specs.declared.turn.Turn.TheVariants as turn
use Rattle.edd_port.specs.Books.{Pair}
use Rattle.edd_port.specs.Drives.{AreValid, driven, standing}
use Rattle.edd_port.specs.Plays.{IsPlayFault, ending_shown, played}
use Rattle.edd_port.specs.Refusals.{CodeFits}
use Rattle.edd_port.specs.Runs.{Run}
use Rattle.edd_port.specs.Turns as turns
use Rattle.edd_port.specs.Turns.{turn_of}
use Rattle.edd_promise.specs.Plays.{Changes, Shown, PlayShows, SameShown, SameSession, BeginsWith, IsRefusedPlay}
use Rattle.edd_promise.specs.Sessions.{Past, nothing_done, with_run, answers_of, requests_of, Comes, Started, Advanced, Answered, Driven, IsSession, IsDriven, at_once, IsOneRun}
use Rattle.edd_promise.proofs.OneRun.{comes_of_one}
use Rattle.edd_promise.proofs.UnitReads.{device_of_image}
use Rattle.edd_promise.proofs.UnitRuns.{begins, never_bad, no_such_method, not_out, over, plays, plays_on, stays}
use Rattle.edd_promise.proofs.Used.{ignores, used_are_taken}

-- only `Spent` is out of steps
is_spent : (e : Ending) → ending_shown e ≡ image.OutOfSteps → e ≡ ending.Spent
is_spent ending.Spent e = refl
is_spent _ e = absurd cc

turn_spent : (t : Turn) → turns.ending_of t ≡ image.OutOfSteps → t ≡ turn.Spent
turn_spent turn.Spent e = refl
turn_spent _ e = absurd cc

-- an answer that can be taken and whose code fits is valid
valid_answer : (types : List VariableType) (a : Answer) → answer_fault types a ≡ None → CodeFits a
    → IsValidAnswer types a
valid_answer types (Go code sets) fine fits = (fits, fine)
valid_answer types Abort fine fits = tt

valid_answers : (types : List VariableType) (answers : List Answer)
    → AllByRecursion (λ a. answer_fault types a ≡ None) answers → AllByRecursion CodeFits answers
    → AllByRecursion (IsValidAnswer types) answers
valid_answers types [] fine fit = tt
valid_answers types (a ∷ rest) fine fit =
    (valid_answer types a fine.0 fit.0, valid_answers types rest fine.1 fit.1)

-- ---- the answers of a session have codes of 32 bits

both_fit : (xs ys : List Answer) → AllByRecursion CodeFits xs → AllByRecursion CodeFits ys
    → AllByRecursion CodeFits (xs ++ ys)
both_fit [] ys front after = after
both_fit (x ∷ xs) ys front after = (front.0, both_fit xs ys front.1 after)

pairs_fit : (types : List VariableType) (pairs : List Pair) → AreValid types pairs
    → AllByRecursion CodeFits (answers_of pairs)
pairs_fit types [] are = tt
pairs_fit types (p ∷ rest) are = (are.0.0, pairs_fit types rest are.1)

answers_fit : (first : Run) (past : Past) (now : Run) → Comes first past now
    → AllByRecursion CodeFits past.answers
answers_fit first past now Started = tt
answers_fit first past now (Advanced earlier before after budget comes advances) =
    both_fit earlier.answers [] (answers_fit first earlier before comes) tt
answers_fit first past now (Answered earlier before after pair comes takes) =
    both_fit earlier.answers (pair.answer ∷ []) (answers_fit first earlier before comes)
    (takes.fits, tt)
answers_fit first past now (Driven earlier before after steps pairs comes drives) =
    both_fit earlier.answers (answers_of pairs) (answers_fit first earlier before comes)
    (pairs_fit (types_in before.image) pairs drives.valid)

module _ (unit : Description Target) (b : List ℕ) (valid : IsValid b)
    (agrees : Agrees unit (contents_in b)) where
  abbrev c : Contents
  c = contents_in b

  abbrev Valid : List Answer → Type 0
  Valid answers = AllByRecursion (IsValidAnswer (types_in b)) answers

  abbrev machine_of : AttributeFields → (steps : ℕ) → List ℤ → List Answer → Outcome
  machine_of row k values answers = execute_in c k (opening_of c row values) answers

  module _ (m : MethNo) (device : List ℤ) (answers : List Answer) where
    abbrev transcript : (turns : ℕ) → Transcript
    transcript n = run n unit m device answers

    abbrev Shows : (steps : ℕ) → Shown → Type 0
    Shows steps shown = PlayShows b m device steps answers shown

    -- what is shown comes of the run of the method's row
    record IsPlayed (row : AttributeFields) (steps : ℕ) (shown : Shown) : Type 0 where
      requests : (machine_of row steps device answers).requests ≡ shown.requests
      values : (machine_of row steps device answers).state.values ≡ shown.values
      ending : (machine_of row steps device answers).ending ≡ ending_shown shown.ending

    abbrev by_row : (steps : ℕ) → Option AttributeFields → Option Outcome
    by_row steps o = option_map (λ row. execute_in c steps (opening_of c row device) answers) o

    -- what a part of the outcome is
    part_is : {A : Type 0} (steps : ℕ) (row : AttributeFields) (f : Outcome → A) (x : A)
        → body_of c m ≡ Some row
        → option_map f (played b m device steps answers) ≡ Some x
        → f (machine_of row steps device answers) ≡ x
    part_is steps row f x found is =
        let same : Some (f (machine_of row steps device answers)) ≡ Some x =
        sym (ap (λ (o : Option AttributeFields). option_map f (by_row steps o)) found) ∙ is in
        cc

    is_played : (steps : ℕ) (row : AttributeFields) (shown : Shown) → body_of c m ≡ Some row
        → Shows steps shown → IsPlayed row steps shown
    is_played steps row shown found p = record {
      requests = part_is steps row (λ o. o.requests) shown.requests found p.requests;
      values = part_is steps row (λ o. o.state.values) shown.values found p.values;
      ending = part_is steps row (λ o. o.ending) (ending_shown shown.ending) found p.ending;
    }

    none_played : {A : Type 0} (steps : ℕ) (f : Outcome → A) (x : A) → body_of c m ≡ None
        → option_map f (played b m device steps answers) ≡ Some x → ⊥
    none_played steps f x none is =
        let clash : None ≡ Some x =
        sym (ap (λ (o : Option AttributeFields). option_map f (by_row steps o)) none) ∙ is in
        cc

    -- the method has a body where something is shown
    has_row : (steps : ℕ) (shown : Shown) → Shows steps shown
        → (row : AttributeFields) × (body_of c m ≡ Some row)
    has_row steps shown p = by_body (body_of c m) refl
      where
        by_body : (o : Option AttributeFields) → body_of c m ≡ o
            → (row : AttributeFields) × (body_of c m ≡ Some row)
        by_body None is = absurd
            (none_played steps (λ o. o.requests) shown.requests is p.requests)
        by_body (Some row) is = (row, is)

    -- the run that is played makes the changes of the run of the unit
    changes_are : (steps : ℕ) (row : AttributeFields) (xs : List Change)
        → body_of c m ≡ Some row → (machine_of row steps device answers).changes ≡ xs
        → Changes b m device steps answers xs
    changes_are steps row xs found is =
        ap (λ (o : Option AttributeFields). option_map (λ x. x.changes) (by_row steps o)) found
        ∙ ap (λ (ys : List Change). Some ys) is

    same_shown : (steps : ℕ) (row : AttributeFields) (shown : Shown) (t : Transcript)
        → IsPlayed row steps shown
        → SameOutcome (string_numbered c) t (machine_of row steps device answers)
        → SameShown (string_numbered c) t shown
    same_shown steps row shown t p same = record {
      requests = subst (λ (rs : List Request). SameRequests (string_numbered c) t.requests rs)
          p.requests same.requests;
      values = sym p.values ∙ same.values;
      ending = sym p.ending ∙ same.ending;
    }

    module _ (all : Valid answers) where
      pub shown_over : (steps : ℕ) (shown : Shown) → Shows steps shown
          → shown.ending ≢ ending.Spent
          → (turns : ℕ) × SameShown (string_numbered c) (transcript turns) shown
          × Changes b m device steps answers (transcript turns).changes
      shown_over steps shown p ended =
          let at = has_row steps shown p in
          let is = is_played steps at.0 shown at.1 p in
          let same = over unit b valid agrees m at.0 at.1 device answers p.accepted all steps
          (λ e. ended (is_spent shown.ending (sym is.ending ∙ e))) in (
            same.0,
            same_shown steps at.0 shown (transcript same.0) is same.1,
            changes_are steps at.0 (transcript same.0).changes at.1 same.1.changes,
          )

      pub shown_begins : (steps : ℕ) (shown : Shown) → Shows steps shown
          → shown.ending ≡ ending.Spent
          → (changed : List Change) × Changes b m device steps answers changed
          × BeginsWith (string_numbered c) unit m device answers shown.requests changed
      shown_begins steps shown p spent =
          let at = has_row steps shown p in
          let is = is_played steps at.0 shown at.1 p in
          let begun = begins unit b valid agrees m at.0 at.1 device answers p.accepted all steps
          (is.ending ∙ ap ending_shown spent) in
          let changed : List Change = (machine_of at.0 steps device answers).changes in (
            changed,
            changes_are steps at.0 changed at.1 refl,
            subst (λ (rs : List Request). BeginsWith (string_numbered c) unit m device answers rs
                changed) is.requests begun,
          )

      module _ (are : AreDeviceValues (types_in b) device) where
        -- the unit's run is over: with enough steps it is what is shown
        pub shown_of : (turns : ℕ) → (transcript turns).ending ≢ source.OutOfTurns
            → (enough : ℕ) × ((steps : ℕ) → enough ≤ steps → (shown : Shown) → Shows steps shown
            → SameShown (string_numbered c) (transcript turns) shown)
        shown_of turns ended = by_body (body_of c m) refl
          where
            by_body : (o : Option AttributeFields) → body_of c m ≡ o
                → (enough : ℕ) × ((steps : ℕ) → enough ≤ steps → (shown : Shown)
                → Shows steps shown → SameShown (string_numbered c) (transcript turns) shown)
            by_body None is = (
              0,
              λ steps le shown p. absurd
                  (none_played steps (λ o. o.requests) shown.requests is p.requests),
            )
            by_body (Some row) is =
                let on = plays unit b valid agrees m row is device answers are all turns ended in
                let never : (machine_of row on.0 device answers).ending ≢ image.OutOfSteps =
                λ e. not_out (transcript turns).ending ended (sym on.1.ending ∙ e) in (
                  on.0,
                  λ steps le shown p. same_shown steps row shown (transcript turns)
                      (is_played steps row shown is p)
                      (subst (λ (o : Outcome). SameOutcome (string_numbered c) (transcript turns)
                      o) (sym (stays unit b valid agrees m row is device answers are all on.0
                      steps le never)) on.1),
                )

        -- the unit's run goes on: within as many steps or more it is what is shown
        pub shown_on : (turns : ℕ) → (transcript turns).ending ≡ source.OutOfTurns
            → (steps : ℕ) × (turns ≤ steps) × ((shown : Shown) → Shows steps shown
            → SameShown (string_numbered c) (transcript turns) shown)
        shown_on turns going = by_body (body_of c m) refl
          where
            by_body : (o : Option AttributeFields) → body_of c m ≡ o
                → (steps : ℕ) × (turns ≤ steps) × ((shown : Shown) → Shows steps shown
                → SameShown (string_numbered c) (transcript turns) shown)
            by_body None is = (
              turns,
              omega arith,
              λ shown p. absurd
                  (none_played turns (λ o. o.requests) shown.requests is p.requests),
            )
            by_body (Some row) is =
                let on = plays_on unit b valid agrees m row is device answers are all turns going
                in (
                  on.0,
                  on.1,
                  λ shown p. same_shown on.0 row shown (transcript turns)
                      (is_played on.0 row shown is p) on.2,
                )

      -- no valid answer is bad
      bad_never : (steps : ℕ) (f : SetFault) → AreDeviceValues (types_in b) device
          → option_map (λ o. o.ending) (played b m device steps answers) ≡ Some (image.Bad f) → ⊥
      bad_never steps f are bad = by_body (body_of c m) refl
        where
          by_body : (o : Option AttributeFields) → body_of c m ≡ o → ⊥
          by_body None is = none_played steps (λ o. o.ending) (image.Bad f) is bad
          by_body (Some row) is =
              let here : (machine_of row steps device answers).ending ≡ image.Bad f =
              part_is steps row (λ o. o.ending) (image.Bad f) is bad in
              let same = over unit b valid agrees m row is device answers are all steps
              (λ e. let clash : image.Bad f ≡ image.OutOfSteps = sym here ∙ e in cc) in
              never_bad (transcript same.0).ending f (sym same.1.ending ∙ here)

      pub play_refused : (steps : ℕ) (fault : PlayFault)
          → IsPlayFault b m device steps answers fault → IsRefusedPlay unit m device fault
      play_refused steps play_fault.NoItem is = no_such_method unit b valid agrees m is
      play_refused steps play_fault.WrongValues is =
          λ are. is.1 (device_of_image unit b agrees.on_data device are)
      play_refused steps play_fault.BadVariable is = bad_never steps BadVariable is.0.1 is.1
      play_refused steps play_fault.OutOfRange is = bad_never steps OutOfRange is.0.1 is.1
      play_refused steps play_fault.Memory is = tt

  -- ---- sessions

  module _ (m : MethNo) (device : List ℤ) (past : Past) (now : Run)
      (is : IsSession b m device past now) where
    abbrev first : Run
    first = is.first

    abbrev row : AttributeFields
    row = is.opens.0

    abbrev o : Outcome
    o = machine_of row past.steps device past.answers

    is_one : IsOneRun first past now
    is_one = comes_of_one first past now is.comes

    same : at_once first past.steps past.answers ≡ o
    same = ap (λ (i : List ℕ). execute_in (contents_in i) past.steps first.state past.answers)
        is.image
        ∙ ap (λ (s : State). execute_in c past.steps s past.answers) is.opens.2

    all_valid : Valid past.answers
    all_valid = valid_answers (types_in b) past.answers
        (used_are_taken c past.steps (opening_of c row device) past.answers
        (sym (ap (λ (x : Outcome). x.answers) same) ∙ is_one.used)) (answers_fit first past now is.comes)

    ending_here : o.ending ≡ turns.ending_of (turn_of now.state.status)
    ending_here = sym (ap (λ (x : Outcome). x.ending) same) ∙ is_one.ending

    requests_here : o.requests ≡ past.requests
    requests_here = sym (ap (λ (x : Outcome). x.requests) same) ∙ is_one.requests

    changes_here : o.changes ≡ past.changes
    changes_here = sym (ap (λ (x : Outcome). x.changes) same) ∙ is_one.changes

    pub session_over : turn_of now.state.status ≢ turn.Spent
        → (turns : ℕ) × SameSession (string_numbered c) (run turns unit m device past.answers)
        past.requests past.changes now
    session_over ended =
        let goes_not_on : o.ending ≢ image.OutOfSteps =
        λ e. ended (turn_spent (turn_of now.state.status) (sym ending_here ∙ e)) in
        let there = over unit b valid agrees m row is.opens.1 device past.answers is.accepted
        all_valid past.steps goes_not_on in (
          there.0,
          record {
            requests = subst (λ (rs : List Request). SameRequests (string_numbered c)
                (run there.0 unit m device past.answers).requests rs) requests_here
                there.1.requests;
            changes = sym changes_here ∙ there.1.changes;
            values = ap (λ (s : State). s.values) (is_one.state
                ∙ ap (λ (x : Outcome). x.state) same) ∙ there.1.values;
            ending = sym ending_here ∙ there.1.ending;
          },
        )

    pub session_begins : turn_of now.state.status ≡ turn.Spent
        → BeginsWith (string_numbered c) unit m device past.answers past.requests past.changes
    session_begins spent =
        let begun = begins unit b valid agrees m row is.opens.1 device past.answers is.accepted
        all_valid past.steps (ending_here ∙ ap turns.ending_of spent) in
        subst (λ (xs : List Change). BeginsWith (string_numbered c) unit m device past.answers
        past.requests xs) changes_here
        (subst (λ (rs : List Request). BeginsWith (string_numbered c) unit m device past.answers rs
        o.changes) requests_here begun)

  -- ---- a session that goes on

  module _ (m : MethNo) (device : List ℤ) (answers : List Answer)
      (are : AreDeviceValues (types_in b) device) (all : Valid answers) where
    -- a session that has taken some of the answers goes on where the run under all of them does
    still_out : (row : AttributeFields) (past : Past) (now : Run) (more : List Answer)
        → body_of c m ≡ Some row → IsSession b m device past now → past.answers ++ more ≡ answers
        → turn_of now.state.status ≡ turn.Spent
        → (machine_of row past.steps device answers).ending ≡ image.OutOfSteps
    still_out row past now more found is taken spent =
        let one' : Some is.opens.0 ≡ Some row = sym is.opens.1 ∙ found in
        let one : is.opens.0 ≡ row = cc in
        let o : Outcome = machine_of row past.steps device past.answers in
        let out : o.ending ≡ image.OutOfSteps =
        ap (λ (r : AttributeFields). (machine_of r past.steps device past.answers).ending) (sym one)
        ∙ ending_here m device past now is ∙ ap turns.ending_of spent in
        let not_waiting : o.ending ≢ image.Waiting =
        λ e. let clash : image.OutOfSteps ≡ image.Waiting = sym out ∙ e in cc in
        ap (λ (xs : List Answer). (machine_of row past.steps device xs).ending) (sym taken)
        ∙ ap (λ (x : Outcome). x.ending)
        (ignores c past.steps (opening_of c row device) past.answers not_waiting more) ∙ out

    pub session_ends : (turns : ℕ)
        → (run turns unit m device answers).ending ≢ source.OutOfTurns
        → (enough : ℕ) × ((past : Past) (now : Run) (more : List Answer)
        → IsSession b m device past now → past.answers ++ more ≡ answers
        → turn_of now.state.status ≡ turn.Spent → past.steps < enough)
    session_ends turns ended = by_body (body_of c m) refl
      where
        by_body : (o : Option AttributeFields) → body_of c m ≡ o
            → (enough : ℕ) × ((past : Past) (now : Run) (more : List Answer)
            → IsSession b m device past now → past.answers ++ more ≡ answers
            → turn_of now.state.status ≡ turn.Spent → past.steps < enough)
        by_body None none = (
          0,
          λ past now more is taken spent.
              let clash : Some is.opens.0 ≡ None = sym is.opens.1 ∙ none in absurd cc,
        )
        by_body (Some row) found =
            let on = plays unit b valid agrees m row found device answers are all turns ended in
            let never : (machine_of row on.0 device answers).ending ≢ image.OutOfSteps =
            λ e. not_out (run turns unit m device answers).ending ended
            (sym on.1.ending ∙ e) in (
              on.0,
              λ past now more is taken spent. elim (cases_lt past.steps on.0) [
                | inl below ↦ below
                | inr above ↦ absurd (never
                    (sym (ap (λ (o : Outcome). o.ending)
                    (stays unit b valid agrees m row found device answers are all on.0 past.steps
                    above never))
                    ∙ still_out row past now more found is taken spent))
              ],
            )

  -- ---- drives

  module _ (m : MethNo) (device : List ℤ) (steps : ℕ) (pairs : List Pair) (now : Run)
      (is : IsDriven b m device steps pairs now) where
    abbrev past : Past
    past = with_run nothing_done (answers_of pairs) (driven is.first steps pairs)

    session : IsSession b m device past now
    session = record {
      first = is.first;
      image = is.image;
      opens = is.opens;
      accepted = is.accepted;
      comes = Driven nothing_done is.first now steps pairs Started is.drives;
    }

    requests_are : past.requests ≡ requests_of pairs ++ standing now.state.status
    requests_are =
        sym (ap (λ (s : State). standing s.status ++ past.requests) is.opens.2)
        ∙ is.met
        ∙ ap (λ (s : State). requests_of pairs ++ standing s.status) (sym is.drives.state)

    pub drive_over : turn_of now.state.status ≢ turn.Spent
        → (turns : ℕ) × SameSession (string_numbered c)
        (run turns unit m device (answers_of pairs))
        (requests_of pairs ++ standing now.state.status) (driven is.first steps pairs).changes now
    drive_over ended =
        let there = session_over m device past now session ended in (
          there.0,
          subst (λ (rs : List Request). SameSession (string_numbered c)
              (run there.0 unit m device (answers_of pairs)) rs
              (driven is.first steps pairs).changes now) requests_are there.1,
        )

    pub drive_begins : turn_of now.state.status ≡ turn.Spent
        → BeginsWith (string_numbered c) unit m device (answers_of pairs)
        (requests_of pairs ++ standing now.state.status) (driven is.first steps pairs).changes
    drive_begins spent =
        subst (λ (rs : List Request). BeginsWith (string_numbered c) unit m device
        (answers_of pairs) rs (driven is.first steps pairs).changes) requests_are
        (session_begins m device past now session spent)
