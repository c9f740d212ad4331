-- In a valid image no run is stuck, and no valid answer is bad, abort methods and all.
use Rattle.std.proofs.Common.{◌≡◌, refl, sym, ap, subst, ◌∙◌, ℕ, suc, ℤ, Bool, true, false, List, [], ◌∷◌, Option, Some, None}
use Rattle.std.specs.Prelude.{option_map}
use Rattle.std.specs.List.{AllByRecursion}
use Rattle.edd_syntax.specs.declared.numbers.MethNo.{MethNo}
use Rattle.edd_syntax.specs.Answers.{Answer, SetFault, IsValidAnswer, answer_fault}
use Rattle.edd_syntax.specs.DeviceValues.{AreDeviceValues}
use Rattle.edd_instructions.specs.declared.requests.Request.{Request}
use Rattle.edd_instructions.specs.declared.records.Status.{Status}
use Rattle.edd_instructions.specs.declared.records.Status.TheVariants as status
use Rattle.edd_image.specs.Contents.{AttributeFields, Contents, contents_in}
use Rattle.edd_instructions.specs.Reading.{body_of, environment_of, opening_of}
use Rattle.edd_instructions.specs.Steps.{State, Environment, Effect, step}
use Rattle.edd_instructions.specs.Execution.{Ending, Bad, Stuck, IsGoodEnding, Outcome, answered, request_in, preceded, stepped}
use Rattle.edd_instructions.specs.AbortMethods.{start_in, start_listed, next_at, next, execute_in}
use Rattle.edd_instructions.specs.Validity.{IsValid, placed_unit}
use Rattle.edd_instructions.proofs.BoundedRuns.{no_fault}
use Rattle.edd_instructions.proofs.NextStates.{next_in_unit}
use Rattle.edd_machine.specs.declared.code_unit.CodeUnit.{CodeUnit}
use Rattle.edd_machine.specs.Running.{unit_at, IsStateIn}
use Rattle.edd_machine.specs.Types.{types_in}
use Rattle.edd_machine.proofs.Aborting.{first_starts, first_passed, aborting_there, aborted_there}
use Rattle.edd_machine.proofs.Answering.{answered_there}
use Rattle.edd_machine.proofs.BodyUnits.{is_body_unit, body_opens}
use Rattle.edd_machine.proofs.Stepping.{valid_there, state_again, opened}
use Rattle.edd_promise.proofs.EveryRun.{at_rest, Rests, every_run}

module _ (b : List ℕ) (valid : IsValid b) where
  abbrev c : Contents
  c = contents_in b

  abbrev env : Environment
  env = environment_of c

  -- it is a state of some unit of the image
  abbrev pub IsIn : State → Type 0
  IsIn s = (u : CodeUnit) × IsStateIn b u s

  -- ---- what follows

  by_row : (m : MethNo) (rest : List MethNo) (s : State) (u : CodeUnit) → IsStateIn b u s
      → IsIn (start_listed (start_in c) rest s) → (o : Option AttributeFields) → body_of c m ≡ o
      → IsIn (start_listed (start_in c) (m ∷ rest) s)
  by_row m rest s u is later None e =
      let found : None ≡ option_map (unit_at b) (body_of c m) =
      sym (ap (option_map (unit_at b)) e) in
      subst (λ (t : State). IsIn t) (sym (first_passed b m rest s found)) later
  by_row m rest s u is later (Some row) e =
      let found : Some (unit_at b row) ≡ option_map (unit_at b) (body_of c m) =
      sym (ap (option_map (unit_at b)) e) in
      subst (λ (t : State). IsIn t) (sym (first_starts b m rest s (unit_at b row) valid found)) (
        unit_at b row,
        aborting_there b (unit_at b row) rest s valid
            (is_body_unit b m (unit_at b row) valid found).unit is.state.values,
      )

  listed_there : (methods : List MethNo) (s : State) (u : CodeUnit) → IsStateIn b u s
      → IsIn (start_listed (start_in c) methods s)
  listed_there [] s u is = (u, aborted_there b u [] s is)
  listed_there (m ∷ rest) s u is =
      by_row m rest s u is (listed_there rest s u is) (body_of c m) refl

  follows_there : (s : State) → IsIn s → IsIn (next (start_in c) s)
  follows_there s at = by_status s.status s.is_aborting
    where
      by_status : (st : Status) (on : Bool) → IsIn (next_at (start_in c) st on s)
      by_status status.Running on = at
      by_status (status.Asking r) on = at
      by_status status.Ended true = listed_there s.abort_methods s at.0 at.1
      by_status status.Ended false = at
      by_status status.Aborted true = at
      by_status status.Aborted false = listed_there s.abort_methods s at.0 at.1
      by_status (status.Trapped why) on = at

  -- a running state has a step, and what comes of it and follows it is a state again
  steps_there : (s : State) → IsIn s → s.status ≡ status.Running
      → (e : Effect) × (step env s ≡ Some e) × IsIn (next (start_in c) e.state)
  steps_there s at running =
      let is = at.1 in
      let on = next_in_unit (placed_unit c is.unit.row).context env s
      (valid_there b at.0 s valid is running) is.state running in (
        on.0,
        on.1,
        follows_there on.0.state (at.0, state_again b at.0 s valid is running on.0 on.1 on.2.1),
      )

  -- ---- every run

  abbrev ValidAnswers : List Answer → Type 0
  ValidAnswers answers = AllByRecursion (IsValidAnswer (types_in b)) answers

  abbrev Good : ℕ → State → List Answer → Outcome → Type 0
  Good n s answers o = IsIn s → ValidAnswers answers → IsGoodEnding o.ending × IsIn o.state

  good_ending : (ending : Ending) → (ending ≡ Stuck → ⊥) → ((f : SetFault) → ending ≡ Bad f → ⊥)
      → IsGoodEnding ending
  good_ending (Bad fault) goes fine = absurd (fine fault refl)
  good_ending Stuck goes fine = absurd (goes refl)
  good_ending _ goes fine = tt

  no_fault_in : (a : Answer) (rest answers : List Answer) (f : SetFault) → answers ≡ a ∷ rest
      → ValidAnswers answers → answer_fault env.types a ≡ Some f → ⊥
  no_fault_in a rest answers f same all bad =
      let first : IsValidAnswer (types_in b) a = (subst (λ (xs : List Answer). ValidAnswers xs) same
      all).0 in
      let clash : None ≡ Some f = sym (no_fault env a first) ∙ bad in
      cc

  good_rests : (n : ℕ) (s : State) (answers : List Answer) (ending : Ending)
      → Rests c n s answers ending → Good n s answers (at_rest s answers ending)
  good_rests n s answers ending rests at all = (
    good_ending ending
        (λ e. let stuck = rests.stuck e in
        let on = steps_there s at stuck.0 in
        let clash : None ≡ Some on.0 = sym stuck.1 ∙ on.1 in
        cc)
        (λ f e. let bad = rests.bad f e in no_fault_in bad.0 bad.1 answers f bad.2 all bad.3),
    at,
  )

  good_steps : (n : ℕ) (s : State) (answers : List Answer) (e : Effect) (o : Outcome)
      → s.status ≡ status.Running → step env s ≡ Some e
      → Good n (next (start_in c) e.state) answers o
      → Good (suc n) s answers (stepped (preceded (request_in e.emitted) e.changes o))
  good_steps n s answers e o running is behind at all =
      let on = steps_there s at running in
      let same' : Some on.0 ≡ Some e = sym on.1 ∙ is in
      let same : on.0 ≡ e = cc in
      behind (subst (λ (x : Effect). IsIn (next (start_in c) x.state)) same on.2) all

  good_answers : (n : ℕ) (s : State) (r : Request) (a : Answer) (rest : List Answer) (o : Outcome)
      → s.status ≡ status.Asking r → answer_fault env.types a ≡ None
      → Good n (next (start_in c) (answered s a).state) rest o
      → Good n s (a ∷ rest) (preceded [] (answered s a).changes o)
  good_answers n s r a rest o asks fine behind at all =
      behind (follows_there (answered s a).state
      (at.0, answered_there b at.0 s r a at.1 asks all.0)) all.1

  pub never_stuck : (n : ℕ) (s : State) (answers : List Answer) → IsIn s → ValidAnswers answers
      → IsGoodEnding (execute_in c n s answers).ending × IsIn (execute_in c n s answers).state
  never_stuck = every_run c Good (record {
    rests = good_rests;
    steps = good_steps;
    answers = good_answers;
  })

  -- a method opens in a state of its body's unit
  pub opens_there : (method : MethNo) (row : AttributeFields) (values : List ℤ)
      → body_of c method ≡ Some row → AreDeviceValues (types_in b) values
      → IsIn (opening_of c row values)
  opens_there method row values found are =
      let body = is_body_unit b method (unit_at b row) valid
      (sym (ap (option_map (unit_at b)) found)) in (
        unit_at b row,
        opened b (unit_at b row) (opening_of c row values) values valid body.unit are
            (sym (body_opens b method row values valid found)),
      )
