-- The lines of what a method of an image does are those of the method of the unit that it agrees with.
use Rattle.std.proofs.Common.{◌≡◌, ◌≢◌, ◌⊎◌, inl, inr, ℕ, ℤ, List, [], ◌∷◌, ◌++◌, Option, Some, None, refl, sym, ap, subst, ◌∙◌}
use Rattle.std.specs.Prelude.{codes, option_map, slice_get}
use Rattle.std.specs.Fmt.{signed_decimal}
use Rattle.std.specs.List.{AllByRecursion, flat_map, range_with_len}
use Rattle.std.specs.Io.KnownBytes.{Appends}
use Rattle.edd_syntax.specs.declared.numbers.ItemNo.TheVariants as items
use Rattle.edd_syntax.specs.declared.numbers.Kind.TheVariants as kind
use Rattle.edd_syntax.specs.declared.numbers.MethNo.{MethNo}
use Rattle.edd_syntax.specs.declared.reference.Target.{Target}
use Rattle.edd_syntax.specs.Answers.{Change, IsValidAnswer, values_set}
use Rattle.edd_syntax.specs.DeviceValues.{VariableType}
use Rattle.edd_syntax.specs.Execution as source
use Rattle.edd_syntax.specs.Execution.{Transcript, run}
use Rattle.edd_syntax.specs.Item.{Description}
use Rattle.edd_syntax.specs.MethodState as meant
use Rattle.edd_syntax.specs.MethodState.{NumberArgument, TextArgument, VariableArgument}
use Rattle.edd_image.specs.Contents.{AttributeFields, Contents, contents_in}
use Rattle.edd_instructions.specs.declared.requests.Request.{Request}
use Rattle.edd_instructions.specs.declared.requests.RequestArgument.{RequestArgument}
use Rattle.edd_instructions.specs.declared.requests.RequestArgument.TheVariants as argument
use Rattle.edd_instructions.specs.AbortMethods.{execute_in}
use Rattle.edd_instructions.specs.Agreement.{string_numbered}
use Rattle.edd_instructions.specs.Execution as image
use Rattle.edd_instructions.specs.Execution.{Outcome}
use Rattle.edd_instructions.specs.MethodAgreement.{Agrees, SameArgument, SameArguments, SameRequest, SameRequests, ending_of}
use Rattle.edd_instructions.specs.Reading.{body_of, opening_of}
use Rattle.edd_instructions.specs.Requests.{arguments_asked}
use Rattle.edd_instructions.specs.Validity.{IsValid}
use Rattle.edd_machine.specs.Types.{types_in}
use Rattle.edd_port.specs.declared.playing.Ending.{Ending}
use Rattle.edd_port.specs.declared.playing.Ending.TheVariants as ending
use Rattle.edd_port.specs.declared.playing.Transcript as printed
use Rattle.edd_port.specs.Plays as plays
use Rattle.edd_port.specs.Plays.{played}
use Rattle.edd_display.specs.Played as played
use Rattle.edd_display.specs.Played.{argument_shown, arguments_shown, played_text, request_line, value_line}
use Rattle.edd_display.specs.Words.{name_of}
use Rattle.edd_promise.specs.Plays.{PlayShows, Shown}
use Rattle.edd_promise.proofs.ShownRuns.{shown_begins, shown_over}
use Rattle.edd_script.specs.Scripts.{Said}
use Rattle.edd_program.specs.Runs.{IsMethodNamed, IsPlayed, IsRun, IsSaid, IsTranscript}
use Rattle.edd_terminal.specs.Lines.{name_in}
use Rattle.edd_terminal.specs.Runs.{IsBegunRun, IsWholeRun, argument_line, ending_line, request_shown, run_shown, value_shown}
use Rattle.edd_terminal.specs.Terminal.{PlaysUnit}
use Rattle.edd_terminal.proofs.Records.{name_is, string_is}
use Rattle.edd_terminal.proofs.ValuesKept.{values_left}
use Rattle.edd_terminal.proofs.Views.{said_of_unit}

-- ---- endings

only_spent : (e : Ending) → plays.ending_shown e ≡ image.OutOfSteps → e ≡ ending.Spent
only_spent ending.Spent is = refl
only_spent _ is = absurd cc

ending_is : (e : Ending) (s : source.Ending) → plays.ending_shown e ≡ ending_of s
    → played.ending_shown e ≡ ending_line s
ending_is ending.Ended source.Ended same = refl
ending_is ending.Aborted source.Aborted same = refl
ending_is (ending.Trapped why) (source.Trapped other) same =
    let one : why ≡ other = cc in ap (λ w. ending_line (source.Trapped w)) one
ending_is ending.Waiting source.Waiting same = refl
ending_is ending.Spent source.OutOfTurns same = refl
ending_is _ _ same = absurd cc

-- ---- requests that are parted

module _ (numbered : _ → _) where
  -- requests that say the same as two lists one after the other
  record AreParted (xs : List meant.Request) (rs more : List Request) : Type 0 where
    first : List meant.Request
    later : List meant.Request
    joined : xs ≡ first ++ later
    same : SameRequests numbered first rs

  parted : (xs : List meant.Request) (rs more : List Request)
      → SameRequests numbered xs (rs ++ more) → AreParted xs rs more
  parted xs [] more same = record { first = []; later = xs; joined = refl; same = tt }
  parted [] (r ∷ rs) more same = absurd same
  parted (x ∷ xs) (r ∷ rs) more same =
      let rest = parted xs rs more same.1 in record {
        first = x ∷ rest.first;
        later = rest.later;
        joined = ap (λ (all : List meant.Request). x ∷ all) rest.joined;
        same = (same.0, rest.same);
      }

module _ (unit : Description Target) (b : List ℕ) (valid : IsValid b)
    (agrees : Agrees unit (contents_in b)) where
  abbrev c : Contents
  c = contents_in b

  -- ---- lines

  module _ (code : List ℕ) where
    argument_is : (x : meant.RequestArgument) (r : RequestArgument)
        → SameArgument (string_numbered c) x r
        → argument_shown c code r ≡ argument_line unit code x
    argument_is (TextArgument text) (argument.Text n) same =
        ap (λ (shown : List ℕ). 32 ∷ shown) (string_is unit c agrees.on_data code text n same)
    argument_is (NumberArgument number) (argument.Number n) same =
        ap (λ (z : ℤ). 32 ∷ signed_decimal z) same
    argument_is (VariableArgument variable) (argument.Variable v) same =
        ap (λ v. 32 ∷ name_of c (items.Variable v)) same
        ∙ ap (λ (name : List ℕ). 32 ∷ name) (name_is unit c agrees.on_data (items.Variable variable))
    argument_is _ _ same = absurd same

    arguments_are : (xs : List meant.RequestArgument) (rs : List RequestArgument)
        → SameArguments (string_numbered c) xs rs
        → flat_map (argument_shown c code) rs ≡ flat_map (argument_line unit code) xs
    arguments_are [] [] same = refl
    arguments_are [] (r ∷ rs) same = absurd same
    arguments_are (x ∷ xs) [] same = absurd same
    arguments_are (x ∷ xs) (r ∷ rs) same =
        ap (λ (shown : List ℕ). shown ++ flat_map (argument_shown c code) rs)
        (argument_is x r same.0)
        ∙ ap (λ (more : List ℕ). argument_line unit code x ++ more) (arguments_are xs rs same.1)

    request_is : (x : meant.Request) (r : Request) → SameRequest (string_numbered c) x r
        → request_line c code r ≡ request_shown unit code x
    unfolding request_line request_shown arguments_shown
    request_is x r same = rw (arguments_are x.arguments (arguments_asked r) same.1, same.0) refl

    requests_are : (xs : List meant.Request) (rs : List Request)
        → SameRequests (string_numbered c) xs rs
        → flat_map (request_line c code) rs ≡ flat_map (request_shown unit code) xs
    requests_are [] [] same = refl
    requests_are [] (r ∷ rs) same = absurd same
    requests_are (x ∷ xs) [] same = absurd same
    requests_are (x ∷ xs) (r ∷ rs) same =
        ap (λ (shown : List ℕ). shown ++ flat_map (request_line c code) rs) (request_is x r same.0)
        ∙ ap (λ (more : List ℕ). request_shown unit code x ++ more) (requests_are xs rs same.1)

    value_is : (values : List ℤ) (number : ℕ)
        → value_line c values number ≡ value_shown unit code values number
    value_is values number = by (slice_get values number)
      where
        by : (o : Option ℤ) → elim o as (λ _. List ℕ) [
          | None ↦ []
          | Some z ↦
              codes "value " ++ name_of c (items.Variable (record { 0 = number }))
              ++ 32 ∷ signed_decimal z ++ 10 ∷ []
        ] ≡ elim o as (λ _. List ℕ) [
          | None ↦ []
          | Some z ↦
              codes "value " ++ name_in unit (items.Variable (record { 0 = number }))
              ++ 32 ∷ signed_decimal z ++ 10 ∷ []
        ]
        by None = refl
        by (Some z) = ap (λ (name : List ℕ). codes "value " ++ name ++ 32 ∷ signed_decimal z
            ++ 10 ∷ []) (name_is unit c agrees.on_data (items.Variable (record { 0 = number })))

    values_are : (values : List ℤ) (numbers : List ℕ)
        → flat_map (value_line c values) numbers ≡ flat_map (value_shown unit code values) numbers
    values_are values [] = refl
    values_are values (number ∷ rest) =
        ap (λ (shown : List ℕ). shown ++ flat_map (value_line c values) rest)
        (value_is values number)
        ∙ ap (λ (more : List ℕ). value_shown unit code values number ++ more)
        (values_are values rest)

    -- the text of what was shown
    text_is : (t : printed.Transcript) (xs : List meant.Request) (s : source.Ending)
        (values : List ℤ) → SameRequests (string_numbered c) xs t.requests.items
        → plays.ending_shown t.ending ≡ ending_of s → t.values.numbers.items ≡ values
        → played_text c code t ≡ run_shown unit code xs s values
    unfolding played_text run_shown
    text_is t xs s values requests ended left =
        let counted : c.counts.variables ≡ _ = agrees.on_data.counts kind.Variable in
        rw (
          requests_are xs t.requests.items requests,
          ending_is t.ending s ended,
          left,
          values_are values (range_with_len 0 c.counts.variables),
          counted,
        ) refl

  -- ---- a run

  module _ (code : List ℕ) (method : MethNo) (said : Said) (steps : ℕ) (t : printed.Transcript)
      (all : AllByRecursion (IsValidAnswer (types_in b)) said.answers) where
    abbrev shown : Shown
    shown = record {
      requests = t.requests.items;
      values = t.values.numbers.items;
      ending = t.ending;
    }

    abbrev meant_run : (turns : ℕ) → Transcript
    meant_run turns = run turns unit method said.values said.answers

    whole : PlayShows b method said.values steps said.answers shown → t.ending ≢ ending.Spent
        → IsWholeRun unit code method said (played_text c code t)
    whole p ended =
        let over = shown_over unit b valid agrees method said.values said.answers all steps shown p
        ended in
        let is = over.1 in record {
          turns = over.0;
          over = λ out. ended (only_spent t.ending (is.ending ∙ ap ending_of out));
          shown = text_is code t (meant_run over.0).requests (meant_run over.0).ending
              (meant_run over.0).values is.requests is.ending is.values;
        }

    -- the values that the run left
    left_by : (o : Option AttributeFields) (values : List ℤ) (changed : List Change)
        → option_map (λ x. x.state.values) (option_map (λ row. execute_in c steps
        (opening_of c row said.values) said.answers) o) ≡ Some values
        → option_map (λ x. x.changes) (option_map (λ row. execute_in c steps
        (opening_of c row said.values) said.answers) o) ≡ Some changed
        → values ≡ values_set said.values changed
    left_by None values changed left made = absurd cc
    left_by (Some row) values changed left made =
        let o : Outcome = execute_in c steps (opening_of c row said.values) said.answers in
        let here : o.state.values ≡ values = cc in
        let so : o.changes ≡ changed = cc in
        sym here ∙ values_left c steps (opening_of c row said.values) said.answers
        ∙ ap (values_set said.values) so

    begun : PlayShows b method said.values steps said.answers shown → t.ending ≡ ending.Spent
        → IsBegunRun unit code method said (played_text c code t)
    begun p spent =
        let front = shown_begins unit b valid agrees method said.values said.answers all steps shown
        p spent in
        let is = front.2 in
        let parts = parted (string_numbered c) (meant_run is.turns).requests t.requests.items is.more
        is.requests in record {
          turns = is.turns;
          requests = parts.first;
          more = parts.later;
          changes = front.0;
          later = is.later;
          asked = parts.joined;
          made = is.changes;
          shown = text_is code t parts.first source.OutOfTurns (values_set said.values front.0)
              parts.same (ap plays.ending_shown spent)
              (left_by (body_of c method) t.values.numbers.items front.0 p.values front.1);
        }

    one_or_other : PlayShows b method said.values steps said.answers shown → (e : Ending)
        → t.ending ≡ e
        → IsWholeRun unit code method said (played_text c code t)
        ⊎ IsBegunRun unit code method said (played_text c code t)
    one_or_other p ending.Spent is = inr (begun p is)
    one_or_other p e is = inl (whole p (λ spent. let clash : e ≡ ending.Spent = sym is ∙ spent in cc))

  -- what a run of the image prints is what the unit's method does
  plays_run : (script name code : List ℕ) (steps : ℕ) (t : printed.Transcript)
      (old new : Option (List ℕ)) (said : Said) (method : MethNo) → IsSaid b script said
      → IsMethodNamed b name method → IsTranscript b method said steps t
      → Appends old new (played_text c code t) → PlaysUnit unit script name code old new
  plays_run script name code steps t old new said method says named shows appends = (
    said,
    method,
    played_text c code t,
    said_of_unit unit b agrees.on_data script said says,
    sym (agrees.on_data.names (items.Method method)) ∙ named.0,
    appends,
    λ all. one_or_other code method said steps t
        (subst (λ (types : List VariableType). AllByRecursion (IsValidAnswer types) said.answers)
        (sym agrees.on_data.types) all)
        (record {
          accepted = says.1;
          requests = shows.0;
          values = shows.1;
          ending = shows.2;
        }) t.ending refl,
  )

  of_run : (script name code : List ℕ) (steps : ℕ) (t : printed.Transcript)
      (old new : Option (List ℕ)) → IsRun b script name steps t
      → Appends old new (played_text c code t) → PlaysUnit unit script name code old new
  unfolding IsRun
  of_run script name code steps t old new is appends =
      plays_run script name code steps t old new is.0 is.1 is.2 is.3 is.4 appends

  pub plays_unit : (script name code : List ℕ) (steps : ℕ) (old new : Option (List ℕ))
      → IsPlayed b script name code steps old new → PlaysUnit unit script name code old new
  unfolding IsPlayed
  plays_unit script name code steps old new is =
      of_run script name code steps is.0 old new is.1 is.2
