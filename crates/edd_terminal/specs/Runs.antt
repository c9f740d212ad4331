-- The lines of what a description's method does.
use Rattle.std.specs.Prelude.{◌≡◌, ◌≢◌, ℕ, ℤ, List, [], ◌∷◌, ◌++◌, Some, None, option_map, slice_get, codes}
use Rattle.std.specs.Fmt.{signed_decimal}
use Rattle.std.specs.List.{flat_map, range_with_len}
use Rattle.edd_syntax.specs.declared.numbers.ItemNo.TheVariants as items
use Rattle.edd_syntax.specs.declared.numbers.Kind.TheVariants as kind
use Rattle.edd_syntax.specs.declared.numbers.MethNo.{MethNo}
use Rattle.edd_syntax.specs.declared.reference.Target.{Target}
use Rattle.edd_syntax.specs.Answers.{Change, values_set}
use Rattle.edd_syntax.specs.Builtins.{request_name}
use Rattle.edd_syntax.specs.Device.{item_at}
use Rattle.edd_syntax.specs.Execution.{Aborted, Ended, Ending, OutOfTurns, Trapped, Waiting, run}
use Rattle.edd_syntax.specs.Item.{Description}
use Rattle.edd_syntax.specs.MethodState.{NumberArgument, Request, RequestArgument, TextArgument, VariableArgument}
use Rattle.edd_syntax.specs.Resolution.{count_of}
use Rattle.edd_syntax.specs.Text.{Name}
use Rattle.edd_display.specs.Words.{trap_word}
use Rattle.edd_script.specs.Scripts.{Said}
use Rattle.edd_terminal.specs.Lines.{name_in, words_shown}

-- how a run ended, or that its steps are used up
abbrev pub ending_line : Ending → List ℕ
ending_line Ended = codes "end ended"
ending_line Aborted = codes "end aborted"
ending_line (Trapped why) = codes "end trapped " ++ trap_word why
ending_line Waiting = codes "end waiting"
ending_line OutOfTurns = codes "end spent"

module _ (unit : Description Target) (code : List ℕ) where
  -- an argument of a request, after a blank
  abbrev pub argument_line : RequestArgument → List ℕ
  argument_line (TextArgument text) = 32 ∷ words_shown code text
  argument_line (NumberArgument number) = 32 ∷ signed_decimal number
  argument_line (VariableArgument variable) = 32 ∷ name_in unit (items.Variable variable)

  -- the line of a request
  unfoldable pub request_shown : Request → List ℕ
  request_shown r =
      codes "ask " ++ request_name r.kind ++ flat_map argument_line r.arguments ++ 10 ∷ []

  -- the line of a variable's value
  abbrev pub value_shown : (values : List ℤ) → (number : ℕ) → List ℕ
  value_shown values number = elim (slice_get values number) [
    | None ↦ []
    | Some z ↦
        codes "value " ++ name_in unit (items.Variable (record { 0 = number }))
        ++ 32 ∷ signed_decimal z ++ 10 ∷ []
  ]

  -- the requests in their order, how the run ended, and the values that it leaves by number
  unfoldable pub run_shown : List Request → Ending → (values : List ℤ) → List ℕ
  run_shown requests ending values =
      flat_map request_shown requests ++ (ending_line ending ++ 10 ∷ [])
      ++ flat_map (value_shown values) (range_with_len 0 (count_of kind.Variable unit.items))

-- this method has the name
abbrev pub IsMethodOf : Description Target → Name → MethNo → Type 0
IsMethodOf unit name method =
    option_map (λ i. i.name) (item_at unit (items.Method method)) ≡ Some name

-- The text is that of the method's whole run under what the script says.
pub record IsWholeRun (unit : Description Target) (code : List ℕ) (method : MethNo) (said : Said)
    (text : List ℕ) : Type 0 where
  pub turns : ℕ
  pub over : (run turns unit method said.values said.answers).ending ≢ OutOfTurns
  pub shown : let t = run turns unit method said.values said.answers in
      text ≡ run_shown unit code t.requests t.ending t.values

-- The text is that of the beginning of the method's run: of its first requests, and of the values
-- that its first changes leave.
pub record IsBegunRun (unit : Description Target) (code : List ℕ) (method : MethNo) (said : Said)
    (text : List ℕ) : Type 0 where
  pub turns : ℕ
  pub requests : List Request
  pub more : List Request
  pub changes : List Change
  pub later : List Change
  pub asked : (run turns unit method said.values said.answers).requests ≡ requests ++ more
  pub made : (run turns unit method said.values said.answers).changes ≡ changes ++ later
  pub shown : text ≡ run_shown unit code requests OutOfTurns (values_set said.values changes)
