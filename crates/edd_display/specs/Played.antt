-- The lines of a method's run.
use Rattle.std.specs.Prelude.{ℕ, ℤ, List, [], ◌∷◌, ◌++◌, Some, None, slice_get, codes}
use Rattle.std.specs.Fmt.{signed_decimal}
use Rattle.std.specs.List.{flat_map, range_with_len}
use Rattle.edd_syntax.specs.declared.numbers.ItemNo.TheVariants as items
use Rattle.edd_syntax.specs.Builtins.{request_name}
use Rattle.edd_image.specs.Contents.{Contents}
use Rattle.edd_instructions.specs.declared.requests.Request.{Request}
use Rattle.edd_instructions.specs.declared.requests.RequestArgument.{RequestArgument}
use Rattle.edd_instructions.specs.declared.requests.RequestArgument.TheVariants as argument
use Rattle.edd_instructions.specs.Requests.{arguments_asked, kind_asked}
use Rattle.edd_port.specs.declared.playing.Ending.{Ending}
use Rattle.edd_port.specs.declared.playing.Ending.TheVariants.{Ended, Aborted, Trapped, Waiting, Spent}
use Rattle.edd_port.specs.declared.playing.Transcript.{Transcript}
use Rattle.edd_display.specs.Words.{trap_word, string_shown, name_of}

-- an argument of a request, after a blank
abbrev pub argument_shown : Contents → (code : List ℕ) → RequestArgument → List ℕ
argument_shown c code (argument.Text text) = 32 ∷ string_shown c code text
argument_shown c code (argument.Number number) = 32 ∷ signed_decimal number
argument_shown c code (argument.Variable variable) = 32 ∷ name_of c (items.Variable variable)

-- the arguments of a request in written order
unfoldable pub arguments_shown : Contents → (code : List ℕ) → Request → List ℕ
arguments_shown c code r = flat_map (argument_shown c code) (arguments_asked r)

-- the line of a request
unfoldable pub request_line : Contents → (code : List ℕ) → Request → List ℕ
request_line c code r =
    codes "ask " ++ request_name (kind_asked r) ++ arguments_shown c code r ++ 10 ∷ []

-- how a run ended
abbrev pub ending_shown : Ending → List ℕ
ending_shown Ended = codes "end ended"
ending_shown Aborted = codes "end aborted"
ending_shown (Trapped why) = codes "end trapped " ++ trap_word why
ending_shown Waiting = codes "end waiting"
ending_shown Spent = codes "end spent"

-- the line of a variable's value, where it has one
abbrev pub value_line : Contents → List ℤ → (number : ℕ) → List ℕ
value_line c values number = elim (slice_get values number) [
  | None ↦ []
  | Some z ↦
      codes "value " ++ name_of c (items.Variable (record { 0 = number })) ++ 32 ∷ signed_decimal z
      ++ 10 ∷ []
]

-- the requests in their order, how the run ended, and the values that it leaves by number
unfoldable pub played_text : Contents → (code : List ℕ) → Transcript → List ℕ
played_text c code t =
    flat_map (request_line c code) t.requests.items ++ (ending_shown t.ending ++ 10 ∷ [])
    ++ flat_map (value_line c t.values.numbers.items) (range_with_len 0 c.counts.variables)
