-- What a command says to the request of a method.
use Rattle.std.specs.Prelude.{◌≡◌, ◌≢◌, ℕ, ℤ, pos, ◌-ℤ◌, List, [], ◌∷◌, Option, Some, None, FitsSigned, ⊤, ◌⊎◌}
use Rattle.std.specs.Int.{w32}
use Rattle.edd_syntax.specs.Answers.{Answer, Go, Abort, answer_of, answer_fault}
use Rattle.edd_syntax.specs.DeviceValues.{VariableType, value_at}
use Rattle.edd_syntax.specs.declared.numbers.VarNo.{VarNo}
use Rattle.edd_image.specs.Contents.{contents_in}
use Rattle.edd_instructions.specs.AbortMethods.{answered_in}
use Rattle.edd_instructions.specs.declared.requests.Request.{Request}
use Rattle.edd_instructions.specs.declared.requests.Wanted.{Wanted}
use Rattle.edd_instructions.specs.declared.requests.Wanted.TheVariants as wanted
use Rattle.edd_instructions.specs.Requests.{wanted_by}
use Rattle.edd_instructions.specs.declared.records.Status.TheVariants.{Asking}
use Rattle.edd_machine.specs.Types.{types_in}
use Rattle.edd_port.specs.Runs.{Run}
use Rattle.edd_panel.specs.declared.command.Command.{Command}
use Rattle.edd_panel.specs.declared.command.Command.TheVariants as command
use Rattle.edd_panel.specs.declared.command.Happened.{Happened}
use Rattle.edd_panel.specs.declared.command.Happened.TheVariants as happened
use Rattle.edd_panel.specs.declared.command.Said.{Said}
use Rattle.edd_panel.specs.declared.command.Said.TheVariants as said
use Rattle.edd_panel.specs.declared.fault.EditFault.{EditFault}
use Rattle.edd_panel.specs.declared.fault.EditFault.TheVariants as fault
use Rattle.edd_panel.specs.Edits.{Rules, AreRules, value_fault}

-- this answer is said
abbrev pub SaysAnswer : Said → Answer → Type 0
SaysAnswer (said.Answer a) answer = answer_of a ≡ answer
SaysAnswer (said.Refused why) answer = ⊥
SaysAnswer said.Nothing answer = ⊥

-- the number is the value that a variable gets, or it is refused as this fault has it
abbrev pub SaysValueBy : VarNo → ℤ → Option EditFault → Said → Type 0
SaysValueBy v n None s = SaysAnswer s (Go (pos 0) (record { variable = v; value = n } ∷ []))
SaysValueBy v n (Some why) s = s ≡ said.Refused why

-- the number is a value for the variable: the type, the limits and the enumerators decide
abbrev pub SaysValue : List ℕ → List ℤ → VarNo → ℤ → Said → Type 0
SaysValue b values v n s = (rules : Rules) × AreRules b values v rules
    × SaysValueBy v n (value_fault rules (value_at values v) n) s

-- the number is a code of 32 bits, or is refused
abbrev pub SaysCode : ℤ → Said → Type 0
SaysCode n (said.Answer a) = answer_of a ≡ Go n []
SaysCode n (said.Refused why) = (why ≡ fault.BadCode) × (¬ FitsSigned w32 n)
SaysCode n said.Nothing = ⊥

-- the number is a choice, counted from 1, whose code is counted from 0, or is refused
abbrev pub SaysChoice : ℤ → Said → Type 0
SaysChoice n (said.Answer a) = answer_of a ≡ Go (n -ℤ pos 1) []
SaysChoice n (said.Refused why) = why ≡ fault.NoChoice
SaysChoice n said.Nothing = ⊥

-- what a number says where this is wanted
abbrev pub SaysWanted : List ℕ → List ℤ → Wanted → ℤ → Said → Type 0
SaysWanted b values wanted.Nothing n s = s ≡ said.Nothing
SaysWanted b values (wanted.Value v) n s = SaysValue b values v n s
SaysWanted b values (wanted.Choice choices) n s = SaysChoice n s
SaysWanted b values wanted.Code n s = SaysCode n s

-- what a number says to a request
abbrev pub SaysNumber : List ℕ → List ℤ → Request → ℤ → Said → Type 0
SaysNumber b values r n s = SaysWanted b values (wanted_by r) n s

-- what Enter alone says: where nothing else is wanted it is the answer
abbrev pub SaysSeen : Wanted → Said → Type 0
SaysSeen wanted.Nothing s = SaysAnswer s (Go (pos 0) [])
SaysSeen _ s = s ≡ said.Nothing

-- what it says to a request
abbrev pub SaysEnter : Request → Said → Type 0
SaysEnter r s = SaysSeen (wanted_by r) s

-- what a command says to a request under the values of the method
abbrev pub Says : List ℕ → List ℤ → Request → Command → Said → Type 0
Says b values r command.Enter s = SaysEnter r s
Says b values r command.Back s = s ≡ said.Nothing
Says b values r (command.Number n) s = SaysNumber b values r n s
Says b values r command.Abort s = SaysAnswer s Abort

-- an answer that is said is one that a session takes
abbrev pub IsTaken : List VariableType → Said → Type 0
IsTaken types (said.Answer a) = answer_fault types (answer_of a) ≡ None
IsTaken types (said.Refused why) = ⊤
IsTaken types said.Nothing = ⊤

-- ---- the run of a method

-- the run after an answer to its request
abbrev pub after_answer : Run → Answer → Run
after_answer r answer =
    record r { state = (answered_in (contents_in r.image) r.state answer).state }

-- what was said becomes of the run: a valid answer is given to it, and else it stays
abbrev pub Follows : Run → Said → Happened → Run → Type 0
Follows before (said.Answer a) h after = (h ≡ happened.Answered a)
    × (answer_fault (types_in before.image) (answer_of a) ≡ None)
    × (after ≡ after_answer before (answer_of a))
Follows before (said.Refused why) h after = (h ≡ happened.Refused why) × (after ≡ before)
Follows before said.Nothing h after = (h ≡ happened.Unknown) × (after ≡ before)

-- What becomes of a run and a command: to a pending request it says what it says, and a run that
-- doesn't ask stays.
abbrev pub Replies : Run → Command → Happened → Run → Type 0
Replies before c h after =
    ((r : Request) × (s : Said) × (before.state.status ≡ Asking r)
    × Says before.image before.state.values r c s × Follows before s h after)
    ⊎ (((r : Request) → before.state.status ≢ Asking r)
    × ((h ≡ happened.Shown) ⊎ (h ≡ happened.Unknown)) × (after ≡ before))
