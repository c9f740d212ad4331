-- Why an answer is not taken.
use Rattle.std.specs.Prelude.{ℤ, List, [], Option, Some, None, option_map, ⊤, FitsSigned}
use Rattle.std.specs.Int.{w32}
use Rattle.edd_syntax.specs.declared.numbers.VarNo.{VarNo}
use Rattle.edd_syntax.specs.Answers.{Answer, Go, Abort, Change, SetFault, answer_fault}
use Rattle.edd_syntax.specs.DeviceValues.{VariableType}
use Rattle.edd_instructions.specs.declared.records.Status.{Status}
use Rattle.edd_instructions.specs.declared.records.Status.TheVariants as status

-- no request is pending, or a set can't be made
pub data Refusal : Type 0 where
  NotAsking : Refusal
  BadSet : SetFault → Refusal

-- why an answer is not taken in a state of this status; of its sets the first that has a fault
-- decides
abbrev pub refusal : List VariableType → Status → Answer → Option Refusal
refusal types (status.Asking r) answer = option_map BadSet (answer_fault types answer)
refusal types _ answer = Some NotAsking

-- ---- the sets of an answer

-- a set that is written in an answer, as a change
abbrev pub change_of : VarNo × ℤ → Change
change_of set = record { variable = set.0; value = set.1 }

-- the sets of an answer, none where the method ends
abbrev pub sets_of : Answer → List Change
sets_of (Go code sets) = sets
sets_of Abort = []

-- the code of an answer, none where the method ends
abbrev pub code_of : Answer → Option ℤ
code_of (Go code sets) = Some code
code_of Abort = None

-- the answer with this code that sets nothing
abbrev pub without_sets : Option ℤ → Answer
without_sets (Some code) = Go code []
without_sets None = Abort

-- the code of an answer has 32 bits
abbrev pub CodeFits : Answer → Type 0
CodeFits (Go code sets) = FitsSigned w32 code
CodeFits Abort = ⊤
