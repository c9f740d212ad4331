-- What a host answers to a request.
use Rattle.std.specs.Prelude.{◌≡◌, ℤ, List, [], ◌∷◌, map, Option, Some, None, if◌then◌else◌, ⊤, FitsSigned, slice_get, slice_set}
use Rattle.std.specs.Int.{w32}
use Rattle.edd_syntax.specs.declared.numbers.VarNo.{VarNo}
use Rattle.edd_syntax.specs.DeviceValues.{VariableType, is_in_range}
use Rattle.edd_syntax.specs.declared.answer.Answer as code
use Rattle.edd_syntax.specs.declared.answer.Answer.TheVariants as written

-- a variable and its new value
pub record Change : Type 0 where
  pub variable : VarNo
  pub value : ℤ

-- a code, after variables were set in order, or an abort: the abort methods run first, and then the
-- method is over
pub data Answer : Type 0 where
  Go : (code : ℤ) → (sets : List Change) → Answer
  Abort : Answer

-- the answer that an answer in the code stands for
abbrev pub answer_of : code.Answer → Answer
answer_of (written.Go code sets) =
    Go code (map (λ set. record { variable = set.0; value = set.1 }) sets.items)
answer_of written.Abort = Abort

-- ---- valid answers

-- why an answer can't be taken: it sets a variable that doesn't exist, or to a value out of its
-- range
pub data SetFault : Type 0 where
  BadVariable : SetFault
  OutOfRange : SetFault

-- the fault of one set
abbrev pub set_fault : List VariableType → Change → Option SetFault
set_fault types set = elim (slice_get types set.variable.0) [
  | None ↦ Some BadVariable
  | Some t ↦ if is_in_range t set.value then None else Some OutOfRange
]

-- the fault of the first set that has one
abbrev pub sets_fault : List VariableType → List Change → Option SetFault
sets_fault types [] = None
sets_fault types (set ∷ rest) = elim (set_fault types set) [
  | Some fault ↦ Some fault
  | None ↦ sets_fault types rest
]

-- the fault of an answer; an abort has none
abbrev pub answer_fault : List VariableType → Answer → Option SetFault
answer_fault types (Go code sets) = sets_fault types sets
answer_fault types Abort = None

-- the code is one of 32 bits, and each set names a variable and a value in its range
abbrev pub IsValidAnswer : List VariableType → Answer → Type 0
IsValidAnswer types (Go code sets) = FitsSigned w32 code × (sets_fault types sets ≡ None)
IsValidAnswer types Abort = ⊤

-- the values after the sets, in their order
abbrev pub values_set : List ℤ → List Change → List ℤ
values_set values [] = values
values_set values (set ∷ rest) = values_set (slice_set values set.variable.0 set.value) rest
