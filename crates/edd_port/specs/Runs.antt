-- A session as the run that it is.
use Rattle.std.specs.Prelude.{◌≡◌, ℕ, ◌+◌, ◌-◌, ◌^◌, min, ℤ, List, [], Some}
use Rattle.edd_syntax.specs.declared.numbers.MethNo.{MethNo}
use Rattle.edd_image.specs.Contents.{AttributeFields, contents_in}
use Rattle.edd_instructions.specs.AbortMethods.{execute_in}
use Rattle.edd_instructions.specs.Execution.{Outcome, preceded}
use Rattle.edd_instructions.specs.Reading.{environment_of, body_of, opening_of}
use Rattle.edd_instructions.specs.Steps.{State, Environment}
use Rattle.edd_instructions.specs.Validity.{IsValid}
use Rattle.edd_machine.specs.declared.code_unit.CodeUnit.{CodeUnit}
use Rattle.edd_machine.specs.Running.{IsStateIn}

-- the bytes of the image, the state of the method on it, and how many instructions were executed so
-- far
pub record Run : Type 0 where
  pub image : List ℕ
  pub state : State
  pub taken : ℕ

-- what is round a run on these bytes
abbrev pub environment : List ℕ → Environment
environment b = environment_of (contents_in b)

-- a count of 64 bits, which stays at its greatest value
abbrev pub counted : ℕ → ℕ
counted n = min n (2 ^ 64 - 1)

-- the state is one of a unit of a valid image, and keeps what every state of it keeps
pub record IsRun (b : List ℕ) (s : State) : Type 0 where
  pub valid : IsValid b
  pub unit : CodeUnit
  pub state : IsStateIn b unit s

-- what at most so many instructions result in from where a run is, while no request is answered
abbrev pub advanced : Run → (budget : ℕ) → Outcome
advanced r budget = execute_in (contents_in r.image) budget r.state []

-- it is the state at the start of the method's body under these values
abbrev pub OpensIn : List ℕ → MethNo → (values : List ℤ) → State → Type 0
OpensIn b method values s = (row : AttributeFields) × (body_of (contents_in b) method ≡ Some row)
    × (s ≡ opening_of (contents_in b) row values)

-- what comes of the state that an outcome reached, after that outcome
abbrev pub followed : Outcome → Outcome → Outcome
followed o rest = record (preceded o.requests o.changes rest) { steps = o.steps + rest.steps }
