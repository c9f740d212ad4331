-- When the code of a method, and a whole image, do what the methods of a description do.
use Rattle.std.specs.Prelude.{◌≡◌, ◌≢◌, ℕ, ◌≤◌, ℤ, List, [], ◌∷◌, Option, Some, None, IsTrue, ⊤}
use Rattle.std.specs.List.{AllByRecursion}
use Rattle.edd_syntax.specs.declared.numbers.MethNo.{MethNo}
use Rattle.edd_syntax.specs.declared.numbers.ItemNo.TheVariants.{Method}
use Rattle.edd_syntax.specs.declared.numbers.StrNo.{StrNo}
use Rattle.edd_syntax.specs.declared.reference.Target.{Target}
use Rattle.edd_syntax.specs.Words.{Words}
use Rattle.edd_syntax.specs.Item.{Description}
use Rattle.edd_syntax.specs.Statement.{Nil, slots_in}
use Rattle.edd_syntax.specs.Answers.{Answer, IsValidAnswer}
use Rattle.edd_syntax.specs.DeviceValues.{VariableType, AreDeviceValues}
use Rattle.edd_syntax.specs.Device.{environment}
use Rattle.edd_syntax.specs.MethodState as source
use Rattle.edd_syntax.specs.Execution as run
use Rattle.edd_syntax.specs.Execution.{Transcript, body_of}
use Rattle.edd_instructions.specs.declared.requests.Request.{Request}
use Rattle.edd_instructions.specs.declared.requests.RequestArgument.{RequestArgument}
use Rattle.edd_instructions.specs.declared.requests.RequestArgument.TheVariants as argument
use Rattle.edd_instructions.specs.declared.records.Status.TheVariants.{Running}
use Rattle.edd_instructions.specs.declared.unit.Context.{Context}
use Rattle.edd_instructions.specs.declared.unit.Sort.TheVariants as sort
use Rattle.edd_instructions.specs.Agreement.{AgreesOnData, IsString, machine_of, string_of_table, string_numbered, unit_context}
use Rattle.edd_image.specs.Contents.{AttributeFields, Contents}
use Rattle.edd_image.specs.Existing.{item_exists}
use Rattle.edd_instructions.specs.Reading as image
use Rattle.edd_instructions.specs.Reading.{environment_of, opening_of}
use Rattle.edd_instructions.specs.Requests.{arguments_asked, kind_asked}
use Rattle.edd_instructions.specs.Steps.{RunningUnit, State}
use Rattle.edd_instructions.specs.AbortMethods.{Start, start_in, execute_in}
use Rattle.edd_instructions.specs.Execution.{Ending, Ended, Aborted, Trapped, Waiting, OutOfSteps, Outcome, preceded, execute}
use Rattle.edd_instructions.specs.Units.{IsValidUnit}

-- ---- what a host sees of a run

-- a run that is out of turns goes on, as one that is out of steps does
abbrev pub ending_of : run.Ending → Ending
ending_of run.Ended = Ended
ending_of run.Aborted = Aborted
ending_of (run.Trapped why) = Trapped why
ending_of run.Waiting = Waiting
ending_of run.OutOfTurns = OutOfSteps

module _ (string_numbered : StrNo → Option Words) where
  -- the argument says the same as the source's, its text by number
  abbrev pub SameArgument : source.RequestArgument → RequestArgument → Type 0
  SameArgument (source.TextArgument text) (argument.Text n) = IsString string_numbered text n
  SameArgument (source.NumberArgument number) (argument.Number n) = n ≡ number
  SameArgument (source.VariableArgument variable) (argument.Variable v) = v ≡ variable
  SameArgument _ _ = ⊥

  -- There are as many arguments on both sides, and each says the same as its counterpart.
  abbrev pub SameArguments : List source.RequestArgument → List RequestArgument → Type 0
  SameArguments [] [] = ⊤
  SameArguments [] (r ∷ rs) = ⊥
  SameArguments (x ∷ xs) [] = ⊥
  SameArguments (x ∷ xs) (r ∷ rs) = SameArgument x r × SameArguments xs rs

  -- the image's request is of the same kind and has the same arguments
  abbrev pub SameRequest : source.Request → Request → Type 0
  SameRequest x r = (kind_asked r ≡ x.kind) × SameArguments x.arguments (arguments_asked r)

  -- There are as many requests on both sides, and each asks the same as its counterpart.
  abbrev pub SameRequests : List source.Request → List Request → Type 0
  SameRequests [] [] = ⊤
  SameRequests [] (r ∷ rs) = ⊥
  SameRequests (x ∷ xs) [] = ⊥
  SameRequests (x ∷ xs) (r ∷ rs) = SameRequest x r × SameRequests xs rs

  -- the machine's outcome says the same as the source's transcript
  pub record SameOutcome (t : Transcript) (o : Outcome) : Type 0 where
    pub requests : SameRequests t.requests o.requests
    pub changes : o.changes ≡ t.changes
    pub values : o.state.values ≡ t.values
    pub abort_methods : o.state.abort_methods ≡ t.abort_methods
    pub answers : o.answers ≡ t.answers
    pub ending : o.ending ≡ ending_of t.ending

  -- Under all values of a device and all valid answers: a run of the source that is over is one of
  -- the machine (forward), one of the machine that is over is one of the source (backward), and
  -- where the source goes on for n turns, the machine goes on for n steps or more with the same
  -- requests and changes so far (in progress).
  pub record AgreesOnRuns (types : List VariableType) (source : (turns : ℕ) → List ℤ → List Answer
      → Transcript)
      (machine : (steps : ℕ) → List ℤ → List Answer → Outcome) : Type 0 where
    pub forward : (values : List ℤ) (answers : List Answer) → AreDeviceValues types values
        → AllByRecursion (IsValidAnswer types) answers
        → (n : ℕ) → (source n values answers).ending ≢ run.OutOfTurns
        → (k : ℕ) × SameOutcome (source n values answers) (machine k values answers)
    pub backward : (values : List ℤ) (answers : List Answer) → AreDeviceValues types values
        → AllByRecursion (IsValidAnswer types) answers
        → (k : ℕ) → (machine k values answers).ending ≢ OutOfSteps
        → (n : ℕ) × SameOutcome (source n values answers) (machine k values answers)
    pub in_progress : (values : List ℤ) (answers : List Answer) → AreDeviceValues types values
        → AllByRecursion (IsValidAnswer types) answers
        → (n : ℕ) → (source n values answers).ending ≡ run.OutOfTurns
        → (k : ℕ) × (n ≤ k) × SameOutcome (source n values answers) (machine k values answers)

-- ---- the headline: what an image promises of the methods of its description

-- The body of a method in the image: the row of its code, whose runs from its start, with abort
-- methods after it, are those of the method.
pub record AgreesOnMethod (unit : Description Target) (c : Contents) (method : MethNo) : Type 0
  where
    pub row : AttributeFields
    pub found : image.body_of c method ≡ Some row
    pub agrees : AgreesOnRuns (string_numbered c) (environment unit).variables
        (λ n values answers. run.run n unit method values answers)
        (λ k values answers. execute_in c k (opening_of c row values) answers)

-- each method that there is
abbrev pub AgreesOnMethods : Description Target → Contents → Type 0
AgreesOnMethods unit c = (method : MethNo) → IsTrue (item_exists c.counts (Method method))
    → AgreesOnMethod unit c method

-- The image says and does what the description does: this is all that a compiled image promises of
-- its unit.
pub record Agrees (unit : Description Target) (c : Contents) : Type 0 where
  pub on_data : AgreesOnData unit c
  pub on_methods : AgreesOnMethods unit c

-- ---- inside: what the code of each body promises, from which the headline is shown

-- the context of the unit of a method
abbrev pub method_context : Description Target → (strings : List Words) → (slots : ℕ) → Context
method_context unit strings slots = unit_context unit strings sort.Method slots

-- the machine at the start of a unit, in the state that the source has reached
abbrev pub started : RunningUnit → source.State → State
started unit s = record {
  unit = unit;
  place = 0;
  operands = [];
  slots = s.slots;
  values = s.values;
  status = Running;
  abort_methods = s.abort_methods;
  is_aborting = s.is_aborting;
}

-- From each state, whatever was asked and changed before, and for each number of turns the machine
-- comes, within as many steps or more, to what the body results in.
abbrev pub FollowsBody : (StrNo → Option Words) → (types : List VariableType)
    → (body : (turns : ℕ) → source.State → Transcript)
    → (machine : (steps : ℕ) → source.State → Outcome) → Type 0
FollowsBody string_numbered types body machine = (s : source.State) (before : List Request)
    → AllByRecursion (IsValidAnswer types) s.answers
    → SameRequests string_numbered s.requests before
    → (n : ℕ) → (k : ℕ) × (n ≤ k)
    × SameOutcome string_numbered (body n s) (preceded before s.changes (machine k s))

-- The code is a valid unit with a slot for each declared local. Alone, without abort methods after
-- it, it does what the method's body does, with strings by their numbers in this table.
pub record IsMethodCode (unit : Description Target) (strings : List Words) (method : MethNo)
    (slots : ℕ) (code : List ℕ) : Type 0 where
  pub locals : slots ≡ slots_in (body_of unit method)
  pub valid : IsValidUnit (method_context unit strings slots) code
  pub follows : FollowsBody (string_of_table strings) (environment unit).variables
      (λ n s. run.run_body n (environment unit) (body_of unit method) s)
      (λ k s. execute (machine_of (environment unit)) k
      (started (record { sort = sort.Method; code = code }) s) s.answers)

-- The code of a method alone does what its body does; a method without code has an empty body.
abbrev pub IsBodyOf : Description Target → Contents → MethNo → Option Start → Type 0
IsBodyOf unit c method None = body_of unit method ≡ Nil
IsBodyOf unit c method (Some start) = (start.slots ≡ slots_in (body_of unit method))
    × FollowsBody (string_numbered c) (environment unit).variables
    (λ n s. run.run_body n (environment unit) (body_of unit method) s)
    (λ k s. execute (environment_of c) k (started start.unit s) s.answers)

-- The code of each method alone does what its body does.
abbrev pub EachIsBody : Description Target → Contents → Type 0
EachIsBody unit c = (method : MethNo) → IsBodyOf unit c method (start_in c method)
