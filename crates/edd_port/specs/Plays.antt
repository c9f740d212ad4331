-- A method that is run from its start under a list of answers.
use Rattle.std.specs.Prelude.{◌≡◌, ◌≢◌, ℕ, ℤ, List, Option, Some, None, option_map}
use Rattle.edd_syntax.specs.declared.numbers.MethNo.{MethNo}
use Rattle.edd_syntax.specs.Answers as answers
use Rattle.edd_syntax.specs.Answers.{Answer}
use Rattle.edd_syntax.specs.DeviceValues.{AreDeviceValues}
use Rattle.edd_instructions.specs.AbortMethods.{execute_in}
use Rattle.edd_image.specs.Contents.{contents_in}
use Rattle.edd_instructions.specs.Execution as execution
use Rattle.edd_instructions.specs.Execution.{Outcome}
use Rattle.edd_instructions.specs.Reading.{body_of, opening_of}
use Rattle.edd_machine.specs.Types.{types_in}
use Rattle.edd_port.specs.declared.fault.PlayFault.{PlayFault}
use Rattle.edd_port.specs.declared.fault.PlayFault.TheVariants as play_fault
use Rattle.edd_port.specs.declared.playing.Ending.{Ending}
use Rattle.edd_port.specs.declared.playing.Ending.TheVariants.{Ended, Aborted, Trapped, Waiting, Spent}
use Rattle.edd_port.specs.Runs.{Run}

-- what a run results in within so many steps under these answers
abbrev pub under : Run → (steps : ℕ) → List Answer → Outcome
under r steps given = execute_in (contents_in r.image) steps r.state given

-- what the method results in from its start, where it has a body
abbrev pub played : List ℕ → MethNo → (values : List ℤ) → (steps : ℕ) → List Answer → Option Outcome
played b method values steps given =
    option_map (λ row. execute_in (contents_in b) steps (opening_of (contents_in b) row values)
    given) (body_of (contents_in b) method)

-- the ending that a play shows: out of steps is spent
abbrev pub ending_shown : Ending → execution.Ending
ending_shown Ended = execution.Ended
ending_shown Aborted = execution.Aborted
ending_shown (Trapped why) = execution.Trapped why
ending_shown Waiting = execution.Waiting
ending_shown Spent = execution.OutOfSteps

-- what a fault says of the run, once it started
abbrev pub IsFaultOf : PlayFault → execution.Ending → Type 0
IsFaultOf play_fault.NoItem ending = ⊥
IsFaultOf play_fault.WrongValues ending = ⊥
IsFaultOf play_fault.BadVariable ending = ending ≡ execution.Bad answers.BadVariable
IsFaultOf play_fault.OutOfRange ending = ending ≡ execution.Bad answers.OutOfRange
IsFaultOf play_fault.Memory ending = Unit {0}

-- the method has a body and the values are those of a device, so that the method can start
abbrev pub CanStart : List ℕ → MethNo → (values : List ℤ) → Type 0
CanStart b method values = (body_of (contents_in b) method ≢ None) × AreDeviceValues (types_in b)
    values

-- what a fault says of a play; for lack of memory nothing is wrong with the method and the values
abbrev pub IsPlayFault : List ℕ → MethNo → (values : List ℤ) → (steps : ℕ) → List Answer → PlayFault
    → Type 0
IsPlayFault b method values steps given play_fault.NoItem = body_of (contents_in b) method ≡ None
IsPlayFault b method values steps given play_fault.WrongValues =
    (body_of (contents_in b) method ≢ None) × (¬ AreDeviceValues (types_in b) values)
IsPlayFault b method values steps given play_fault.BadVariable = CanStart b method values
    × (option_map (λ o. o.ending) (played b method values steps given)
    ≡ Some (execution.Bad answers.BadVariable))
IsPlayFault b method values steps given play_fault.OutOfRange = CanStart b method values
    × (option_map (λ o. o.ending) (played b method values steps given)
    ≡ Some (execution.Bad answers.OutOfRange))
IsPlayFault b method values steps given play_fault.Memory = CanStart b method values
