-- What the faults say.
use Rattle.std.specs.Prelude.{◌≡◌, ◌≢◌, ℕ, ℤ, List, Option, Some, None}
use Rattle.edd_syntax.specs.declared.numbers.MethNo.{MethNo}
use Rattle.edd_syntax.specs.Answers as answers
use Rattle.edd_syntax.specs.DeviceValues.{AreDeviceValues}
use Rattle.edd_image.specs.Contents.{contents_in}
use Rattle.edd_instructions.specs.Reading.{body_of}
use Rattle.edd_machine.specs.Types.{types_in}
use Rattle.edd_port.specs.declared.fault.AnswerFault.{AnswerFault}
use Rattle.edd_port.specs.declared.fault.AnswerFault.TheVariants as answer_fault
use Rattle.edd_port.specs.declared.fault.PlayFault.{PlayFault}
use Rattle.edd_port.specs.declared.fault.PlayFault.TheVariants as play_fault
use Rattle.edd_port.specs.declared.fault.StartFault.{StartFault}
use Rattle.edd_port.specs.declared.fault.StartFault.TheVariants as start_fault
use Rattle.edd_port.specs.Refusals.{Refusal, NotAsking, BadSet}

-- what a fault says of the method and the values: the values are looked at only where the method
-- has a body
abbrev pub IsStartFault : List ℕ → MethNo → (values : List ℤ) → StartFault → Type 0
IsStartFault b method values start_fault.NoItem = body_of (contents_in b) method ≡ None
IsStartFault b method values start_fault.WrongValues = (body_of (contents_in b) method ≢ None)
    × (¬ AreDeviceValues (types_in b) values)

-- the refusal that a fault stands for
abbrev pub answer_fault_of : AnswerFault → Refusal
answer_fault_of answer_fault.NotAsking = NotAsking
answer_fault_of answer_fault.BadVariable = BadSet answers.BadVariable
answer_fault_of answer_fault.OutOfRange = BadSet answers.OutOfRange

-- the fault of a play whose method is not started
abbrev pub play_fault_of_start : StartFault → PlayFault
play_fault_of_start start_fault.NoItem = play_fault.NoItem
play_fault_of_start start_fault.WrongValues = play_fault.WrongValues

-- the refusal of an answer that a fault of a play stands for
abbrev pub play_refusal : PlayFault → Option Refusal
play_refusal play_fault.NoItem = None
play_refusal play_fault.WrongValues = None
play_refusal play_fault.BadVariable = Some (BadSet answers.BadVariable)
play_refusal play_fault.OutOfRange = Some (BadSet answers.OutOfRange)
play_refusal play_fault.Memory = None
