-- What a session shows of its state.
use Rattle.edd_instructions.specs.declared.records.Status.{Status}
use Rattle.edd_instructions.specs.declared.records.Status.TheVariants as status
use Rattle.edd_instructions.specs.Execution as execution
use Rattle.edd_port.specs.declared.turn.Turn.{Turn}
use Rattle.edd_port.specs.declared.turn.Turn.TheVariants.{Asks, Ended, Aborted, Trapped, Spent}

-- the turn that shows a status
abbrev pub turn_of : Status → Turn
turn_of status.Running = Spent
turn_of (status.Asking r) = Asks r
turn_of status.Ended = Ended
turn_of status.Aborted = Aborted
turn_of (status.Trapped why) = Trapped why

-- the ending that a turn shows: a pending request waits for its answer
abbrev pub ending_of : Turn → execution.Ending
ending_of (Asks r) = execution.Waiting
ending_of Ended = execution.Ended
ending_of Aborted = execution.Aborted
ending_of (Trapped why) = execution.Trapped why
ending_of Spent = execution.OutOfSteps
