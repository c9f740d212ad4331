-- What was read in the code, as what is read.
use Rattle.std.specs.declared.alloc.Global.{Global}
use Rattle.std.specs.Prelude.{List, Option, Some, None, option_map, Result, Ok, Err, Vec}
use Rattle.edd_syntax.specs.Answers.{answer_of}
use Rattle.edd_instructions.specs.declared.records.Record.{Record}
use Rattle.edd_instructions.specs.Reading as reading
use Rattle.edd_device.specs.declared.messages.Message as in_code
use Rattle.edd_device.specs.declared.messages.Taken.{Taken}
use Rattle.edd_device.specs.declared.messages.Taken.TheVariants as taken
use Rattle.edd_device.specs.declared.copying.Tie.{Tie}
use Rattle.edd_device.specs.declared.device.Step as device_step
use Rattle.edd_device.specs.declared.methods.Underway.{Underway}
use Rattle.edd_device.specs.Copies.{Pair}
use Rattle.edd_device.specs.Devices.{Step}
use Rattle.edd_device.specs.Messages.{Message}
use Rattle.edd_device.specs.Methods.{Now}

-- what was read of an attribute
abbrev pub reading_of : Taken → reading.Reading
reading_of taken.NoItem = reading.NoItem
reading_of (taken.Records records) = reading.Records records.items
reading_of (taken.Trap why) = reading.Fault why

-- what a transaction carries
abbrev pub message_of : in_code.Message → Message
message_of m = record { request = m.request.items; reply = m.reply.items }

-- records, or the same error
abbrev pub entries_of : {E : Type 0} → Result (Vec Record Global) E → Result (List Record) E
entries_of (Ok records) = Ok records.items
entries_of (Err why) = Err why

-- a variable of the instrument and the device's of the same name
abbrev pub pair_of : Tie → Pair
pair_of tie = record { ours = tie.ours; theirs = tie.theirs }

-- the device's values, and how many instructions are left
abbrev pub now_of : Underway → Now
now_of now = record { values = now.numbers.items; left = now.left }

-- the value, unless there is this fault
abbrev pub unless : {A E : Type 0} → Option E → A → Result A E
unless None value = Ok value
unless (Some fault) value = Err fault

-- the device's values after a request, and its answer
abbrev pub step_of : device_step.Step → Step
step_of step = record {
  values = step.numbers.items;
  answer = option_map answer_of step.answer;
}
