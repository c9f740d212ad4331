-- Which messages carry a variable: the replies with which it is read, and the requests with which
-- it is written.
use Rattle.std.specs.Prelude.{◌≡◌, ℕ, zero, suc, ◌+◌, ◌==◌, Bool, true, false, ◌&&◌, ◌||◌, ℤ, pos, List, [], ◌∷◌, ◌++◌, Option, Some, None, if◌then◌else◌}
use Rattle.std.specs.Ordering.{int_eq}
use Rattle.edd_syntax.specs.declared.numbers.Attr.TheVariants as attr
use Rattle.edd_syntax.specs.declared.numbers.AttrRef.{AttrRef}
use Rattle.edd_syntax.specs.declared.numbers.CmdNo.{CmdNo}
use Rattle.edd_syntax.specs.declared.numbers.ItemNo.TheVariants as items
use Rattle.edd_syntax.specs.declared.numbers.VarNo.{VarNo}
use Rattle.edd_syntax.specs.DeviceValues.{AreDeviceValues}
use Rattle.edd_image.specs.Fields.{counts_in}
use Rattle.edd_instructions.specs.declared.records.Record.{Record}
use Rattle.edd_instructions.specs.declared.records.Record.TheVariants as records
use Rattle.edd_instructions.specs.Reading.{Reading, NoItem, Records, Fault, IsReading}
use Rattle.edd_machine.specs.declared.fault.ReadFault.{ReadFault}
use Rattle.edd_machine.specs.declared.fault.ReadFault.TheVariants as read_fault
use Rattle.edd_machine.specs.Types.{types_in}
use Rattle.edd_octets.specs.declared.messages.Message.{Message}
use Rattle.edd_octets.specs.declared.messages.Side.{Side}
use Rattle.edd_octets.specs.declared.messages.Side.TheVariants as side
use Rattle.edd_octets.specs.Fields.{is_kept}
use Rattle.edd_octets.specs.Messages.{attribute_of}

-- the items have the variable, and who receives it keeps it
abbrev pub has_kept : VarNo → List Record → Bool
has_kept v [] = false
has_kept v (records.DataVar w mask qualifiers ∷ rest) =
    (w.0 == v.0 && is_kept qualifiers) || has_kept v rest
has_kept v (_ ∷ rest) = has_kept v rest

-- this number is read of OPERATION
abbrev pub is_number : ℕ → Reading → Bool
is_number n NoItem = false
is_number n (Records []) = false
is_number n (Records (records.Number m ∷ rest)) = int_eq m (pos n)
is_number n (Records (_ ∷ rest)) = false
is_number n (Fault why) = false

-- the OPERATION of a command
abbrev pub operation_of : CmdNo → AttrRef
operation_of command =
    record { item = items.Command command; attr = attr.Operation; sub = 0 }

-- a message before others, where it is one of them
abbrev pub where_so : Bool → Message → List Message → List Message
where_so so m rest = if so then m ∷ rest else rest

-- whether a message has the variable, by what is read of it; of one that there is
abbrev pub carried : VarNo → Reading → Option Bool
carried v NoItem = None
carried v (Records entries) = Some (has_kept v entries)
carried v (Fault why) = Some false

-- A message, if there is one, is one of all where it has the variable, and others follow. Where
-- there is none, nothing follows.
abbrev pub Follows : Option Bool → Message → (Others : List Message → Type 0) → List Message → Type 0
Follows None m Others all = all ≡ []
Follows (Some so) m Others all =
    (rest : List Message) × Others rest × (all ≡ where_so so m rest)

-- Of at most so many transactions of a command, from a position on, the messages of one side that
-- carry the variable. The first position that the command does not have ends them.
abbrev pub AreOfCommand : (b : List ℕ) → (values : List ℤ) → VarNo → CmdNo → Side
    → (position left : ℕ) → List Message → Type 0
AreOfCommand b values v command side position zero all = all ≡ []
AreOfCommand b values v command side position (suc left) all =
    let m : Message = record { command = command; position = position; side = side } in
    (r : Reading) × IsReading b (attribute_of m) values r
    × Follows (carried v r) m (AreOfCommand b values v command side (position + 1) left) all

-- all of a command of this OPERATION, and none of another
abbrev pub AreIfSo : Bool → (Own : List Message → Type 0) → List Message → Type 0
AreIfSo true Own all = Own all
AreIfSo false Own all = all ≡ []

-- The messages of one side that carry the variable, of so many commands from a number on that have
-- this OPERATION.
abbrev pub AreOfCommands : (b : List ℕ) → (values : List ℤ) → VarNo → (operation : ℕ) → Side
    → (number left : ℕ) → List Message → Type 0
AreOfCommands b values v operation side number zero all = all ≡ []
AreOfCommands b values v operation side number (suc left) all =
    let command : CmdNo = record { 0 = number } in
    (r : Reading) × IsReading b (operation_of command) values r
    × (own : List Message)
    × AreIfSo (is_number operation r) (AreOfCommand b values v command side 0 65536) own
    × (rest : List Message) × AreOfCommands b values v operation side (number + 1) left rest
    × (all ≡ own ++ rest)

-- The replies that carry the variable, of the commands that READ (1), in the order of the source.
abbrev pub AreReaders : (b : List ℕ) → (values : List ℤ) → VarNo → List Message → Type 0
AreReaders b values v all =
    AreOfCommands b values v 1 side.Reply 0 (counts_in b).commands all

-- The requests that carry the variable, of the commands that WRITE (2), in the order of the source.
abbrev pub AreWriters : (b : List ℕ) → (values : List ℤ) → VarNo → List Message → Type 0
AreWriters b values v all =
    AreOfCommands b values v 2 side.Request 0 (counts_in b).commands all

-- why no messages are listed: the values are not those of a device, or memory is refused
abbrev pub IsListFault : (b : List ℕ) → (values : List ℤ) → ReadFault → Type 0
IsListFault b values read_fault.NoItem = ⊥
IsListFault b values read_fault.WrongValues = ¬ AreDeviceValues (types_in b) values
IsListFault b values read_fault.DivZero = ⊥
IsListFault b values read_fault.DivOverflow = ⊥
IsListFault b values read_fault.BadShift = ⊥
IsListFault b values read_fault.NoElement = ⊥
IsListFault b values read_fault.Memory = AreDeviceValues (types_in b) values
