-- What the faults say.
use Rattle.std.specs.Prelude.{◌≡◌, ◌≢◌, ℕ, ℤ, false, List, length, Option, Some, None}
use Rattle.edd_syntax.specs.declared.answer.Trap.{Trap}
use Rattle.edd_syntax.specs.declared.answer.Trap.TheVariants as trap
use Rattle.edd_syntax.specs.declared.numbers.AttrRef.{AttrRef}
use Rattle.edd_syntax.specs.Answers.{SetFault, BadVariable, OutOfRange}
use Rattle.edd_syntax.specs.DeviceValues.{VariableType, AreDeviceValues}
use Rattle.edd_image.specs.Contents.{contents_in}
use Rattle.edd_instructions.specs.Reading.{NoItem, Fault, IsReading, is_no_item}
use Rattle.edd_machine.specs.declared.fault.ValuesFault.{ValuesFault}
use Rattle.edd_machine.specs.declared.fault.ValuesFault.TheVariants as values_fault
use Rattle.edd_machine.specs.declared.fault.ReadFault.{ReadFault}
use Rattle.edd_machine.specs.declared.fault.ReadFault.TheVariants as read_fault
use Rattle.edd_machine.specs.declared.fault.SetFault as in_code
use Rattle.edd_machine.specs.declared.fault.SetFault.TheVariants as named
use Rattle.edd_machine.specs.Types.{types_in}

-- what a fault says of the numbers; for lack of memory nothing is wrong with them
abbrev pub IsValuesFault : ValuesFault → List VariableType → List ℤ → Type 0
IsValuesFault values_fault.Count types numbers = length numbers ≢ length types
IsValuesFault values_fault.Range types numbers = (length numbers ≡ length types)
    × (¬ AreDeviceValues types numbers)
IsValuesFault values_fault.Memory types numbers = AreDeviceValues types numbers

-- the trap that a fault of reading stands for
abbrev pub trap_of : ReadFault → Option Trap
trap_of read_fault.NoItem = None
trap_of read_fault.WrongValues = None
trap_of read_fault.DivZero = Some trap.DivZero
trap_of read_fault.DivOverflow = Some trap.DivOverflow
trap_of read_fault.BadShift = Some trap.BadShift
trap_of read_fault.NoElement = Some trap.NoElement
trap_of read_fault.Memory = None

-- what a fault says of the attribute and the values: the values are looked at only where there is
-- such an attribute
abbrev pub IsReadFault : List ℕ → AttrRef → List ℤ → ReadFault → Type 0
IsReadFault b ref values read_fault.NoItem = IsReading b ref values NoItem
IsReadFault b ref values read_fault.WrongValues = (is_no_item (contents_in b) ref ≡ false)
    × (¬ AreDeviceValues (types_in b) values)
IsReadFault b ref values read_fault.DivZero = AreDeviceValues (types_in b) values
    × IsReading b ref values (Fault trap.DivZero)
IsReadFault b ref values read_fault.DivOverflow = AreDeviceValues (types_in b) values
    × IsReading b ref values (Fault trap.DivOverflow)
IsReadFault b ref values read_fault.BadShift = AreDeviceValues (types_in b) values
    × IsReading b ref values (Fault trap.BadShift)
IsReadFault b ref values read_fault.NoElement = AreDeviceValues (types_in b) values
    × IsReading b ref values (Fault trap.NoElement)
IsReadFault b ref values read_fault.Memory = (is_no_item (contents_in b) ref ≡ false)
    × AreDeviceValues (types_in b) values

-- the fault of a set
abbrev pub set_fault_of : in_code.SetFault → SetFault
set_fault_of named.BadVariable = BadVariable
set_fault_of named.OutOfRange = OutOfRange
