-- What a refused read of an image says of the unit's attribute.
use Rattle.std.specs.Prelude.{◌≡◌, ℕ, ℤ, Bool, true, false, List, length, Option, Some, None, Err}
use Rattle.edd_syntax.specs.declared.answer.Trap.TheVariants as trap
use Rattle.edd_syntax.specs.declared.numbers.AttrRef.{AttrRef}
use Rattle.edd_syntax.specs.declared.reference.Target.{Target}
use Rattle.edd_syntax.specs.Item.{Description}
use Rattle.edd_syntax.specs.Words.{Key, Variants, Words}
use Rattle.edd_syntax.specs.DeviceValues.{AreDeviceValues}
use Rattle.edd_syntax.specs.Device.{environment}
use Rattle.edd_syntax.specs.Attributes.{NoItem, Gives, read_attribute}
use Rattle.edd_image.specs.Contents.{AttributeFields, Contents, part}
use Rattle.edd_instructions.specs.Reading.{row_of}
use Rattle.edd_machine.specs.declared.fault.ReadFault.{ReadFault}
use Rattle.edd_machine.specs.declared.fault.ReadFault.TheVariants as read_fault

-- the string is a key of the dictionary, and no text
abbrev pub is_key : Words → Bool
is_key (Variants first rest) = false
is_key (Key name) = true

-- whatever the values are, the unit has no such attribute; or they are no values of its device; or
-- the unit's attribute traps under them
abbrev pub IsRefusedRead : Description Target → AttrRef → (device : List ℤ) → ReadFault → Type 0
IsRefusedRead unit ref device read_fault.NoItem = (values : List ℤ)
    → AreDeviceValues (environment unit).variables values
    → read_attribute unit ref values ≡ NoItem
IsRefusedRead unit ref device read_fault.WrongValues =
    ¬ AreDeviceValues (environment unit).variables device
IsRefusedRead unit ref device read_fault.DivZero =
    read_attribute unit ref device ≡ Gives (Err trap.DivZero)
IsRefusedRead unit ref device read_fault.DivOverflow =
    read_attribute unit ref device ≡ Gives (Err trap.DivOverflow)
IsRefusedRead unit ref device read_fault.BadShift =
    read_attribute unit ref device ≡ Gives (Err trap.BadShift)
IsRefusedRead unit ref device read_fault.NoElement =
    read_attribute unit ref device ≡ Gives (Err trap.NoElement)
IsRefusedRead unit ref device read_fault.Memory = Unit {0}

-- how many bytes the unit of a row has: none where there is no row
abbrev pub row_length : Contents → Option AttributeFields → ℕ
row_length c None = 0
row_length c (Some row) = length (part row.span c.code)

-- how many bytes the unit of an attribute has: none where nothing is written
abbrev pub unit_length : Contents → AttrRef → ℕ
unit_length c ref = row_length c (row_of c ref)
