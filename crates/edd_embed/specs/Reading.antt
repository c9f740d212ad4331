-- An attribute that is read into the room of a program in C.
use Rattle.std.specs.Prelude.{◌≡◌, ℕ, ◌<◌, ℤ, List, Option, Some, length, ⊤}
use Rattle.edd_syntax.specs.declared.numbers.AttrRef.{AttrRef}
use Rattle.edd_syntax.specs.DeviceValues.{AreDeviceValues}
use Rattle.edd_syntax.specs.Numbers.{item_from_numbers, attr_from_number}
use Rattle.edd_image.specs.Front.{◌>>=◌}
use Rattle.edd_instructions.specs.declared.records.Record.{Record}
use Rattle.edd_instructions.specs.Reading.{Records, IsReading}
use Rattle.edd_machine.specs.declared.fault.ReadFault.TheVariants as read_fault
use Rattle.edd_machine.specs.Faults.{IsReadFault}
use Rattle.edd_machine.specs.Types.{types_in}
use Rattle.edd_embed.specs.declared.reading.AttributeFault.{AttributeFault}
use Rattle.edd_embed.specs.declared.reading.AttributeFault.TheVariants.{Read, Room}

-- the attribute of these numbers, where there is such a kind and such an attribute
abbrev pub ref_of : (kind number attribute sub : ℕ) → Option AttrRef
ref_of kind number attribute sub = do
  item ← item_from_numbers kind number
  attr ← attr_from_number attribute
  Some (record { item = item; attr = attr; sub = sub })

-- under values of a device the attribute has these records
pub record Gives (b : List ℕ) (ref : AttrRef) (values : List ℤ) (rs : List Record) : Type 0 where
  pub device : AreDeviceValues (types_in b) values
  pub reading : IsReading b ref values (Records rs)

-- what a fault says: there is room for fewer records than the attribute has, or it is that of the
-- reading; nothing is said of memory
abbrev pub IsAttributeFault : List ℕ → AttrRef → List ℤ → (room : ℕ) → AttributeFault → Type 0
IsAttributeFault b ref values room (Room n) =
    (rs : List Record) × Gives b ref values rs × (n ≡ length rs) × (room < n)
IsAttributeFault b ref values room (Read read_fault.Memory) = ⊤
IsAttributeFault b ref values room (Read fault) = IsReadFault b ref values fault
