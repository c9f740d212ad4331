-- The fields of the messages of an image's transactions, and what its calls answer.
use Rattle.std.specs.Prelude.{◌≡◌, ℕ, ℤ, List, Result, Ok, Err, ⊤}
use Rattle.edd_syntax.specs.declared.numbers.Attr.TheVariants as attr
use Rattle.edd_syntax.specs.declared.numbers.AttrRef.{AttrRef}
use Rattle.edd_syntax.specs.declared.numbers.ItemNo.TheVariants as items
use Rattle.edd_syntax.specs.declared.numbers.VarNo.{VarNo}
use Rattle.edd_syntax.specs.Answers.{Change}
use Rattle.edd_instructions.specs.declared.records.Record.{Record}
use Rattle.edd_instructions.specs.Reading.{Records, IsReading}
use Rattle.edd_machine.specs.declared.fault.ReadFault.TheVariants as read_fault
use Rattle.edd_machine.specs.Faults.{IsReadFault}
use Rattle.edd_machine.specs.Types.{types_in}
use Rattle.edd_octets.specs.declared.fault.OctetsFault.{OctetsFault}
use Rattle.edd_octets.specs.declared.fault.OctetsFault.TheVariants as fault
use Rattle.edd_octets.specs.declared.fields.Field as in_code
use Rattle.edd_octets.specs.declared.fields.Field.TheVariants as written
use Rattle.edd_octets.specs.declared.messages.Message.{Message}
use Rattle.edd_octets.specs.declared.messages.Side.TheVariants as side
use Rattle.edd_octets.specs.Decoding.{decoded}
use Rattle.edd_octets.specs.Encoding.{encoded}
use Rattle.edd_octets.specs.Fields.{AreItems, Field, Constant, Variables, fields_of}

-- a field, as the code has it
abbrev pub field_of : in_code.Field → Field
field_of (written.Constant n) = Constant n
field_of (written.Variables parts) = Variables parts.items

-- the attribute that says what a message carries
abbrev pub attribute_of : Message → AttrRef
attribute_of m = record {
  item = items.Command m.command;
  attr = elim m.side [ side.Request ↦ attr.Request | side.Reply ↦ attr.Reply ];
  sub = m.position;
}

-- these are the fields of a message under the values of a device
abbrev pub HasFields : (b : List ℕ) → Message → (values : List ℤ) → List Field → Type 0
HasFields b message values fields = (entries : List Record)
    × IsReading b (attribute_of message) values (Records entries) × AreItems entries
    × (fields ≡ fields_of (types_in b) entries)

-- a set in the code, as what it sets
abbrev pub change_of : VarNo × ℤ → Change
change_of set = record { variable = set.0; value = set.1 }

-- these are the octets of a message under the values of its sender
abbrev pub IsEncoded : (b : List ℕ) → Message → (values : List ℤ) → (octets : List ℕ) → Type 0
IsEncoded b message values octets = (fields : List Field) × HasFields b message values fields
    × (octets ≡ encoded (types_in b) values fields)

-- this comes of octets under the values of who receives them
abbrev pub Comes : (b : List ℕ) → Message → (values : List ℤ) → (octets : List ℕ)
    → Result (List Change) OctetsFault → Type 0
Comes b message values octets what = (fields : List Field) × HasFields b message values fields
    × (decoded (types_in b) values fields octets ≡ what)

-- these sets are taken from the octets of a message
abbrev pub IsDecoded : (b : List ℕ) → Message → (values : List ℤ) → (octets : List ℕ)
    → List Change → Type 0
IsDecoded b message values octets sets = Comes b message values octets (Ok sets)

-- the message is not read, with this fault; out of memory is `Memory` alone
abbrev pub IsNotRead : (b : List ℕ) → Message → (values : List ℤ) → OctetsFault → Type 0
IsNotRead b message values (fault.Read read_fault.Memory) = ⊥
IsNotRead b message values (fault.Read why) = IsReadFault b (attribute_of message) values why
IsNotRead b message values fault.TooShort = ⊥
IsNotRead b message values fault.TooLong = ⊥
IsNotRead b message values (fault.WrongConstant place) = ⊥
IsNotRead b message values (fault.OutOfType variable) = ⊥
IsNotRead b message values fault.Memory = ⊤

-- nothing is taken from the octets, with this fault; out of memory is `Memory` alone
abbrev pub IsRefusal : (b : List ℕ) → Message → (values : List ℤ) → (octets : List ℕ)
    → OctetsFault → Type 0
IsRefusal b message values octets (fault.Read read_fault.Memory) = ⊥
IsRefusal b message values octets (fault.Read why) =
    IsReadFault b (attribute_of message) values why
IsRefusal b message values octets fault.TooShort =
    Comes b message values octets (Err fault.TooShort)
IsRefusal b message values octets fault.TooLong =
    Comes b message values octets (Err fault.TooLong)
IsRefusal b message values octets (fault.WrongConstant place) =
    Comes b message values octets (Err (fault.WrongConstant place))
IsRefusal b message values octets (fault.OutOfType variable) =
    Comes b message values octets (Err (fault.OutOfType variable))
IsRefusal b message values octets fault.Memory = ⊤
