-- The octets of messages, and what is taken from them, as a program in C has them.
use Rattle.std.specs.Prelude.{◌≡◌, ℕ, ◌<◌, ℤ, List, length, Option, Some, None, option_and_then, option_map}
use Rattle.std.specs.List.{slice_get}
use Rattle.edd_syntax.specs.Answers.{Change}
use Rattle.edd_syntax.specs.declared.numbers.Attr.{Attr}
use Rattle.edd_syntax.specs.declared.numbers.Attr.TheVariants as attr
use Rattle.edd_syntax.specs.DeviceValues.{AreDeviceValues}
use Rattle.edd_syntax.specs.Numbers.{attr_from_number, attr_number}
use Rattle.edd_machine.specs.Types.{types_in}
use Rattle.edd_octets.specs.declared.fault.OctetsFault.TheVariants as fault
use Rattle.edd_octets.specs.declared.messages.Message.{Message}
use Rattle.edd_octets.specs.declared.messages.Side.{Side}
use Rattle.edd_octets.specs.declared.messages.Side.TheVariants as side
use Rattle.edd_octets.specs.Carriers.{AreReaders, AreWriters}
use Rattle.edd_octets.specs.Messages.{IsDecoded, IsEncoded, IsNotRead, IsRefusal}
use Rattle.edd_embed.specs.declared.answers.Setting.{Setting}
use Rattle.edd_embed.specs.declared.carriers.Carrier.{Carrier}
use Rattle.edd_embed.specs.declared.octets.MessageFault.{MessageFault}
use Rattle.edd_embed.specs.declared.octets.MessageFault.TheVariants.{Octets, Room}
use Rattle.edd_embed.specs.declared.octets.PlainMessage.{PlainMessage}

-- ---- messages

-- the side whose message has its items in this attribute
abbrev pub side_with : Attr → Option Side
side_with attr.Request = Some side.Request
side_with attr.Reply = Some side.Reply
side_with _ = None

-- the side of a number, which is that of REQUEST or of REPLY among the attributes
abbrev pub side_numbered : ℕ → Option Side
side_numbered n = option_and_then side_with (attr_from_number n)

-- the number of a side
abbrev pub side_number : Side → ℕ
side_number side.Request = attr_number attr.Request
side_number side.Reply = attr_number attr.Reply

-- the message of these numbers, if they have a side
abbrev pub message_of : PlainMessage → Option Message
message_of m = option_map (λ s. record {
  command = record { 0 = m.command };
  position = m.position;
  side = s;
}) (side_numbered m.side)

-- the numbers of a message
abbrev pub plain_message : Message → PlainMessage
plain_message m = record {
  command = m.command.0;
  position = m.position;
  side = side_number m.side;
}

-- ---- octets

-- these are the octets of the message under values of a device
pub record Encodes (b : List ℕ) (message : Message) (values : List ℤ) (octets : List ℕ)
    : Type 0 where
  pub device : AreDeviceValues (types_in b) values
  pub encoded : IsEncoded b message values octets

-- what a fault says: there is room for fewer octets than the message has, or it is not read
abbrev pub IsEncodeFault : (b : List ℕ) → Message → (values : List ℤ) → (room : ℕ) → MessageFault
    → Type 0
IsEncodeFault b message values room (Room n) =
    (octets : List ℕ) × Encodes b message values octets × (n ≡ length octets) × (room < n)
IsEncodeFault b message values room (Octets why) = IsNotRead b message values why

-- ---- sets

-- a set as C has it
abbrev pub setting_of : Change → Setting
setting_of set = record { value = set.value; variable = set.variable.0 }

-- under values of a device these sets are taken from the octets of the message
pub record Decodes (b : List ℕ) (message : Message) (values : List ℤ) (octets : List ℕ)
    (sets : List Change) : Type 0 where
  pub device : AreDeviceValues (types_in b) values
  pub decoded : IsDecoded b message values octets sets

-- what a fault says: there is room for fewer sets than are taken, or none are taken
abbrev pub IsDecodeFault : (b : List ℕ) → Message → (values : List ℤ) → (octets : List ℕ)
    → (room : ℕ) → MessageFault → Type 0
IsDecodeFault b message values octets room (Room n) =
    (sets : List Change) × Decodes b message values octets sets × (n ≡ length sets) × (room < n)
IsDecodeFault b message values octets room (Octets why) = IsRefusal b message values octets why

-- the number that is told with a fault: how many there are, the place of an octet, or the variable;
-- else what was there before
abbrev pub told : MessageFault → (before : ℕ) → ℕ
told (Room n) before = n
told (Octets (fault.WrongConstant place)) before = place
told (Octets (fault.OutOfType variable)) before = variable.0
told _ before = before

-- ---- which messages carry a variable

-- under values of a device these replies carry the variable
pub record AreRead (b : List ℕ) (values : List ℤ) (variable : ℕ) (all : List Message)
    : Type 0 where
  pub device : AreDeviceValues (types_in b) values
  pub readers : AreReaders b values (record { 0 = variable }) all

-- under values of a device these requests carry the variable
pub record AreWritten (b : List ℕ) (values : List ℤ) (variable : ℕ) (all : List Message)
    : Type 0 where
  pub device : AreDeviceValues (types_in b) values
  pub writers : AreWriters b values (record { 0 = variable }) all

-- the message of a number among all of them, if there are as many
abbrev pub message_at : List Message → ℕ → Option PlainMessage
message_at all number = option_map plain_message (slice_get all number)

-- it is the message of a number among all of them, if there are as many, and how many they are
pub record IsAmong (all : List Message) (number : ℕ) (found : Carrier) : Type 0 where
  pub message : found.message ≡ message_at all number
  pub count : found.count ≡ length all
