-- What the transaction that a method sends carries, as the instrument's description says.
use Rattle.std.specs.Prelude.{◌≡◌, ◌≢◌, ℕ, ◌<◌, ℤ, pos, Bool, true, false, List, [], ◌∷◌, Option, Some, None, Result, Ok, Err}
use Rattle.edd_syntax.specs.declared.answer.Trap.{Trap}
use Rattle.edd_syntax.specs.declared.numbers.Attr.{Attr}
use Rattle.edd_syntax.specs.declared.numbers.Attr.TheVariants as attr
use Rattle.edd_syntax.specs.declared.numbers.AttrRef.{AttrRef}
use Rattle.edd_syntax.specs.declared.numbers.ItemNo.TheVariants as items
use Rattle.edd_image.specs.Fields.{counts_in}
use Rattle.edd_instructions.specs.declared.records.Record.{Record}
use Rattle.edd_instructions.specs.declared.records.Record.TheVariants as records
use Rattle.edd_instructions.specs.Reading.{Reading, NoItem, Records, Fault, IsReading}
use Rattle.edd_device.specs.declared.fault.DeviceFault.{DeviceFault}
use Rattle.edd_device.specs.declared.fault.DeviceFault.TheVariants.{NoCommand, NoTransaction, NoMessage}

-- ---- numbers

-- an attribute of a command; `sub` is the position of a transaction, else 0
abbrev pub of_command : (command : ℕ) → Attr → (sub : ℕ) → AttrRef
of_command command a sub =
    record { item = items.Command (record { 0 = command }); attr = a; sub = sub }

-- the number that an attribute gives, if it gives one
abbrev pub first_number : List Record → Option ℤ
first_number [] = None
first_number (records.Number n ∷ rest) = Some n
first_number (_ ∷ rest) = None

-- the number that is read, as that of a command of NUMBER
abbrev pub number_read : Reading → Option ℤ
number_read NoItem = None
number_read (Records rs) = first_number rs
number_read (Fault why) = None

-- the number of a transaction, by what is read of TRANSACTION: 0 where it is written without one
abbrev pub transaction_number : Reading → Option ℤ
transaction_number NoItem = None
transaction_number (Records []) = Some (pos 0)
transaction_number (Records (r ∷ rest)) = first_number (r ∷ rest)
transaction_number (Fault why) = None

-- the reading that is taken of an attribute gives this as its number
abbrev pub Numbers : (b : List ℕ) → (values : List ℤ) → AttrRef → (Reading → Option ℤ) → Option ℤ
    → Type 0
Numbers b values ref taken n = (r : Reading) × IsReading b ref values r × (n ≡ taken r)

-- ---- the first of a number

-- what is at this place has another number, or none
abbrev pub IsOther : (At : ℕ → Option ℤ → Type 0) → (number : ℤ) → ℕ → Type 0
IsOther At number k = (n : Option ℤ) × At k n × (n ≢ Some number)

-- it is the first of the places before `end` that has the number
pub record IsFirst (At : ℕ → Option ℤ → Type 0) (number : ℤ) (end place : ℕ) : Type 0 where
  pub within : place < end
  pub here : At place (Some number)
  pub before : (k : ℕ) → k < place → IsOther At number k

-- the first place that has the number, or none where no place has it
abbrev pub IsFound : (At : ℕ → Option ℤ → Type 0) → (number : ℤ) → (end : ℕ) → Option ℕ → Type 0
IsFound At number end (Some place) = IsFirst At number end place
IsFound At number end None = (k : ℕ) → k < end → IsOther At number k

-- This is the number of the command under the instrument's values, if it has one.
abbrev pub NumberAt : (b : List ℕ) → (values : List ℤ) → ℕ → Option ℤ → Type 0
NumberAt b values command n =
    Numbers b values (of_command command attr.Number 0) number_read n

-- This is the number of the command's transaction at a position, if there is one.
abbrev pub TransactionAt : (b : List ℕ) → (values : List ℤ) → (command : ℕ) → ℕ → Option ℤ → Type 0
TransactionAt b values command position n =
    Numbers b values (of_command command attr.Transaction position) transaction_number n

-- the command of this number under the instrument's values
abbrev pub IsCommand : (b : List ℕ) → (values : List ℤ) → (number : ℤ) → Option ℕ → Type 0
IsCommand b values number found = IsFound (NumberAt b values) number (counts_in b).commands found

-- the position of the transaction of this number; a command has at most 4,096
abbrev pub IsPosition : (b : List ℕ) → (values : List ℤ) → (command : ℕ) → (transaction : ℤ)
    → Option ℕ → Type 0
IsPosition b values command transaction found =
    IsFound (TransactionAt b values command) transaction 4096 found

-- ---- messages

-- the entries of a REQUEST and of a REPLY
pub record Message : Type 0 where
  pub request : List Record
  pub reply : List Record

-- the entries that are read, or the trap; a part that has no row has none
abbrev pub entries : Reading → Result (List Record) Trap
entries NoItem = Ok []
entries (Records rs) = Ok rs
entries (Fault why) = Err why

-- of a command's transaction, by what is read of its REQUEST and its REPLY
abbrev pub carried : (command : ℕ) → (request reply : Result (List Record) Trap)
    → Result Message DeviceFault
carried command (Ok request) (Ok reply) = Ok (record { request = request; reply = reply })
carried command (Ok request) (Err why) = Err (NoMessage (record { 0 = command }) why)
carried command (Err why) reply = Err (NoMessage (record { 0 = command }) why)

-- what is read of the transaction at a position
abbrev pub IsCarried : (b : List ℕ) → (values : List ℤ) → (command position : ℕ)
    → Result Message DeviceFault → Type 0
IsCarried b values command position m =
    (q : Reading) × (r : Reading)
    × IsReading b (of_command command attr.Request position) values q
    × IsReading b (of_command command attr.Reply position) values r
    × (m ≡ carried command (entries q) (entries r))

-- where the instrument has no such command or transaction, it carries nothing if the device knows
-- it
abbrev pub carried_if : (is_known : Bool) → DeviceFault → Result Message DeviceFault
carried_if true fault = Ok (record { request = []; reply = [] })
carried_if false fault = Err fault

-- what the transaction of a number carries, where this is its position
abbrev pub AtPosition : (b : List ℕ) → (values : List ℤ) → (command : ℕ)
    → (number transaction : ℤ) → (is_known : Bool) → Option ℕ → Result Message DeviceFault → Type 0
AtPosition b values command number transaction is_known (Some position) m =
    IsCarried b values command position m
AtPosition b values command number transaction is_known None m =
    m ≡ carried_if is_known (NoTransaction number transaction)

-- ... where this is the command
abbrev pub OfCommand : (b : List ℕ) → (values : List ℤ) → (number transaction : ℤ)
    → (is_known : Bool) → Option ℕ → Result Message DeviceFault → Type 0
OfCommand b values number transaction is_known (Some command) m =
    (position : Option ℕ) × IsPosition b values command transaction position
    × AtPosition b values command number transaction is_known position m
OfCommand b values number transaction is_known None m = m ≡ carried_if is_known (NoCommand number)

-- What the transaction of these numbers carries under the instrument's values, or why it can't be
-- sent. Whether the device knows it says whether it has a method for it.
abbrev pub IsMessage : (b : List ℕ) → (values : List ℤ) → (number transaction : ℤ)
    → (is_known : Bool) → Result Message DeviceFault → Type 0
IsMessage b values number transaction is_known m =
    (command : Option ℕ) × IsCommand b values number command
    × OfCommand b values number transaction is_known command m
