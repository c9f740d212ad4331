-- When a variable may be set to a number, and why not.
use Rattle.std.specs.Prelude.{◌≡◌, ℕ, ℤ, pos, negsuc, Bool, true, false, ◌||◌, ◌==◌, int_le, List, [], ◌∷◌, Option, Some, None, if◌then◌else◌, bit_or, bit_xor}
use Rattle.std.specs.List.{list_any, slice_get}
use Rattle.std.specs.Ordering.{int_eq}
use Rattle.edd_syntax.specs.declared.numbers.Attr.{Attr}
use Rattle.edd_syntax.specs.declared.numbers.Attr.TheVariants as attr
use Rattle.edd_syntax.specs.declared.numbers.AttrRef.{AttrRef}
use Rattle.edd_syntax.specs.declared.numbers.ItemNo.TheVariants as items
use Rattle.edd_syntax.specs.declared.numbers.VarNo.{VarNo}
use Rattle.edd_syntax.specs.declared.types.VarType.{VarType}
use Rattle.edd_syntax.specs.declared.types.VarType.TheVariants as var_type
use Rattle.edd_syntax.specs.DeviceValues.{VariableType, is_in_range, value_at}
use Rattle.edd_instructions.specs.declared.records.Record.{Record}
use Rattle.edd_instructions.specs.declared.records.Record.TheVariants as records
use Rattle.edd_instructions.specs.Reading.{Reading, NoItem, Records, Fault, IsReading}
use Rattle.edd_machine.specs.Types.{types_in}
use Rattle.edd_panel.specs.declared.fault.EditFault.{EditFault}
use Rattle.edd_panel.specs.declared.fault.EditFault.TheVariants as fault

-- ---- what decides

-- the type of a variable, if there is such a variable, and what is read of its attributes that
-- decide on edits
pub record Rules : Type 0 where
  pub type : Option VariableType
  pub handling : Reading
  pub lowest : Reading
  pub highest : Reading
  pub enumerators : Reading

-- an attribute of a variable
abbrev pub of_variable : VarNo → Attr → AttrRef
of_variable v a = record { item = items.Variable v; attr = a; sub = 0 }

-- these are the rules of the variable, where it has one of these types, by what is read
pub record AreRulesBy (types : List VariableType) (reads : AttrRef → Reading → Type 0) (v : VarNo)
    (rules : Rules) : Type 0 where
  pub type : slice_get types v.0 ≡ rules.type
  pub handling : reads (of_variable v attr.Handling) rules.handling
  pub lowest : reads (of_variable v attr.MinValue) rules.lowest
  pub highest : reads (of_variable v attr.MaxValue) rules.highest
  pub enumerators : reads (of_variable v attr.Enumerators) rules.enumerators

-- what is read of an image under these values
abbrev pub reads_of : (image : List ℕ) → (values : List ℤ) → AttrRef → Reading → Type 0
reads_of b values ref r = IsReading b ref values r

-- these are the rules of the variable in an image, under these values
abbrev pub AreRules : (image : List ℕ) → (values : List ℤ) → VarNo → Rules → Type 0
AreRules b values v rules = AreRulesBy (types_in b) (reads_of b values) v rules

-- ---- the rules one by one: the fault, if there is one

-- the number that records begin with
abbrev pub first_number : List Record → Option ℤ
first_number (records.Number n ∷ rest) = Some n
first_number _ = None

-- HANDLING is WRITE, or READ and WRITE
abbrev pub has_write : Option ℤ → Bool
has_write (Some n) = int_eq n (pos 2) || int_eq n (pos 3)
has_write None = false

-- by HANDLING: it has no WRITE, or there was a trap
abbrev pub handling_fault : Reading → Option EditFault
handling_fault (Records rs) = if has_write (first_number rs) then None else Some fault.ReadOnly
handling_fault (Fault why) = Some fault.Trapped
handling_fault NoItem = Some fault.ReadOnly

-- no number is less than a limit that is not there
abbrev pub is_above : Option ℤ → ℤ → Bool
is_above (Some low) n = int_le low n
is_above None n = true

-- no number is greater than a limit that is not there
abbrev pub is_below : Option ℤ → ℤ → Bool
is_below (Some high) n = int_le n high
is_below None n = true

-- by MIN_VALUE: the number is less, or there was a trap
abbrev pub lowest_fault : Reading → ℤ → Option EditFault
lowest_fault (Records rs) n = if is_above (first_number rs) n then None else Some fault.OutOfLimits
lowest_fault (Fault why) n = Some fault.Trapped
lowest_fault NoItem n = None

-- by MAX_VALUE: the number is greater, or there was a trap
abbrev pub highest_fault : Reading → ℤ → Option EditFault
highest_fault (Records rs) n = if is_below (first_number rs) n then None else Some fault.OutOfLimits
highest_fault (Fault why) n = Some fault.Trapped
highest_fault NoItem n = None

-- the record is the enumerator of the number
abbrev pub is_enumerator : ℤ → Record → Bool
is_enumerator n (records.Enumerator value text help) = int_eq value n
is_enumerator n _ = false

-- the bits of a number; a negative one has none that a variable could have
abbrev pub bits_of : ℤ → ℕ
bits_of (pos n) = n
bits_of (negsuc n) = 0

-- the bits that an enumerator names; other records name none
abbrev pub named_bits : Record → ℕ
named_bits (records.Enumerator value text help) = bits_of value
named_bits _ = 0

-- these bits and those that the enumerators name
abbrev pub with_named : ℕ → List Record → ℕ
with_named bits [] = bits
with_named bits (r ∷ rest) = with_named (bit_or bits (named_bits r)) rest

-- each bit in which the numbers differ is one of an enumerator
abbrev pub changes_named : List Record → (old new : ℤ) → Bool
changes_named rs old new =
    bit_or (bit_xor (bits_of old) (bits_of new)) (with_named 0 rs) == with_named 0 rs

-- only an enumerator is a value of an ENUMERATED, and only bits of enumerators of a BIT_ENUMERATED
-- change
abbrev pub named_fault : VarType → List Record → (old new : ℤ) → Option EditFault
named_fault var_type.Integer rs old new = None
named_fault var_type.UnsignedInteger rs old new = None
named_fault var_type.Enumerated rs old new =
    if list_any (is_enumerator new) rs then None else Some fault.NoEnumerator
named_fault var_type.BitEnumerated rs old new =
    if changes_named rs old new then None else Some fault.NoBit

-- by the enumerators that are read, if there are any; or there was a trap
abbrev pub enumerators_fault : Option VariableType → Reading → (old new : ℤ) → Option EditFault
enumerators_fault (Some t) (Records rs) old new = named_fault t.type rs old new
enumerators_fault (Some t) (Fault why) old new = Some fault.Trapped
enumerators_fault (Some t) NoItem old new = named_fault t.type [] old new
enumerators_fault None enumerators old new = None

-- there is a variable, and its type holds the number
abbrev pub holds : Option VariableType → ℤ → Bool
holds (Some t) n = is_in_range t n
holds None n = false

-- by the type, which has to hold the number
abbrev pub type_fault : Option VariableType → ℤ → Option EditFault
type_fault t n = if holds t n then None else Some fault.OutOfType

-- ---- all of them

-- the first of two faults
abbrev pub or_else : Option EditFault → Option EditFault → Option EditFault
or_else (Some f) next = Some f
or_else None next = next

-- Why a variable that has the value `old` can't get the value `new`, if it can't. The first of
-- these rules that is broken decides.
abbrev pub value_fault : Rules → (old new : ℤ) → Option EditFault
value_fault rules old new =
    or_else (type_fault rules.type new)
    (or_else (lowest_fault rules.lowest new)
    (or_else (highest_fault rules.highest new)
    (enumerators_fault rules.type rules.enumerators old new)))

-- why a technician can't set it so, from an entry that may be READ_ONLY
abbrev pub edit_fault : Rules → (read_only : Bool) → (old new : ℤ) → Option EditFault
edit_fault rules true old new = Some fault.ReadOnly
edit_fault rules false old new = or_else (handling_fault rules.handling) (value_fault rules old new)

-- the fault of an edit of the variable is this, if it has one, by what is read
abbrev pub DecidesBy : (types : List VariableType) → (reads : AttrRef → Reading → Type 0)
    → (values : List ℤ) → VarNo → (read_only : Bool) → ℤ → Option EditFault → Type 0
DecidesBy types reads values v read_only n why = (rules : Rules) × AreRulesBy types reads v rules
    × (edit_fault rules read_only (value_at values v) n ≡ why)

-- the fault of an edit of the variable is this, if it has one
abbrev pub Decides : (image : List ℕ) → (values : List ℤ) → VarNo → (read_only : Bool) → ℤ
    → Option EditFault → Type 0
Decides b values v read_only n why =
    DecidesBy (types_in b) (reads_of b values) values v read_only n why

-- The technician may set the variable to this number: the type holds it, it is within the limits,
-- HANDLING has WRITE, the entry is not READ_ONLY, and enumerators name it or the bits that change.
abbrev pub MayEditBy : (types : List VariableType) → (reads : AttrRef → Reading → Type 0)
    → (values : List ℤ) → VarNo → (read_only : Bool) → ℤ → Type 0
MayEditBy types reads values v read_only n = DecidesBy types reads values v read_only n None

-- the same by what is read of the image
abbrev pub MayEdit : (image : List ℕ) → (values : List ℤ) → VarNo → (read_only : Bool) → ℤ → Type 0
MayEdit b values v read_only n = Decides b values v read_only n None
