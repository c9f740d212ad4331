-- The instruction whose bytes are at a place of a unit.
use Rattle.std.specs.Prelude.{ℕ, zero, suc, ℤ, ◌-◌, ◌==◌, Bool, true, ◌&&◌, List, [], ◌∷◌, length, take, drop, Option, Some, None, option_map, nat_lt, if◌then◌else◌}
use Rattle.std.specs.Int.{Width, w16, w32, w64, byte_len, from_be_bytes, cast_signed}
use Rattle.edd_syntax.specs.declared.numbers.VarNo.{VarNo}
use Rattle.edd_syntax.specs.declared.numbers.ArrNo.{ArrNo}
use Rattle.edd_syntax.specs.declared.numbers.MethNo.{MethNo}
use Rattle.edd_syntax.specs.declared.numbers.StrNo.{StrNo}
use Rattle.edd_syntax.specs.declared.numbers.ItemNo.{ItemNo}
use Rattle.edd_syntax.specs.declared.numbers.Kind.TheVariants.{Array}
use Rattle.edd_syntax.specs.Builtins.{names_taken, request_from_number}
use Rattle.edd_syntax.specs.Numbers.{kind_number, item_from_numbers}
use Rattle.edd_syntax.specs.declared.operators.Operator.{Operator}
use Rattle.edd_syntax.specs.declared.operators.Operator.TheVariants as operator
use Rattle.edd_syntax.specs.declared.operators.Comparison.{Comparison}
use Rattle.edd_syntax.specs.declared.operators.Comparison.TheVariants as comparison
use Rattle.edd_image.specs.Front.{◌>>=◌, byte_from, number_from}
use Rattle.edd_instructions.specs.declared.instruction.Ask.{Ask}
use Rattle.edd_instructions.specs.declared.instruction.Instruction.{Instruction}
use Rattle.edd_instructions.specs.declared.instruction.Instruction.TheVariants as instruction

-- ---- operands: a value and the bytes after it, where there are enough bytes

-- a signed number
unfoldable pub signed_from : Width → List ℕ → Option (ℤ × List ℕ)
signed_from w bytes = if nat_lt (length bytes) (byte_len w) then None else Some
    (cast_signed w (from_be_bytes w (take (byte_len w) bytes)), drop (byte_len w) bytes)

-- the variable with this number
abbrev pub variable : ℕ → VarNo
variable n = record { 0 = n }

-- the array with this number
abbrev pub array : ℕ → ArrNo
array n = record { 0 = n }

-- the method with this number
abbrev pub method : ℕ → MethNo
method n = record { 0 = n }

-- the string with this number
abbrev pub string : ℕ → StrNo
string n = record { 0 = n }

-- a string number that may be missing, which FFFF says
abbrev pub optional_string : ℕ → Option StrNo
optional_string n = if n == 0xffff then None else Some (string n)

-- an item that an entry or a member may name; an array is neither
abbrev pub listed_item : ℕ → ℕ → Option ItemNo
listed_item kind n = if kind == kind_number Array then None else item_from_numbers kind n

-- an item by its kind and number
unfoldable pub item_from : List ℕ → Option (ItemNo × List ℕ)
item_from bytes = do
  kind ← byte_from bytes
  n ← number_from w16 kind.1
  item ← listed_item kind.0 n.0
  Some (item, n.1)

-- ---- the instructions by their codes

-- constants, variables, slots, the stack and elements
unfoldable pub basic_from : ℕ → List ℕ → Option (Instruction × List ℕ)
basic_from code bytes =
    if code == 0x00 then Some (instruction.End, bytes) else
    if code == 0x01 then number_from w32 bytes >>= (λ n. Some (instruction.Push n.0, n.1)) else
    if code == 0x02 then number_from w16 bytes
    >>= (λ n. Some (instruction.Variable (variable n.0), n.1)) else
    if code == 0x03 then number_from w16 bytes
    >>= (λ n. Some (instruction.Store (variable n.0), n.1)) else
    if code == 0x04 then number_from w16 bytes >>= (λ n. Some (instruction.GetLocal n.0, n.1)) else
    if code == 0x05 then number_from w16 bytes >>= (λ n. Some (instruction.SetLocal n.0, n.1)) else
    if code == 0x06 then Some (instruction.Pop, bytes) else
    if code == 0x07 then Some (instruction.Duplicate, bytes) else
    if code == 0x08 then number_from w16 bytes
    >>= (λ n. Some (instruction.ReadElement (array n.0), n.1)) else
    None

-- the arithmetic or bitwise operator that a code stands for
unfoldable pub operator_of : ℕ → Option Operator
operator_of code =
    if code == 0x10 then Some operator.Add else
    if code == 0x11 then Some operator.Subtract else
    if code == 0x12 then Some operator.Multiply else
    if code == 0x13 then Some operator.Divide else
    if code == 0x14 then Some operator.Remainder else
    if code == 0x15 then Some operator.ShiftLeft else
    if code == 0x16 then Some operator.ShiftRight else
    if code == 0x17 then Some operator.And else
    if code == 0x18 then Some operator.Or else
    if code == 0x19 then Some operator.Xor else
    None

-- the comparison that a code stands for
unfoldable pub comparison_of : ℕ → Option Comparison
comparison_of code =
    if code == 0x1a then Some comparison.Equal else
    if code == 0x1b then Some comparison.NotEqual else
    if code == 0x1c then Some comparison.Less else
    if code == 0x1d then Some comparison.LessOrEqual else
    if code == 0x1e then Some comparison.Greater else
    if code == 0x1f then Some comparison.GreaterOrEqual else
    None

-- the instruction of a unary operator that a code stands for
unfoldable pub unary_of : ℕ → Option Instruction
unary_of code =
    if code == 0x20 then Some instruction.Negate else
    if code == 0x21 then Some instruction.Not else
    if code == 0x22 then Some instruction.Complement else
    None

-- jumps, each with its target
unfoldable pub jump_from : ℕ → List ℕ → Option (Instruction × List ℕ)
jump_from code bytes =
    if code == 0x30 then number_from w32 bytes >>= (λ to. Some (instruction.Jump to.0, to.1)) else
    if code == 0x31 then number_from w32 bytes >>= (λ to. Some (instruction.JumpIfZero to.0, to.1))
    else
    if code == 0x32 then number_from w32 bytes
    >>= (λ to. Some (instruction.JumpIfNotZero to.0, to.1)) else
    if code == 0x33 then signed_from w64 bytes
    >>= (λ label. number_from w32 label.1
    >>= (λ to. Some (instruction.Case label.0 to.0, to.1))) else
    None

-- DISPLAY_VALUE is 1, READ_ONLY 2, HIDDEN 4 and REVIEW 8
unfoldable pub entry_from : List ℕ → Option (Instruction × List ℕ)
entry_from bytes = do
  item ← item_from bytes
  quals ← number_from w16 item.1
  if nat_lt quals.0 16 then Some (instruction.Item item.0 quals.0, quals.1) else None

-- a mask of 0 is none; INFO is 1 and INDEX 2
unfoldable pub data_from : List ℕ → Option (Instruction × List ℕ)
data_from bytes = do
  n ← number_from w16 bytes
  mask ← number_from w32 n.1
  quals ← byte_from mask.1
  if nat_lt quals.0 4 then Some (instruction.DataVar (variable n.0) mask.0 quals.0, quals.1) else
      None

-- value, text and help of an enumerator, whose help may be missing
unfoldable pub enumerator_from : List ℕ → Option (Instruction × List ℕ)
enumerator_from bytes = do
  value ← signed_from w64 bytes
  text ← number_from w16 value.1
  help ← number_from w16 text.1
  Some (instruction.Enumerator value.0 (string text.0) (optional_string help.0), help.1)

-- a class is 0 to 6
unfoldable pub response_from : List ℕ → Option (Instruction × List ℕ)
response_from bytes = do
  n ← number_from w32 bytes
  class ← byte_from n.1
  text ← number_from w16 class.1
  if nat_lt class.0 7 then Some (instruction.Response n.0 class.0 (string text.0), text.1) else None

-- name, item, label and help of a member, whose label and help may be missing
unfoldable pub member_from : List ℕ → Option (Instruction × List ℕ)
member_from bytes = do
  name ← number_from w16 bytes
  item ← item_from name.1
  label ← number_from w16 item.1
  help ← number_from w16 label.1
  Some (
    instruction.Member (string name.0) item.0 (optional_string label.0)
        (optional_string help.0),
    help.1,
  )

-- number, variable, label and help of an element, whose label and help may be missing
unfoldable pub element_from : List ℕ → Option (Instruction × List ℕ)
element_from bytes = do
  n ← number_from w32 bytes
  v ← number_from w16 n.1
  label ← number_from w16 v.1
  help ← number_from w16 label.1
  Some (
    instruction.Element n.0 (variable v.0) (optional_string label.0) (optional_string help.0),
    help.1,
  )

-- the records of an attribute
unfoldable pub record_from : ℕ → List ℕ → Option (Instruction × List ℕ)
record_from code bytes =
    if code == 0x40 then number_from w16 bytes >>= (λ n. Some (instruction.Text (string n.0), n.1))
    else
    if code == 0x41 then Some (instruction.Number, bytes) else
    if code == 0x42 then entry_from bytes else
    if code == 0x43 then byte_from bytes >>= (λ n. Some (instruction.DataConst n.0, n.1)) else
    if code == 0x44 then data_from bytes else
    if code == 0x45 then enumerator_from bytes else
    if code == 0x46 then response_from bytes else
    if code == 0x47 then member_from bytes else
    if code == 0x48 then element_from bytes else
    None

-- of two operands, those that name nothing are 0
abbrev pub unused_are_zero : (names : ℕ) → (s t : ℕ) → Bool
unused_are_zero zero s t = s == 0 && t == 0
unused_are_zero (suc zero) s t = t == 0
unused_are_zero (suc (suc n)) s t = true

-- a request by its number, with the operands s and t, which are 0 where they name nothing
unfoldable pub ask_of : ℕ → ℕ → ℕ → Option Ask
ask_of b s t = do
  kind ← request_from_number b
  if unused_are_zero (names_taken kind) s t then Some (record {
    kind = kind;
    first = s;
    second = t;
  }) else None

-- a request: its number and its two operands
unfoldable pub ask_from : List ℕ → Option (Instruction × List ℕ)
ask_from bytes = do
  b ← byte_from bytes
  s ← number_from w16 b.1
  t ← number_from w16 s.1
  request ← ask_of b.0 s.0 t.0
  Some (instruction.Ask request, t.1)

-- the method that is added as an abort method
unfoldable pub abort_method_from : List ℕ → Option (Instruction × List ℕ)
abort_method_from bytes = number_from w16 bytes
    >>= (λ n. Some (instruction.AddAbortMethod (method n.0), n.1))

-- the instruction at the front, and the bytes after it
unfoldable pub instruction_from : List ℕ → Option (Instruction × List ℕ)
instruction_from [] = None
instruction_from (code ∷ bytes) =
    if nat_lt code 0x10 then basic_from code bytes else
    if nat_lt code 0x1a then option_map (λ op. (instruction.Operate op, bytes)) (operator_of code)
    else
    if nat_lt code 0x20 then option_map (λ op. (instruction.Compare op, bytes)) (comparison_of code)
    else
    if nat_lt code 0x30 then option_map (λ i. (i, bytes)) (unary_of code) else
    if nat_lt code 0x40 then jump_from code bytes else
    if nat_lt code 0x50 then record_from code bytes else
    if code == 0x50 then ask_from bytes else
    if code == 0x51 then Some (instruction.Abort, bytes) else
    if code == 0x52 then abort_method_from bytes else
    None

-- the instruction at a place, and the place after it
unfoldable pub instruction_at : List ℕ → ℕ → Option (Instruction × ℕ)
instruction_at code place = option_map (λ found. (found.0, length code - length found.1))
    (instruction_from (drop place code))
