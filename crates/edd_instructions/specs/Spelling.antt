-- The bytes of an instruction: its code and its operands.
use Rattle.std.specs.Prelude.{◌≡◌, true, ℕ, ◌<◌, ◌^◌, ℤ, List, [], ◌∷◌, ◌++◌, Option, Some, None, IfSome, ⊤, FitsSigned, slice_index}
use Rattle.std.specs.Int.{w64, to_be_bytes, cast_unsigned}
use Rattle.edd_syntax.specs.declared.numbers.StrNo.{StrNo}
use Rattle.edd_syntax.specs.declared.numbers.ItemNo.{ItemNo}
use Rattle.edd_syntax.specs.declared.numbers.ItemNo.TheVariants as items
use Rattle.edd_syntax.specs.declared.operators.Operator.{Operator}
use Rattle.edd_syntax.specs.declared.operators.Operator.TheVariants as operator
use Rattle.edd_syntax.specs.declared.operators.Comparison.{Comparison}
use Rattle.edd_syntax.specs.declared.operators.Comparison.TheVariants as comparison
use Rattle.edd_syntax.specs.Builtins.{names_taken, request_number}
use Rattle.edd_syntax.specs.Numbers.{kind_number, kind_of, index_of}
use Rattle.edd_instructions.specs.declared.instruction.Ask.{Ask}
use Rattle.edd_instructions.specs.declared.instruction.Instruction.{Instruction}
use Rattle.edd_instructions.specs.declared.instruction.Instruction.TheVariants as instruction
use Rattle.edd_instructions.specs.declared.instruction.Jump.{Jump}
use Rattle.edd_instructions.specs.declared.instruction.Jump.TheVariants as jump
use Rattle.edd_image.specs.Layout.{u16, u32}
use Rattle.edd_instructions.specs.Decoding.{unused_are_zero}

-- the eight bytes of a signed number, in two's complement
abbrev pub i64 : ℤ → List ℕ
i64 z = to_be_bytes w64 (cast_unsigned w64 z)

-- the number of its kind, and its own among the items of that kind
abbrev pub item_bytes : ItemNo → List ℕ
item_bytes item = kind_number (kind_of item) ∷ u16 (index_of item)

-- FFFF is none
abbrev pub optional_number : Option StrNo → ℕ
optional_number None = 0xffff
optional_number (Some s) = s.0

-- the two bytes of a string number that may be missing
abbrev pub optional_bytes : Option StrNo → List ℕ
optional_bytes o = u16 (optional_number o)

-- the code of an arithmetic or bitwise operator
abbrev pub operator_code : Operator → ℕ
operator_code operator.Add = 0x10
operator_code operator.Subtract = 0x11
operator_code operator.Multiply = 0x12
operator_code operator.Divide = 0x13
operator_code operator.Remainder = 0x14
operator_code operator.ShiftLeft = 0x15
operator_code operator.ShiftRight = 0x16
operator_code operator.And = 0x17
operator_code operator.Or = 0x18
operator_code operator.Xor = 0x19

-- the code of a comparison
abbrev pub comparison_code : Comparison → ℕ
comparison_code comparison.Equal = 0x1a
comparison_code comparison.NotEqual = 0x1b
comparison_code comparison.Less = 0x1c
comparison_code comparison.LessOrEqual = 0x1d
comparison_code comparison.Greater = 0x1e
comparison_code comparison.GreaterOrEqual = 0x1f

-- the number of a request, and its two operands
abbrev pub ask_bytes : Ask → List ℕ
ask_bytes a = request_number a.kind ∷ (u16 a.first ++ u16 a.second)

-- the code of an instruction, then its operands
abbrev pub spelling : Instruction → List ℕ
spelling instruction.End = 0x00 ∷ []
spelling (instruction.Push n) = 0x01 ∷ u32 n
spelling (instruction.Variable v) = 0x02 ∷ u16 v.0
spelling (instruction.Store v) = 0x03 ∷ u16 v.0
spelling (instruction.GetLocal slot) = 0x04 ∷ u16 slot
spelling (instruction.SetLocal slot) = 0x05 ∷ u16 slot
spelling instruction.Pop = 0x06 ∷ []
spelling instruction.Duplicate = 0x07 ∷ []
spelling (instruction.ReadElement a) = 0x08 ∷ u16 a.0
spelling (instruction.Operate op) = operator_code op ∷ []
spelling (instruction.Compare op) = comparison_code op ∷ []
spelling instruction.Negate = 0x20 ∷ []
spelling instruction.Not = 0x21 ∷ []
spelling instruction.Complement = 0x22 ∷ []
spelling (instruction.Jump to) = 0x30 ∷ u32 to
spelling (instruction.JumpIfZero to) = 0x31 ∷ u32 to
spelling (instruction.JumpIfNotZero to) = 0x32 ∷ u32 to
spelling (instruction.Case label to) = 0x33 ∷ (i64 label ++ u32 to)
spelling (instruction.Text s) = 0x40 ∷ u16 s.0
spelling instruction.Number = 0x41 ∷ []
spelling (instruction.Item item quals) = 0x42 ∷ (item_bytes item ++ u16 quals)
spelling (instruction.DataConst n) = 0x43 ∷ n ∷ []
spelling (instruction.DataVar v mask quals) = 0x44 ∷ (u16 v.0 ++ (u32 mask ++ quals ∷ []))
spelling (instruction.Enumerator n text help) = 0x45
    ∷ (i64 n ++ (u16 text.0 ++ optional_bytes help))
spelling (instruction.Response n class text) = 0x46 ∷ (u32 n ++ class ∷ u16 text.0)
spelling (instruction.Member name item label help) = 0x47
    ∷ (u16 name.0 ++ (item_bytes item ++ (optional_bytes label ++ optional_bytes help)))
spelling (instruction.Element n v label help) = 0x48
    ∷ (u32 n ++ (u16 v.0 ++ (optional_bytes label ++ optional_bytes help)))
spelling (instruction.Ask request) = 0x50 ∷ ask_bytes request
spelling instruction.Abort = 0x51 ∷ []
spelling (instruction.AddAbortMethod m) = 0x52 ∷ u16 m.0

-- the instruction that leads to a target
abbrev pub jump_to : Jump → ℕ → Instruction
jump_to jump.Always to = instruction.Jump to
jump_to jump.IfZero to = instruction.JumpIfZero to
jump_to jump.IfNotZero to = instruction.JumpIfNotZero to
jump_to (jump.IfLabel label) to = instruction.Case label to

-- how many bytes there are before its target
abbrev pub head_length : Jump → ℕ
head_length jump.Always = 1
head_length jump.IfZero = 1
head_length jump.IfNotZero = 1
head_length (jump.IfLabel label) = 9

-- ---- the ranges of operands

-- The string is missing, or its number is below FFFF, which stands for a missing one.
abbrev pub IsOptional : Option StrNo → Type 0
IsOptional o = IfSome o (λ s. s.0 < 0xffff)

-- Each number that the request names fits its two bytes, and is 0 where it names nothing.
abbrev pub IsAsk : Ask → Type 0
IsAsk a = (a.first < 2 ^ 16) × (a.second < 2 ^ 16)
    × (unused_are_zero (names_taken a.kind) a.first a.second ≡ true)

-- an item that an entry or a member may name; an array is neither
abbrev pub IsListed : ItemNo → Type 0
IsListed (items.Variable n) = n.0 < 2 ^ 16
IsListed (items.Command n) = n.0 < 2 ^ 16
IsListed (items.Menu n) = n.0 < 2 ^ 16
IsListed (items.Collection n) = n.0 < 2 ^ 16
IsListed (items.Method n) = n.0 < 2 ^ 16
IsListed (items.Array n) = ⊥

-- each operand is in its range
abbrev pub IsSpelled : Instruction → Type 0
IsSpelled instruction.End = ⊤
IsSpelled (instruction.Push n) = n < 2 ^ 32
IsSpelled (instruction.Variable v) = v.0 < 2 ^ 16
IsSpelled (instruction.Store v) = v.0 < 2 ^ 16
IsSpelled (instruction.GetLocal slot) = slot < 2 ^ 16
IsSpelled (instruction.SetLocal slot) = slot < 2 ^ 16
IsSpelled instruction.Pop = ⊤
IsSpelled instruction.Duplicate = ⊤
IsSpelled (instruction.ReadElement a) = a.0 < 2 ^ 16
IsSpelled (instruction.Operate op) = ⊤
IsSpelled (instruction.Compare op) = ⊤
IsSpelled instruction.Negate = ⊤
IsSpelled instruction.Not = ⊤
IsSpelled instruction.Complement = ⊤
IsSpelled (instruction.Jump to) = to < 2 ^ 32
IsSpelled (instruction.JumpIfZero to) = to < 2 ^ 32
IsSpelled (instruction.JumpIfNotZero to) = to < 2 ^ 32
IsSpelled (instruction.Case label to) = FitsSigned w64 label × (to < 2 ^ 32)
IsSpelled (instruction.Text s) = s.0 < 2 ^ 16
IsSpelled instruction.Number = ⊤
IsSpelled (instruction.Item item quals) = IsListed item × (quals < 16)
IsSpelled (instruction.DataConst n) = n < 256
IsSpelled (instruction.DataVar v mask quals) = (v.0 < 2 ^ 16) × (mask < 2 ^ 32) × (quals < 4)
IsSpelled (instruction.Enumerator n text help) = FitsSigned w64 n × (text.0 < 2 ^ 16)
    × IsOptional help
IsSpelled (instruction.Response n class text) = (n < 2 ^ 32) × (class < 7) × (text.0 < 2 ^ 16)
IsSpelled (instruction.Member name item label help) = (name.0 < 2 ^ 16) × IsListed item
    × IsOptional label × IsOptional help
IsSpelled (instruction.Element n v label help) = (n < 2 ^ 32) × (v.0 < 2 ^ 16)
    × IsOptional label × IsOptional help
IsSpelled (instruction.Ask request) = IsAsk request
IsSpelled instruction.Abort = ⊤
IsSpelled (instruction.AddAbortMethod m) = m.0 < 2 ^ 16

-- each byte is below 256
pub record AreBytes (bytes : List ℕ) : Type 0 where
  pub below : (i : ℕ) → slice_index bytes i < 2 ^ 8
