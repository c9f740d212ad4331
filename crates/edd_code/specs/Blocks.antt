-- Code in blocks. A block goes from one place to another and its jumps stay inside, so it may be
-- anywhere.
use Rattle.std.specs.Prelude.{ℕ, ◌+◌, ◌%◌, ◌^◌, ℤ, List, [], ◌∷◌, ◌++◌, length}
use Rattle.std.specs.List.{flat_map}
use Rattle.edd_instructions.specs.declared.instruction.Instruction.{Instruction}
use Rattle.edd_instructions.specs.declared.instruction.Instruction.TheVariants as instruction
use Rattle.edd_instructions.specs.Spelling.{spelling}

-- a piece of code that is entered at its start and goes on after its end
pub data Block : Type 0 where
  Nothing : Block
  -- an instruction that goes on to the one after it
  Straight : Instruction → Block
  -- one after the other
  Then : (first second : Block) → Block
  -- takes the topmost operand; where it isn't 0, the body follows
  WhenNotZero : (body : Block) → Block
  -- takes the topmost operand; where it is 0, the body follows
  WhenZero : (body : Block) → Block
  -- takes the topmost operand; the first follows where it isn't 0, else the other
  Either : (first otherwise : Block) → Block
  -- where the topmost operand is the label, it is taken and the body follows; else the rest, which
  -- finds it still there
  Match : (label : ℤ) → (body rest : Block) → Block

-- how many bytes a block has
abbrev pub size : Block → ℕ
size Nothing = 0
size (Straight i) = length (spelling i)
size (Then first second) = size first + size second
size (WhenNotZero body) = 5 + size body
size (WhenZero body) = 5 + size body
size (Either first otherwise) = 5 + (size first + (5 + size otherwise))
size (Match label body rest) = 13 + (size rest + (5 + size body))

-- a target has 32 bits
abbrev pub target : ℕ → ℕ
target place = place % 2 ^ 32

-- The instructions of a block at a place. A jump leads over the part that isn't to
-- follow.
unfoldable pub emitted : (place : ℕ) → Block → List Instruction
emitted p Nothing = []
emitted p (Straight i) = i ∷ []
emitted p (Then first second) = emitted p first ++ emitted (p + size first) second
emitted p (WhenNotZero body) = instruction.JumpIfZero (target (p + (5 + size body)))
    ∷ emitted (p + 5) body
emitted p (WhenZero body) = instruction.JumpIfNotZero (target (p + (5 + size body)))
    ∷ emitted (p + 5) body
emitted p (Either first otherwise) =
    instruction.JumpIfZero (target (p + (5 + (size first + 5)))) ∷ (emitted (p + 5) first
    ++ (instruction.Jump (target (p + (5 + (size first + (5 + size otherwise)))))
    ∷ emitted (p + (5 + (size first + 5))) otherwise))
emitted p (Match label body rest) =
    instruction.Case label (target (p + (13 + (size rest + 5)))) ∷ (emitted (p + 13) rest
    ++ (instruction.Jump (target (p + (13 + (size rest + (5 + size body)))))
    ∷ emitted (p + (13 + (size rest + 5))) body))

-- the bytes of instructions
unfoldable pub bytes_of : List Instruction → List ℕ
bytes_of is = flat_map spelling is

-- the bytes of a block at a place
abbrev pub bytes_at : (place : ℕ) → Block → List ℕ
bytes_at p b = bytes_of (emitted p b)

-- the unit of a block: it is at 0, and an end is after it
abbrev pub unit_code : Block → List ℕ
unit_code b = bytes_at 0 b ++ spelling instruction.End
