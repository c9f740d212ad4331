-- An instruction and its bytes, both ways.
use Rattle.std.specs.Prelude.{◌≡◌, ℕ, List, length, Some}
use Rattle.edd_syntax.specs.declared.operators.RequestKind.{RequestKind}
use Rattle.edd_instructions.specs.declared.instruction.Instruction.{Instruction}
use Rattle.edd_instructions.specs.declared.instruction.Instruction.TheVariants as instruction
use Rattle.edd_instructions.specs.Decoding.{instruction_at}
use Rattle.edd_instructions.specs.Spelling.{spelling}

-- it is spelled by these bytes, and they are decoded as it
abbrev pub IsWritten : Instruction → List ℕ → Type 0
IsWritten i bytes = (spelling i ≡ bytes) × (instruction_at bytes 0 ≡ Some (i, length bytes))

-- the instruction of a request
abbrev pub asks : RequestKind → (first second : ℕ) → Instruction
asks kind first second = instruction.Ask (record { kind = kind; first = first; second = second })
