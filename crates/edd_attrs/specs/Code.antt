-- The instructions that give a record.
use Rattle.std.specs.Prelude.{List, [], ◌∷◌, unsigned_abs}
use Rattle.edd_instructions.specs.declared.records.Record.{Record}
use Rattle.edd_instructions.specs.declared.records.Record.TheVariants as records
use Rattle.edd_instructions.specs.declared.instruction.Instruction.{Instruction}
use Rattle.edd_instructions.specs.declared.instruction.Instruction.TheVariants as instruction

-- the instructions that give a record; the numbers of an attribute are not negative
abbrev pub giving : Record → List Instruction
giving (records.Words s) = instruction.Text s ∷ []
giving (records.Number z) = instruction.Push (unsigned_abs z) ∷ instruction.Number ∷ []
giving (records.Entry item quals) = instruction.Item item quals ∷ []
giving (records.DataConst n) = instruction.DataConst n ∷ []
giving (records.DataVar v mask quals) = instruction.DataVar v mask quals ∷ []
giving (records.Enumerator n text help) = instruction.Enumerator n text help ∷ []
giving (records.Response n class text) = instruction.Response n class text ∷ []
giving (records.Member name item label help) = instruction.Member name item label help ∷ []
giving (records.Element n v label help) = instruction.Element n v label help ∷ []
