-- Code that goes on from one block to the next.
use Rattle.std.proofs.Common.{◌≡◌, ap, ◌∙◌, List, ℕ, ◌++◌, length, Result, Ok, Err}
use Rattle.std.specs.Prelude.{OnOk}
use Rattle.edd_instructions.specs.declared.instruction.Instruction.{Instruction}
use Rattle.edd_instructions.specs.Spelling.{spelling}
use Rattle.edd_code.specs.Blocks.{Block, Straight, Then, bytes_at}
use Rattle.edd_code.proofs.Closing.{straight_written, then_written}

-- a block after a block is their `Then`
pub goes_on : (c0 c1 c2 : List ℕ) (a b : Block) → c1 ≡ c0 ++ bytes_at (length c0) a
    → c2 ≡ c1 ++ bytes_at (length c1) b → c2 ≡ c0 ++ bytes_at (length c0) (Then a b)
goes_on c0 c1 c2 a b one two = two ∙ ap (λ c. c ++ bytes_at (length c) b) one ∙ then_written c0 a b

pub one_more : (c0 c1 : List ℕ) (i : Instruction) → c1 ≡ c0 ++ spelling i
    → c1 ≡ c0 ++ bytes_at (length c0) (Straight i)
one_more c0 c1 i is = is ∙ straight_written c0 i

pub goes_on_ok : {A E : Type 0} (result : Result A E) (c0 : List ℕ) {c1 : List ℕ} (c2 : List ℕ) (a
    b : Block) → c1 ≡ c0 ++ bytes_at (length c0) a → OnOk result (c2 ≡ c1 ++ bytes_at (length c1) b)
    → OnOk result (c2 ≡ c0 ++ bytes_at (length c0) (Then a b))
goes_on_ok (Ok x) c0 {c1} c2 a b one two = goes_on c0 c1 c2 a b one two
goes_on_ok (Err why) c0 c2 a b one two = two
