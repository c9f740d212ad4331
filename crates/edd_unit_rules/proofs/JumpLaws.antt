-- A jump leaves nothing.
use Rattle.std.proofs.Common.{◌≡◌, ℕ, ◌+◌, Option, Some, None, refl}
use Rattle.std.specs.Prelude.{option_map}
use Rattle.edd_instructions.specs.declared.instruction.Instruction.{Instruction}
use Rattle.edd_instructions.specs.declared.instruction.Instruction.TheVariants as instructions
use Rattle.edd_instructions.specs.declared.unit.Way.{Way}
use Rattle.edd_instructions.specs.Units.{jump}

pub jump_is_to : (i : Instruction) → jump i ≡ option_map (λ to. record { to = to; leaves = 0 })
    (option_map (λ w. w.to) (jump i))
jump_is_to instructions.End = refl
jump_is_to _ = refl

-- what is brought with the way to the next instruction
pub brought_onward : (rest next : ℕ) (o : Option ℕ)
    → option_map (λ (w : Way). rest + w.leaves) (option_map (λ n. record { to = next; leaves = n })
    o) ≡ option_map (λ n. rest + n) o
brought_onward rest next None = refl
brought_onward rest next (Some n) = refl
