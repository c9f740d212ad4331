-- What a block results in, whatever is carried along; in attributes and in methods.
use Rattle.std.specs.Prelude.{true, false, ℤ, List, [], ◌∷◌}
use Rattle.std.specs.Ordering.{int_eq}
use Rattle.edd_syntax.specs.TwosComplement.{is_zero}
use Rattle.edd_instructions.specs.declared.instruction.Instruction.{Instruction}
use Rattle.edd_code.specs.Blocks.{Block, Nothing, Straight, Then, WhenNotZero, WhenZero, Either, Match}

-- W is what is carried along, E is what a stop leaves
pub data Outcome (W E : Type 0) : Type 0 where
  Goes : (operands : List ℤ) → W → Outcome W E
  Stops : E → Outcome W E
  -- an operand is missing, or the instruction doesn't go on to the one after it
  Stuck : Outcome W E

-- what follows where the first goes on
abbrev pub and_then : {W E : Type 0} → Outcome W E → (List ℤ → W → Outcome W E) → Outcome W E
and_then (Goes operands w) next = next operands w
and_then (Stops e) next = Stops e
and_then Stuck next = Stuck

-- what is done with the topmost operand and those below it, where there is one
abbrev pub on_topmost : {W E : Type 0} → List ℤ → (ℤ → List ℤ → Outcome W E) → Outcome W E
on_topmost [] f = Stuck
on_topmost (a ∷ below) f = f a below

-- one: what a straight instruction results in
module _ {W E : Type 0} (one : Instruction → List ℤ → W → Outcome W E) where
  -- what a block results in with these operands in front of it
  unfoldable pub does : Block → List ℤ → W → Outcome W E
  does Nothing operands w = Goes operands w
  does (Straight i) operands w = one i operands w
  does (Then first second) operands w = and_then (does first operands w) (does second)
  does (WhenNotZero body) operands w =
      on_topmost operands (λ a below. elim (is_zero a) [
        | true ↦ Goes below w
        | false ↦ does body below w
      ])
  does (WhenZero body) operands w =
      on_topmost operands (λ a below. elim (is_zero a) [
        | true ↦ does body below w
        | false ↦ Goes below w
      ])
  does (Either first otherwise) operands w =
      on_topmost operands (λ a below. elim (is_zero a) [
        | true ↦ does otherwise below w
        | false ↦ does first below w
      ])
  does (Match label body rest) operands w =
      on_topmost operands (λ a below. elim (int_eq a label) [
        | true ↦ does body below w
        | false ↦ does rest operands w
      ])
