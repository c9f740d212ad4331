-- The instructions of a block with their places, each target being the place itself.
use Rattle.std.proofs.Common.{◌≡◌, refl, sym, ap, ◌∙◌, ℕ, ◌+◌, ◌<◌, ◌^◌, List, ◌∷◌, ◌++◌, length, arith, append_assoc}
use Rattle.std.specs.List.{AllByRecursion}
use Rattle.std.proofs.Math.Nat.{mod-eq_of_lt}
use Rattle.edd_instructions.specs.declared.instruction.Instruction.{Instruction}
use Rattle.edd_instructions.specs.declared.instruction.Instruction.TheVariants as instruction
use Rattle.edd_instructions.specs.Spelling.{spelling}
use Rattle.edd_instructions.specs.Units.{Placed}
use Rattle.edd_code.specs.Blocks.{Block, Nothing, Straight, Then, WhenNotZero, WhenZero, Either, Match, size, target, emitted}
use Rattle.edd_code.proofs.Lines.{placed}

-- an instruction of so many bytes at a place
abbrev pub stand : ℕ → Instruction → ℕ → Placed
stand p i n = record { place = p; instruction = i; next = n }

-- the instructions of a block at a place, and those after it
abbrev pub listed : (place : ℕ) → Block → List Placed → List Placed
listed p Nothing after = after
listed p (Straight i) after = stand p i (p + length (spelling i)) ∷ after
listed p (Then first second) after = listed p first (listed (p + size first) second after)
listed p (WhenNotZero body) after = stand p (instruction.JumpIfZero (p + (5 + size body))) (p + 5)
    ∷ listed (p + 5) body after
listed p (WhenZero body) after = stand p (instruction.JumpIfNotZero (p + (5 + size body))) (p + 5)
    ∷ listed (p + 5) body after
listed p (Either first otherwise) after =
    stand p (instruction.JumpIfZero (p + (5 + (size first + 5)))) (p + 5)
    ∷ listed (p + 5) first (
    stand (p + (5 + size first)) (instruction.Jump (p + (5 + (size first + (5 + size otherwise)))))
    (p + (5 + (size first + 5)))
    ∷ listed (p + (5 + (size first + 5))) otherwise after)
listed p (Match label body rest) after =
    stand p (instruction.Case label (p + (13 + (size rest + 5)))) (p + 13)
    ∷ listed (p + 13) rest (
    stand (p + (13 + size rest)) (instruction.Jump (p + (13 + (size rest + (5 + size body)))))
    (p + (13 + (size rest + 5)))
    ∷ listed (p + (13 + (size rest + 5))) body after)

-- this holds of each instruction of a block at a place
abbrev pub AllIn : (Placed → Type 0) → (place : ℕ) → Block → Type 0
AllIn P p Nothing = Unit {0}
AllIn P p (Straight i) = P (stand p i (p + length (spelling i)))
AllIn P p (Then first second) = AllIn P p first × AllIn P (p + size first) second
AllIn P p (WhenNotZero body) = P (stand p (instruction.JumpIfZero (p + (5 + size body))) (p + 5))
    × AllIn P (p + 5) body
AllIn P p (WhenZero body) = P (stand p (instruction.JumpIfNotZero (p + (5 + size body))) (p + 5))
    × AllIn P (p + 5) body
AllIn P p (Either first otherwise) =
    P (stand p (instruction.JumpIfZero (p + (5 + (size first + 5)))) (p + 5))
    × AllIn P (p + 5) first
    × P (stand (p + (5 + size first))
    (instruction.Jump (p + (5 + (size first + (5 + size otherwise)))))
    (p + (5 + (size first + 5))))
    × AllIn P (p + (5 + (size first + 5))) otherwise
AllIn P p (Match label body rest) =
    P (stand p (instruction.Case label (p + (13 + (size rest + 5)))) (p + 13))
    × AllIn P (p + 13) rest
    × P (stand (p + (13 + size rest)) (instruction.Jump (p + (13 + (size rest + (5 + size body)))))
    (p + (13 + (size rest + 5))))
    × AllIn P (p + (13 + (size rest + 5))) body

module _ (P : Placed → Type 0) where
  pub all_listed : (p : ℕ) (b : Block) (after : List Placed) → AllIn P p b → AllByRecursion P after
      → AllByRecursion P (listed p b after)
  all_listed p Nothing after h others = others
  all_listed p (Straight i) after h others = (h, others)
  all_listed p (Then first second) after h others =
      all_listed p first (listed (p + size first) second after) h.0
      (all_listed (p + size first) second after h.1 others)
  all_listed p (WhenNotZero body) after h others = (h.0, all_listed (p + 5) body after h.1 others)
  all_listed p (WhenZero body) after h others = (h.0, all_listed (p + 5) body after h.1 others)
  all_listed p (Either first otherwise) after h others = (
    h.0,
    all_listed (p + 5) first _ h.1 (
      h.2,
      all_listed (p + (5 + (size first + 5))) otherwise
          after h.3 others,
    ),
  )
  all_listed p (Match label body rest) after h others = (
    h.0,
    all_listed (p + 13) rest _ h.1 (
      h.2,
      all_listed (p + (13 + (size rest + 5))) body after
          h.3 others,
    ),
  )

  pub all_in : (p : ℕ) (b : Block) (after : List Placed) → AllByRecursion P (listed p b after)
      → AllIn P p b × AllByRecursion P after
  all_in p Nothing after h = (tt, h)
  all_in p (Straight i) after h = (h.0, h.1)
  all_in p (Then first second) after h =
      let one = all_in p first (listed (p + size first) second after) h in
      let two = all_in (p + size first) second after one.1 in
      ((one.0, two.0), two.1)
  all_in p (WhenNotZero body) after h =
      let one = all_in (p + 5) body after h.1 in
      ((h.0, one.0), one.1)
  all_in p (WhenZero body) after h =
      let one = all_in (p + 5) body after h.1 in
      ((h.0, one.0), one.1)
  all_in p (Either first otherwise) after h =
      let one = all_in (p + 5) first _ h.1 in
      let two = all_in (p + (5 + (size first + 5))) otherwise after one.1.1 in
      ((h.0, one.0, one.1.0, two.0), two.1)
  all_in p (Match label body rest) after h =
      let one = all_in (p + 13) rest _ h.1 in
      let two = all_in (p + (13 + (size rest + 5))) body after one.1.1 in
      ((h.0, one.0, one.1.0, two.0), two.1)

-- ---- the instructions that are emitted are there

target_is : (place : ℕ) → place < 2 ^ 32 → target place ≡ place
target_is place h = mod-eq_of_lt (omega (arith, h))

moved : (is : List Instruction) (p q : ℕ) → p ≡ q → placed p is ≡ placed q is
moved is p q e = ap (λ (x : ℕ). placed x is) e

-- a jump that joins, and the part after it
jump_placed : (p q next to : ℕ) (is : List Instruction) (others : List Placed) → to < 2 ^ 32 → p ≡ q
    → next ≡ q + 5 → placed next is ≡ others
    → placed p (instruction.Jump (target to) ∷ is) ≡ stand q (instruction.Jump to) next ∷ others
jump_placed p q next to is others small here there rest =
    moved (instruction.Jump (target to) ∷ is) p q here
    ∙ ap (λ (t : ℕ). stand q (instruction.Jump t) (q + 5) ∷ placed (q + 5) is) (target_is to small)
    ∙ ap (λ (n : ℕ). stand q (instruction.Jump to) n ∷ placed n is) (sym there)
    ∙ ap (λ (xs : List Placed). stand q (instruction.Jump to) next ∷ xs) rest

pub placed_are : (p : ℕ) (b : Block) (after : List Instruction) → p + size b < 2 ^ 32
    → placed p (emitted p b ++ after) ≡ listed p b (placed (p + size b) after)
unfolding emitted
placed_are p Nothing after small = moved after p (p + 0) (omega arith)
placed_are p (Straight i) after small = refl
placed_are p (Then first second) after small =
    ap (placed p) (append_assoc (emitted p first) (emitted (p + size first) second) after)
    ∙ placed_are p first (emitted (p + size first) second ++ after) (omega (arith, small))
    ∙ ap (listed p first) (placed_are (p + size first) second after (omega (arith, small))
    ∙ ap (listed (p + size first) second)
    (moved after (p + size first + size second) (p + (size first + size second)) (omega arith)))
placed_are p (WhenNotZero body) after small =
    ap (λ (t : ℕ). stand p (instruction.JumpIfZero t) (p + 5)
    ∷ placed (p + 5) (emitted (p + 5) body ++ after)) (target_is (p + (5 + size body)) small)
    ∙ ap (λ (xs : List Placed). stand p (instruction.JumpIfZero (p + (5 + size body))) (p + 5) ∷ xs)
    (placed_are (p + 5) body after (omega (arith, small))
    ∙ ap (listed (p + 5) body) (moved after (p + 5 + size body) (p + (5 + size body))
    (omega arith)))
placed_are p (WhenZero body) after small =
    ap (λ (t : ℕ). stand p (instruction.JumpIfNotZero t) (p + 5)
    ∷ placed (p + 5) (emitted (p + 5) body ++ after)) (target_is (p + (5 + size body)) small)
    ∙ ap (λ (xs : List Placed). stand p (instruction.JumpIfNotZero (p + (5 + size body))) (p + 5)
    ∷ xs)
    (placed_are (p + 5) body after (omega (arith, small))
    ∙ ap (listed (p + 5) body) (moved after (p + 5 + size body) (p + (5 + size body))
    (omega arith)))
placed_are p (Either first otherwise) after small =
    let r = p + (5 + (size first + 5)) in
    let q = p + (5 + (size first + (5 + size otherwise))) in
    let jump = instruction.Jump (target q) in
    ap (λ (t : ℕ). stand p (instruction.JumpIfZero t) (p + 5)
    ∷ placed (p + 5) ((emitted (p + 5) first ++ (jump ∷ emitted r otherwise)) ++ after))
    (target_is r (omega (arith, small)))
    ∙ ap (λ (xs : List Placed). stand p (instruction.JumpIfZero r) (p + 5) ∷ xs)
    (ap (placed (p + 5)) (append_assoc (emitted (p + 5) first) (jump ∷ emitted r otherwise) after)
    ∙ placed_are (p + 5) first (jump ∷ (emitted r otherwise ++ after)) (omega (arith, small))
    ∙ ap (listed (p + 5) first) (jump_placed (p + 5 + size first) (p + (5 + size first)) r q
    (emitted r otherwise ++ after) _ small (omega arith) (omega arith)
    (placed_are r otherwise after (omega (arith, small))
    ∙ ap (listed r otherwise) (moved after (r + size otherwise) q (omega arith)))))
placed_are p (Match label body rest) after small =
    let r = p + (13 + (size rest + 5)) in
    let q = p + (13 + (size rest + (5 + size body))) in
    let jump = instruction.Jump (target q) in
    ap (λ (t : ℕ). stand p (instruction.Case label t) (p + 13)
    ∷ placed (p + 13) ((emitted (p + 13) rest ++ (jump ∷ emitted r body)) ++ after))
    (target_is r (omega (arith, small)))
    ∙ ap (λ (xs : List Placed). stand p (instruction.Case label r) (p + 13) ∷ xs)
    (ap (placed (p + 13)) (append_assoc (emitted (p + 13) rest) (jump ∷ emitted r body) after)
    ∙ placed_are (p + 13) rest (jump ∷ (emitted r body ++ after)) (omega (arith, small))
    ∙ ap (listed (p + 13) rest) (jump_placed (p + 13 + size rest) (p + (13 + size rest)) r q
    (emitted r body ++ after) _ small (omega arith) (omega arith)
    (placed_are r body after (omega (arith, small))
    ∙ ap (listed r body) (moved after (r + size body) q (omega arith)))))
