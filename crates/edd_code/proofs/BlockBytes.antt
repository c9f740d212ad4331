-- The bytes of a block: as many as its size says, and each of its instructions is spelled.
use Rattle.std.proofs.Common.{◌≡◌, refl, ap, ◌∙◌, ℕ, ◌+◌, ◌<◌, ◌^◌, List, [], ◌∷◌, ◌++◌, length, arith, length-append}
use Rattle.std.specs.List.{AllByRecursion}
use Rattle.edd_instructions.specs.declared.instruction.Instruction.{Instruction}
use Rattle.edd_instructions.specs.declared.instruction.Instruction.TheVariants as instruction
use Rattle.edd_instructions.specs.Spelling.{spelling, IsSpelled}
use Rattle.edd_code.specs.Blocks.{Block, Nothing, Straight, Then, WhenNotZero, WhenZero, Either, Match, size, target, emitted, bytes_of, bytes_at}
use Rattle.edd_code.specs.Flow.{AreSpelled}
use Rattle.edd_code.proofs.Lines.{bytes_of-append}

-- ---- sizes are lengths

one_more : (i : Instruction) (is : List Instruction) → length (bytes_of (i ∷ is))
    ≡ length (spelling i) + length (bytes_of is)
unfolding bytes_of
one_more i is = length-append (spelling i) (bytes_of is)

none : length (bytes_of []) ≡ 0
unfolding bytes_of
none = refl

both : (is js : List Instruction) → length (bytes_of (is ++ js)) ≡ length (bytes_of is)
    + length (bytes_of js)
both is js = ap length (bytes_of-append is js) ∙ length-append (bytes_of is) (bytes_of js)

pub lengths : (p : ℕ) (b : Block) → length (bytes_at p b) ≡ size b
unfolding emitted
lengths p Nothing = none
lengths p (Straight i) = omega (arith, one_more i [], none)
lengths p (Then first second) =
    omega (
      arith,
      both (emitted p first) (emitted (p + size first) second),
      lengths p first,
      lengths (p + size first) second,
    )
lengths p (WhenNotZero body) =
    omega (
      arith,
      one_more (instruction.JumpIfZero (target (p + (5 + size body))))
          (emitted (p + 5) body),
      lengths (p + 5) body,
    )
lengths p (WhenZero body) =
    omega (
      arith,
      one_more (instruction.JumpIfNotZero (target (p + (5 + size body))))
          (emitted (p + 5) body),
      lengths (p + 5) body,
    )
lengths p (Either first otherwise) =
    let behind = emitted (p + (5 + (size first + 5))) otherwise in
    let jump = instruction.Jump (target (p + (5 + (size first + (5 + size otherwise))))) in
    omega (
      arith,
      one_more (instruction.JumpIfZero (target (p + (5 + (size first + 5))))) (emitted (p + 5) first
          ++ (jump ∷ behind)),
      both (emitted (p + 5) first) (jump ∷ behind),
      one_more jump behind,
      lengths (p + 5) first,
      lengths (p + (5 + (size first + 5))) otherwise,
    )
lengths p (Match label body rest) =
    let behind = emitted (p + (13 + (size rest + 5))) body in
    let jump = instruction.Jump (target (p + (13 + (size rest + (5 + size body))))) in
    omega (
      arith,
      one_more (instruction.Case label (target (p + (13 + (size rest + 5))))) (emitted (p + 13) rest
          ++ (jump ∷ behind)),
      both (emitted (p + 13) rest) (jump ∷ behind),
      one_more jump behind,
      lengths (p + 13) rest,
      lengths (p + (13 + (size rest + 5))) body,
    )

-- ---- each instruction is spelled

abbrev pub AllSpelled : List Instruction → Type 0
AllSpelled is = AllByRecursion IsSpelled is

target_small : (place : ℕ) → target place < 2 ^ 32
target_small place = omega arith

pub all_both : (is js : List Instruction) → AllSpelled is → AllSpelled js → AllSpelled (is ++ js)
all_both [] js h k = k
all_both (i ∷ is) js h k = (h.0, all_both is js h.1 k)

pub all_spelled : (p : ℕ) (b : Block) → AreSpelled b → AllSpelled (emitted p b)
unfolding emitted
all_spelled p Nothing ok = tt
all_spelled p (Straight i) ok = (ok, tt)
all_spelled p (Then first second) ok =
    all_both (emitted p first) (emitted (p + size first) second) (all_spelled p first ok.0)
    (all_spelled (p + size first) second ok.1)
all_spelled p (WhenNotZero body) ok =
    (target_small (p + (5 + size body)), all_spelled (p + 5) body ok)
all_spelled p (WhenZero body) ok = (target_small (p + (5 + size body)), all_spelled (p + 5) body ok)
all_spelled p (Either first otherwise) ok = (
  target_small (p + (5 + (size first + 5))),
  all_both (emitted (p + 5) first)
      (instruction.Jump (target (p + (5 + (size first + (5 + size otherwise)))))
      ∷ emitted (p + (5 + (size first + 5))) otherwise)
      (all_spelled (p + 5) first ok.0) (
        target_small (p + (5 + (size first + (5 + size otherwise)))),
        all_spelled (p + (5 + (size first + 5))) otherwise ok.1,
      ),
)
all_spelled p (Match label body rest) ok = (
  (ok.0, target_small (p + (13 + (size rest + 5)))),
  all_both (emitted (p + 13) rest)
      (instruction.Jump (target (p + (13 + (size rest + (5 + size body)))))
      ∷ emitted (p + (13 + (size rest + 5))) body)
      (all_spelled (p + 13) rest ok.2) (
        target_small (p + (13 + (size rest + (5 + size body)))),
        all_spelled (p + (13 + (size rest + 5))) body ok.1,
      ),
)
