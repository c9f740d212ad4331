-- Code of statements, over blocks. It finds no operands and leaves none, wherever it goes on.
use Rattle.std.specs.Prelude.{ℕ, ◌+◌, ℤ, List, [], ◌∷◌, ◌++◌, FitsSigned}
use Rattle.std.specs.Int.{w64}
use Rattle.edd_instructions.specs.declared.instruction.Instruction.{Instruction}
use Rattle.edd_instructions.specs.declared.instruction.Instruction.TheVariants as instruction
use Rattle.edd_code.specs.Blocks as blocks
use Rattle.edd_instructions.specs.Spelling.{spelling}
use Rattle.edd_code.specs.Blocks.{Block, target, bytes_of}
use Rattle.edd_code.specs.Flow.{AreSpelled}

-- a part of a loop, in front of its turns or after them
pub data Part : Type 0 where
  Missing : Part
  -- it leaves no operand
  Step : Block → Part
  -- it leaves one operand, and where that is 0, the loop is left
  Test : Block → Part

-- code of statements; there are no operands before it, nor after it
mutual
  pub data Code : Type 0 where
    -- it leaves no operand
    Plain : Block → Code
    -- one after the other
    Then : (first second : Code) → Code
    -- the first follows where the one operand of the test isn't 0
    Guard : (test : Block) → (first : Code) → Code
    -- the first follows where the one operand of the test isn't 0, else the other
    Branch : (test : Block) → (first otherwise : Code) → Code
    -- each turn is the front, the body and the back; the body continues with the back
    Loop : (front back : Part) → (body : Code) → Code
    -- from the first label that equals the one operand of `on`, else from the default
    Switch : (on : Block) → (arms : Arms) → Code
    -- the end of the loop or of the switch
    Break : Code
    -- the next turn of the loop
    Continue : Code
    -- the end of the method
    Finish : Code

  -- the statements of a switch, with its labels between them
  pub data Arms : Type 0 where
    Nil : Arms
    Statement : (first : Code) → (rest : Arms) → Arms
    Case : (label : ℤ) → (rest : Arms) → Arms
    Default : (rest : Arms) → Arms

-- ---- how many bytes they have

-- a part of a loop
abbrev pub part_size : Part → ℕ
part_size Missing = 0
part_size (Step b) = blocks.size b
part_size (Test b) = blocks.size b + 5

-- the tests of the labels of a switch
abbrev pub tests_size : Arms → ℕ
tests_size Nil = 0
tests_size (Statement first rest) = tests_size rest
tests_size (Case label rest) = 13 + tests_size rest
tests_size (Default rest) = tests_size rest

-- code, and the statements of a switch
abbrev mutual
  pub size : Code → ℕ
  size (Plain b) = blocks.size b
  size (Then first second) = size first + size second
  size (Guard test first) = blocks.size test + (5 + size first)
  size (Branch test first otherwise) = blocks.size test + (5 + (size first + (5 + size otherwise)))
  size (Loop front back body) = 10 + (part_size back + (part_size front + (size body + 5)))
  size (Switch on arms) = blocks.size on + (10 + (arms_size arms + (5 + (tests_size arms + 6))))
  size Break = 5
  size Continue = 5
  size Finish = 1

  -- the statements of a switch, without the tests of its labels
  pub arms_size : Arms → ℕ
  arms_size Nil = 0
  arms_size (Statement first rest) = size first + arms_size rest
  arms_size (Case label rest) = arms_size rest
  arms_size (Default rest) = arms_size rest

-- ---- the instructions at a place

-- a part, in a loop that is left by a jump to `out`
abbrev pub part_emitted : (place out : ℕ) → Part → List Instruction
part_emitted p out Missing = []
part_emitted p out (Step b) = blocks.emitted p b
part_emitted p out (Test b) = blocks.emitted p b ++ (instruction.JumpIfZero (target out) ∷ [])

-- the tests of the labels, where the statements begin at a place
abbrev pub tests_emitted : (place : ℕ) → Arms → List Instruction
tests_emitted p Nil = []
tests_emitted p (Statement first rest) = tests_emitted (p + size first) rest
tests_emitted p (Case label rest) = instruction.Case label (target p) ∷ tests_emitted p rest
tests_emitted p (Default rest) = tests_emitted p rest

-- where the default begins; without one, `out`
abbrev pub default_place : (place out : ℕ) → Arms → ℕ
default_place p out Nil = out
default_place p out (Statement first rest) = default_place (p + size first) out rest
default_place p out (Case label rest) = default_place p out rest
default_place p out (Default rest) = p

-- The instructions at a place, where `break` jumps to `out` and `continue` to `back`. Inside a loop
-- and a switch these are places that are already passed:
-- Loop: jump to entry; out: jump to end; back: the back; entry: the front; the body; jump to back;
-- end:
-- Switch: on; jump to tests; out: jump to end; the statements; jump to out; tests: a case for each
-- label; pop; jump to the default, or to
--   out; end:
unfoldable mutual
  pub emitted : (place out back : ℕ) → Code → List Instruction
  emitted p out back (Plain b) = blocks.emitted p b
  emitted p out back (Then first second) = emitted p out back first ++ emitted (p + size first) out
      back second
  emitted p out back (Guard test first) =
      let a = blocks.size test in
      blocks.emitted p test
      ++ (instruction.JumpIfZero (target (p + (a + (5 + size first))))
      ∷ emitted (p + (a + 5)) out back first)
  emitted p out back (Branch test first otherwise) =
      let a = blocks.size test in
      blocks.emitted p test
      ++ (instruction.JumpIfZero (target (p + (a + (5 + (size first + 5)))))
      ∷ (emitted (p + (a + 5)) out back first
      ++ (instruction.Jump (target (p + (a + (5 + (size first + (5 + size otherwise))))))
      ∷ emitted (p + (a + (5 + (size first + 5)))) out back otherwise)))
  emitted p out back (Loop front back_part body) =
      let b = part_size back_part in
      let f = part_size front in
      instruction.Jump (target (p + (10 + b)))
      ∷ (instruction.Jump (target (p + (10 + (b + (f + (size body + 5))))))
      ∷ (part_emitted (p + 10) (p + 5) back_part
      ++ (part_emitted (p + (10 + b)) (p + 5) front
      ++ (emitted (p + (10 + (b + f))) (p + 5) (p + 10) body
      ++ (instruction.Jump (target (p + 10)) ∷ [])))))
  emitted p out back (Switch on arms) =
      let a = blocks.size on in
      blocks.emitted p on
      ++ (instruction.Jump (target (p + (a + (10 + (arms_size arms + 5)))))
      ∷ (instruction.Jump (target (p + (a + (10 + (arms_size arms + (5 + (tests_size arms + 6)))))))
      ∷ (arms_emitted (p + (a + 10)) (p + (a + 5)) back arms
      ++ (instruction.Jump (target (p + (a + 5)))
      ∷ (tests_emitted (p + (a + 10)) arms
      ++ (instruction.Pop
      ∷ (instruction.Jump (target (default_place (p + (a + 10)) (p + (a + 5)) arms)) ∷ [])))))))
  emitted p out back Break = instruction.Jump (target out) ∷ []
  emitted p out back Continue = instruction.Jump (target back) ∷ []
  emitted p out back Finish = instruction.End ∷ []

  -- the statements of a switch; its labels have no instructions here
  pub arms_emitted : (place out back : ℕ) → Arms → List Instruction
  arms_emitted p out back Nil = []
  arms_emitted p out back (Statement first rest) = emitted p out back first
      ++ arms_emitted (p + size first) out back rest
  arms_emitted p out back (Case label rest) = arms_emitted p out back rest
  arms_emitted p out back (Default rest) = arms_emitted p out back rest

-- the bytes of code at a place
abbrev pub bytes_at : (place out back : ℕ) → Code → List ℕ
bytes_at p out back c = bytes_of (emitted p out back c)

-- the unit of code, which begins at 0: an end is after it, to which every jump out of it leads
abbrev pub unit_code : Code → List ℕ
unit_code c = bytes_at 0 (size c) (size c) c ++ spelling instruction.End

-- ---- each operand of an instruction is in its range

-- in a part of a loop
abbrev pub IsSpelledPart : Part → Type 0
IsSpelledPart Missing = Unit {0}
IsSpelledPart (Step b) = AreSpelled b
IsSpelledPart (Test b) = AreSpelled b

-- in code, and in the statements of a switch
abbrev mutual
  pub IsSpelledCode : Code → Type 0
  IsSpelledCode (Plain b) = AreSpelled b
  IsSpelledCode (Then first second) = IsSpelledCode first × IsSpelledCode second
  IsSpelledCode (Guard test first) = AreSpelled test × IsSpelledCode first
  IsSpelledCode (Branch test first otherwise) = AreSpelled test × IsSpelledCode first
      × IsSpelledCode otherwise
  IsSpelledCode (Loop front back body) = IsSpelledPart front × IsSpelledPart back
      × IsSpelledCode body
  IsSpelledCode (Switch on arms) = AreSpelled on × AreSpelledArms arms
  IsSpelledCode Break = Unit {0}
  IsSpelledCode Continue = Unit {0}
  IsSpelledCode Finish = Unit {0}

  -- in the statements of a switch, and in its labels
  pub AreSpelledArms : Arms → Type 0
  AreSpelledArms Nil = Unit {0}
  AreSpelledArms (Statement first rest) = IsSpelledCode first × AreSpelledArms rest
  AreSpelledArms (Case label rest) = FitsSigned w64 label × AreSpelledArms rest
  AreSpelledArms (Default rest) = AreSpelledArms rest
