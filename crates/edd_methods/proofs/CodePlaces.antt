-- The instructions of code with their places, each target being the place itself.
use Rattle.std.proofs.Common.{ℕ, ◌+◌}
use Rattle.edd_instructions.specs.declared.instruction.Instruction.TheVariants as instruction
use Rattle.edd_instructions.specs.Units.{Placed}
use Rattle.edd_code.specs.Blocks as blocks
use Rattle.edd_code.proofs.BlockPlaces.{stand, AllIn}
use Rattle.edd_methods.specs.Statements.{Part, Missing, Step, Test, Code, Plain, Then, Guard, Branch, Loop, Switch, Break, Continue, Finish, Arms, Nil, Statement, Case, Default, part_size, tests_size, size, arms_size, default_place}

-- this holds of each instruction of a part, in a loop that is left by a jump to `out`
abbrev pub PartIn : (Placed → Type 0) → (place out : ℕ) → Part → Type 0
PartIn P p out Missing = Unit {0}
PartIn P p out (Step b) = AllIn P p b
PartIn P p out (Test b) = AllIn P p b
    × P (stand (p + blocks.size b) (instruction.JumpIfZero out) (p + (blocks.size b + 5)))

-- this holds of each test at a place, where the statements begin at another
abbrev pub TestsIn : (Placed → Type 0) → (place first : ℕ) → Arms → Type 0
TestsIn P p at Nil = Unit {0}
TestsIn P p at (Statement first rest) = TestsIn P p (at + size first) rest
TestsIn P p at (Case label rest) = P (stand p (instruction.Case label at) (p + 13))
    × TestsIn P (p + 13) at rest
TestsIn P p at (Default rest) = TestsIn P p at rest

-- this holds of each instruction of code at a place
abbrev mutual
  pub CodeIn : (Placed → Type 0) → (place out back : ℕ) → Code → Type 0
  CodeIn P p out back (Plain b) = AllIn P p b
  CodeIn P p out back (Then first second) = CodeIn P p out back first
      × CodeIn P (p + size first) out back second
  CodeIn P p out back (Guard test first) =
      let a = blocks.size test in
      AllIn P p test
      × P (stand (p + a) (instruction.JumpIfZero (p + (a + (5 + size first)))) (p + (a + 5)))
      × CodeIn P (p + (a + 5)) out back first
  CodeIn P p out back (Branch test first otherwise) =
      let a = blocks.size test in
      AllIn P p test
      × P (stand (p + a) (instruction.JumpIfZero (p + (a + (5 + (size first + 5))))) (p + (a + 5)))
      × CodeIn P (p + (a + 5)) out back first
      × P (stand (p + (a + (5 + size first)))
      (instruction.Jump (p + (a + (5 + (size first + (5 + size otherwise))))))
      (p + (a + (5 + (size first + 5)))))
      × CodeIn P (p + (a + (5 + (size first + 5)))) out back otherwise
  CodeIn P p out back (Loop front back_part body) =
      let b = part_size back_part in
      let f = part_size front in
      P (stand p (instruction.Jump (p + (10 + b))) (p + 5))
      × P (stand (p + 5) (instruction.Jump (p + (10 + (b + (f + (size body + 5)))))) (p + 10))
      × PartIn P (p + 10) (p + 5) back_part
      × PartIn P (p + (10 + b)) (p + 5) front
      × CodeIn P (p + (10 + (b + f))) (p + 5) (p + 10) body
      × P (stand (p + (10 + (b + (f + size body)))) (instruction.Jump (p + 10))
      (p + (10 + (b + (f + (size body + 5))))))
  CodeIn P p out back (Switch on arms) =
      let a = blocks.size on in
      let b = arms_size arms in
      let t = tests_size arms in
      AllIn P p on
      × P (stand (p + a) (instruction.Jump (p + (a + (10 + (b + 5))))) (p + (a + 5)))
      × P (stand (p + (a + 5)) (instruction.Jump (p + (a + (10 + (b + (5 + (t + 6)))))))
      (p + (a + 10)))
      × ArmsIn P (p + (a + 10)) (p + (a + 5)) back arms
      × P (stand (p + (a + (10 + b))) (instruction.Jump (p + (a + 5))) (p + (a + (10 + (b + 5)))))
      × TestsIn P (p + (a + (10 + (b + 5)))) (p + (a + 10)) arms
      × P (stand (p + (a + (10 + (b + (5 + t))))) instruction.Pop
      (p + (a + (10 + (b + (5 + (t + 1)))))))
      × P (stand (p + (a + (10 + (b + (5 + (t + 1))))))
      (instruction.Jump (default_place (p + (a + 10)) (p + (a + 5)) arms))
      (p + (a + (10 + (b + (5 + (t + 6)))))))
  CodeIn P p out back Break = P (stand p (instruction.Jump out) (p + 5))
  CodeIn P p out back Continue = P (stand p (instruction.Jump back) (p + 5))
  CodeIn P p out back Finish = P (stand p instruction.End (p + 1))

  pub ArmsIn : (Placed → Type 0) → (place out back : ℕ) → Arms → Type 0
  ArmsIn P p out back Nil = Unit {0}
  ArmsIn P p out back (Statement first rest) = CodeIn P p out back first
      × ArmsIn P (p + size first) out back rest
  ArmsIn P p out back (Case label rest) = ArmsIn P p out back rest
  ArmsIn P p out back (Default rest) = ArmsIn P p out back rest
