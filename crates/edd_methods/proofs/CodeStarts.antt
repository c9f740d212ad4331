-- Statements' code begins with the start of an instruction, where one starts after it.
use Rattle.std.proofs.Common.{◌≡◌, ap, ◌∙◌, ℕ, ◌+◌, true, List, arith}
use Rattle.std.specs.List.{AllByRecursion}
use Rattle.edd_instructions.specs.declared.instruction.Instruction.TheVariants as instruction
use Rattle.edd_instructions.specs.Units.{Placed, is_start}
use Rattle.edd_code.specs.Blocks as blocks
use Rattle.edd_code.proofs.BlockPlaces.{stand}
use Rattle.edd_code.proofs.BlockJumps.{starts, starts_at}
use Rattle.edd_methods.specs.Statements.{Part, Missing, Step, Test, Code, Plain, Then, Guard, Branch, Loop, Switch, Break, Continue, Finish, Arms, Nil, Statement, Case, Default, part_size, tests_size, size, arms_size}
use Rattle.edd_methods.proofs.CodePlaces.{PartIn, TestsIn, CodeIn, ArmsIn}

module _ (xs : List Placed) where
  -- the instructions of a part of a loop, of the tests of a switch, of its statements and of code
  -- are among xs
  abbrev pub InsidePart : (p out : ℕ) → Part → Type 1
  InsidePart p out part = (P : Placed → Type 0) → AllByRecursion P xs → PartIn P p out part

  abbrev pub InsideTests : (p first : ℕ) → Arms → Type 1
  InsideTests p first arms = (P : Placed → Type 0) → AllByRecursion P xs → TestsIn P p first arms

  abbrev pub InsideCode : (p out back : ℕ) → Code → Type 1
  InsideCode p out back c = (P : Placed → Type 0) → AllByRecursion P xs → CodeIn P p out back c

  abbrev pub InsideArms : (p out back : ℕ) → Arms → Type 1
  InsideArms p out back arms = (P : Placed → Type 0) → AllByRecursion P xs
      → ArmsIn P p out back arms

  abbrev pub Starts : ℕ → Type 0
  Starts p = is_start xs p ≡ true

  -- the same place
  pub start_moved : (p : ℕ) {q : ℕ} → p ≡ q → Starts q → Starts p
  start_moved p e h = ap (is_start xs) e ∙ h

  pub part_starts : (p out : ℕ) (part : Part) → InsidePart p out part → Starts (p + part_size part)
      → Starts p
  part_starts p out Missing inside exit = start_moved p (omega arith) exit
  part_starts p out (Step b) inside exit = starts_at xs p b inside exit
  part_starts p out (Test b) inside exit =
      let leave = stand (p + blocks.size b) (instruction.JumpIfZero out) (p + (blocks.size b + 5))
      in
      starts_at xs p b (λ P h. (inside P h).0) (starts xs leave (λ P h. (inside P h).1))

  pub tests_starts : (p at : ℕ) (arms : Arms) → InsideTests p at arms → Starts (p + tests_size arms)
      → Starts p
  tests_starts p at Nil inside exit = start_moved p (omega arith) exit
  tests_starts p at (Statement first rest) inside exit = tests_starts p (at + size first) rest
      inside exit
  tests_starts p at (Case label rest) inside exit =
      starts xs (stand p (instruction.Case label at) (p + 13)) (λ P h. (inside P h).0)
  tests_starts p at (Default rest) inside exit = tests_starts p at rest inside exit

  pub code_starts : (p out back : ℕ) (c : Code) → InsideCode p out back c → Starts (p + size c)
      → Starts p
  code_starts p out back (Plain b) inside exit = starts_at xs p b inside exit
  code_starts p out back (Then first second) inside exit =
      let m = p + size first in
      code_starts p out back first (λ P h. (inside P h).0) (code_starts m out back second
      (λ P h. (inside P h).1) (start_moved (m + size second) (omega arith) exit))
  code_starts p out back (Guard test first) inside exit =
      let a = blocks.size test in
      let leave = stand (p + a) (instruction.JumpIfZero (p + (a + (5 + size first)))) (p + (a + 5))
      in
      starts_at xs p test (λ P h. (inside P h).0) (starts xs leave (λ P h. (inside P h).1))
  code_starts p out back (Branch test first otherwise) inside exit =
      let a = blocks.size test in
      let leave = stand (p + a) (instruction.JumpIfZero (p + (a + (5 + (size first + 5)))))
      (p + (a + 5)) in
      starts_at xs p test (λ P h. (inside P h).0) (starts xs leave (λ P h. (inside P h).1))
  code_starts p out back (Loop front back_part body) inside exit =
      starts xs (stand p (instruction.Jump (p + (10 + part_size back_part))) (p + 5))
      (λ P h. (inside P h).0)
  code_starts p out back (Switch on arms) inside exit =
      let a = blocks.size on in
      let enter = stand (p + a) (instruction.Jump (p + (a + (10 + (arms_size arms + 5)))))
      (p + (a + 5)) in
      starts_at xs p on (λ P h. (inside P h).0) (starts xs enter (λ P h. (inside P h).1))
  code_starts p out back Break inside exit = starts xs (stand p (instruction.Jump out) (p + 5))
      inside
  code_starts p out back Continue inside exit = starts xs (stand p (instruction.Jump back) (p + 5))
      inside
  code_starts p out back Finish inside exit = starts xs (stand p instruction.End (p + 1)) inside

  pub arms_starts : (p out back : ℕ) (arms : Arms) → InsideArms p out back arms
      → Starts (p + arms_size arms) → Starts p
  arms_starts p out back Nil inside exit = start_moved p (omega arith) exit
  arms_starts p out back (Statement first rest) inside exit =
      let m = p + size first in
      code_starts p out back first (λ P h. (inside P h).0) (arms_starts m out back rest
      (λ P h. (inside P h).1) (start_moved (m + arms_size rest) (omega arith) exit))
  arms_starts p out back (Case label rest) inside exit = arms_starts p out back rest inside exit
  arms_starts p out back (Default rest) inside exit = arms_starts p out back rest inside exit
