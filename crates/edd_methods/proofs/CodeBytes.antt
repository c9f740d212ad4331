-- The bytes of code: as many as its size says, and each of its instructions is spelled.
use Rattle.std.proofs.Common.{◌≡◌, refl, ap, ◌∙◌, ℕ, ◌+◌, ◌<◌, ◌^◌, List, [], ◌∷◌, ◌++◌, length, arith, length-append}
use Rattle.edd_instructions.specs.declared.instruction.Instruction.{Instruction}
use Rattle.edd_instructions.specs.declared.instruction.Instruction.TheVariants as instruction
use Rattle.edd_instructions.specs.Spelling.{spelling}
use Rattle.edd_code.specs.Blocks as blocks
use Rattle.edd_code.specs.Blocks.{target, bytes_of}
use Rattle.edd_code.proofs.Lines.{bytes_of-append}
use Rattle.edd_code.proofs.BlockBytes as block_bytes
use Rattle.edd_code.proofs.BlockBytes.{AllSpelled, all_both}
use Rattle.edd_methods.specs.Statements.{Part, Missing, Step, Test, Code, Plain, Then, Guard, Branch, Loop, Switch, Break, Continue, Finish, Arms, Nil, Statement, Case, Default, part_size, tests_size, size, arms_size, part_emitted, tests_emitted, default_place, emitted, arms_emitted, bytes_at, IsSpelledPart, IsSpelledCode, AreSpelledArms}

-- ---- sizes are lengths

-- how many bytes instructions have
abbrev long : List Instruction → ℕ
long is = length (bytes_of is)

long_more : (i : Instruction) (is : List Instruction) → long (i ∷ is) ≡ length (spelling i)
    + long is
unfolding bytes_of
long_more i is = length-append (spelling i) (bytes_of is)

long_none : long [] ≡ 0
unfolding bytes_of
long_none = refl

long_both : (is js : List Instruction) → long (is ++ js) ≡ long is + long js
long_both is js = ap length (bytes_of-append is js) ∙ length-append (bytes_of is) (bytes_of js)

pub part_long : (p out : ℕ) (part : Part) → long (part_emitted p out part) ≡ part_size part
part_long p out Missing = long_none
part_long p out (Step b) = block_bytes.lengths p b
part_long p out (Test b) =
    let leave = instruction.JumpIfZero (target out) in
    omega (
      arith,
      long_both (blocks.emitted p b) (leave ∷ []),
      block_bytes.lengths p b,
      long_more leave [],
      long_none,
    )

pub tests_long : (p : ℕ) (arms : Arms) → long (tests_emitted p arms) ≡ tests_size arms
tests_long p Nil = long_none
tests_long p (Statement first rest) = tests_long (p + size first) rest
tests_long p (Case label rest) =
    omega (
      arith,
      long_more (instruction.Case label (target p)) (tests_emitted p rest),
      tests_long p rest,
    )
tests_long p (Default rest) = tests_long p rest

mutual
  unfolding emitted

  pub code_long : (p out back : ℕ) (c : Code) → length (bytes_at p out back c) ≡ size c
  code_long p out back (Plain b) = block_bytes.lengths p b
  code_long p out back (Then first second) =
      omega (
        arith,
        long_both (emitted p out back first) (emitted (p + size first) out back second),
        code_long p out back first,
        code_long (p + size first) out back second,
      )
  code_long p out back (Guard test first) =
      let a = blocks.size test in
      let leave = instruction.JumpIfZero (target (p + (a + (5 + size first)))) in
      let one = emitted (p + (a + 5)) out back first in
      omega (
        arith,
        long_both (blocks.emitted p test) (leave ∷ one),
        long_more leave one,
        block_bytes.lengths p test,
        code_long (p + (a + 5)) out back first,
      )
  code_long p out back (Branch test first otherwise) =
      let a = blocks.size test in
      let r = p + (a + (5 + (size first + 5))) in
      let leave = instruction.JumpIfZero (target r) in
      let skip = instruction.Jump (target (p + (a + (5 + (size first + (5 + size otherwise)))))) in
      let behind = emitted r out back otherwise in
      let one = emitted (p + (a + 5)) out back first in
      omega (
        arith,
        long_both (blocks.emitted p test) (leave ∷ (one ++ (skip ∷ behind))),
        long_more leave (one ++ (skip ∷ behind)),
        long_both one (skip ∷ behind),
        long_more skip behind,
        block_bytes.lengths p test,
        code_long (p + (a + 5)) out back first,
        code_long r out back otherwise,
      )
  code_long p out back (Loop front back_part body) =
      let b = part_size back_part in
      let f = part_size front in
      let enter = instruction.Jump (target (p + (10 + b))) in
      let leave = instruction.Jump (target (p + (10 + (b + (f + (size body + 5)))))) in
      let again = instruction.Jump (target (p + 10)) in
      let three = emitted (p + (10 + (b + f))) (p + 5) (p + 10) body in
      let two = part_emitted (p + (10 + b)) (p + 5) front in
      let one = part_emitted (p + 10) (p + 5) back_part in
      omega (
        arith,
        long_more enter (leave ∷ (one ++ (two ++ (three ++ (again ∷ []))))),
        long_more leave (one ++ (two ++ (three ++ (again ∷ [])))),
        long_both one (two ++ (three ++ (again ∷ []))),
        long_both two (three ++ (again ∷ [])),
        long_both three (again ∷ []),
        long_more again [],
        long_none,
        part_long (p + 10) (p + 5) back_part,
        part_long (p + (10 + b)) (p + 5) front,
        code_long (p + (10 + (b + f))) (p + 5) (p + 10) body,
      )
  code_long p out back (Switch on arms) =
      let a = blocks.size on in
      let enter = instruction.Jump (target (p + (a + (10 + (arms_size arms + 5))))) in
      let leave = instruction.Jump
      (target (p + (a + (10 + (arms_size arms + (5 + (tests_size arms + 6))))))) in
      let ends = instruction.Jump (target (p + (a + 5))) in
      let last = instruction.Jump (target (default_place (p + (a + 10)) (p + (a + 5)) arms)) in
      let tests = tests_emitted (p + (a + 10)) arms in
      let those = arms_emitted (p + (a + 10)) (p + (a + 5)) back arms in
      omega (
        arith,
        long_both (blocks.emitted p on)
            (enter ∷ (leave ∷ (those ++ (ends ∷ (tests ++ (instruction.Pop ∷ (last ∷ []))))))),
        long_more enter (leave ∷ (those ++ (ends ∷ (tests ++ (instruction.Pop ∷ (last ∷ [])))))),
        long_more leave (those ++ (ends ∷ (tests ++ (instruction.Pop ∷ (last ∷ []))))),
        long_both those (ends ∷ (tests ++ (instruction.Pop ∷ (last ∷ [])))),
        long_more ends (tests ++ (instruction.Pop ∷ (last ∷ []))),
        long_both tests (instruction.Pop ∷ (last ∷ [])),
        long_more instruction.Pop (last ∷ []),
        long_more last [],
        long_none,
        block_bytes.lengths p on,
        arms_long (p + (a + 10)) (p + (a + 5)) back arms,
        tests_long (p + (a + 10)) arms,
      )
  code_long p out back Break = omega (
    arith,
    long_more (instruction.Jump (target out)) [],
    long_none,
  )
  code_long p out back Continue = omega (
    arith,
    long_more (instruction.Jump (target back)) [],
    long_none,
  )
  code_long p out back Finish = omega (arith, long_more instruction.End [], long_none)

  pub arms_long : (p out back : ℕ) (arms : Arms) → length (bytes_of (arms_emitted p out back arms))
      ≡ arms_size arms
  arms_long p out back Nil = long_none
  arms_long p out back (Statement first rest) =
      omega (
        arith,
        long_both (emitted p out back first)
            (arms_emitted (p + size first) out back rest),
        code_long p out back first,
        arms_long (p + size first) out back rest,
      )
  arms_long p out back (Case label rest) = arms_long p out back rest
  arms_long p out back (Default rest) = arms_long p out back rest

-- ---- each instruction is spelled

small : (place : ℕ) → target place < 2 ^ 32
small place = omega arith

part_spelled : (p out : ℕ) (part : Part) → IsSpelledPart part → AllSpelled (part_emitted p out part)
part_spelled p out Missing ok = tt
part_spelled p out (Step b) ok = block_bytes.all_spelled p b ok
part_spelled p out (Test b) ok = all_both (blocks.emitted p b) (instruction.JumpIfZero (target out)
    ∷ []) (block_bytes.all_spelled p b ok) (small out, tt)

tests_spelled : (p : ℕ) (arms : Arms) → AreSpelledArms arms → AllSpelled (tests_emitted p arms)
tests_spelled p Nil ok = tt
tests_spelled p (Statement first rest) ok = tests_spelled (p + size first) rest ok.1
tests_spelled p (Case label rest) ok = ((ok.0, small p), tests_spelled p rest ok.1)
tests_spelled p (Default rest) ok = tests_spelled p rest ok

mutual
  unfolding emitted

  pub code_spelled : (p out back : ℕ) (c : Code) → IsSpelledCode c
      → AllSpelled (emitted p out back c)
  code_spelled p out back (Plain b) ok = block_bytes.all_spelled p b ok
  code_spelled p out back (Then first second) ok =
      all_both (emitted p out back first) (emitted (p + size first) out back second)
      (code_spelled p out back first ok.0) (code_spelled (p + size first) out back second ok.1)
  code_spelled p out back (Guard test first) ok =
      let a = blocks.size test in
      all_both (blocks.emitted p test) _ (block_bytes.all_spelled p test ok.0)
      (small (p + (a + (5 + size first))), code_spelled (p + (a + 5)) out back first ok.1)
  code_spelled p out back (Branch test first otherwise) ok =
      let a = blocks.size test in
      all_both (blocks.emitted p test) _ (block_bytes.all_spelled p test ok.0) (
        small (p + (a + (5 + (size first + 5)))),
        all_both (emitted (p + (a + 5)) out back first) _
            (code_spelled (p + (a + 5)) out back first ok.1) (
              small (p + (a + (5 + (size first + (5 + size otherwise))))),
              code_spelled (p + (a + (5 + (size first + 5)))) out back otherwise ok.2,
            ),
      )
  code_spelled p out back (Loop front back_part body) ok =
      let b = part_size back_part in
      let f = part_size front in (
        small (p + (10 + b)),
        (
          small (p + (10 + (b + (f + (size body + 5))))),
          all_both (part_emitted (p + 10) (p + 5) back_part) _
              (part_spelled (p + 10) (p + 5) back_part ok.1)
              (all_both (part_emitted (p + (10 + b)) (p + 5) front) _
              (part_spelled (p + (10 + b)) (p + 5) front ok.0)
              (all_both (emitted (p + (10 + (b + f))) (p + 5) (p + 10) body) _
              (code_spelled (p + (10 + (b + f))) (p + 5) (p + 10) body ok.2)
              (small (p + 10), tt))),
        ),
      )
  code_spelled p out back (Switch on arms) ok =
      let a = blocks.size on in
      all_both (blocks.emitted p on) _ (block_bytes.all_spelled p on ok.0) (
        small (p + (a + (10 + (arms_size arms + 5)))),
        (
          small (p + (a + (10 + (arms_size arms + (5 + (tests_size arms + 6)))))),
          all_both (arms_emitted (p + (a + 10)) (p + (a + 5)) back arms) _
              (arms_spelled (p + (a + 10)) (p + (a + 5)) back arms ok.1) (
                small (p + (a + 5)),
                all_both (tests_emitted (p + (a + 10)) arms) _
                    (tests_spelled (p + (a + 10)) arms ok.1)
                    (tt, (small (default_place (p + (a + 10)) (p + (a + 5)) arms), tt)),
              ),
        ),
      )
  code_spelled p out back Break ok = (small out, tt)
  code_spelled p out back Continue ok = (small back, tt)
  code_spelled p out back Finish ok = (tt, tt)

  arms_spelled : (p out back : ℕ) (arms : Arms) → AreSpelledArms arms
      → AllSpelled (arms_emitted p out back arms)
  arms_spelled p out back Nil ok = tt
  arms_spelled p out back (Statement first rest) ok =
      all_both (emitted p out back first) (arms_emitted (p + size first) out back rest)
      (code_spelled p out back first ok.0) (arms_spelled (p + size first) out back rest ok.1)
  arms_spelled p out back (Case label rest) ok = arms_spelled p out back rest ok.1
  arms_spelled p out back (Default rest) ok = arms_spelled p out back rest ok
