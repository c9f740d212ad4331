-- Each instruction of statements' code passes a test that those of its blocks pass.
use Rattle.std.proofs.Common.{◌≡◌, refl, ℕ, ◌+◌, true, List, [], ◌∷◌, ◌++◌}
use Rattle.std.specs.Prelude.{Bool}
use Rattle.std.specs.List.{AllByRecursion, list_all}
use Rattle.std.proofs.lemmas.Bool.{and_parts, and_from}
use Rattle.edd_instructions.specs.declared.instruction.Instruction.{Instruction}
use Rattle.edd_instructions.specs.declared.instruction.Instruction.TheVariants as instruction
use Rattle.edd_code.specs.Blocks as blocks
use Rattle.edd_code.specs.Blocks.{Block, target}
use Rattle.edd_code.specs.Flow.{all_straight}
use Rattle.edd_code.proofs.BlockUnits.{HoldsOfJumps}
use Rattle.edd_methods.specs.Statements.{Part, Missing, Step, Test, Code, Plain, Then, Guard, Branch, Loop, Switch, Break, Continue, Finish, Arms, Nil, Statement, Case, Default, part_size, size, part_emitted, tests_emitted, emitted, arms_emitted}
use Rattle.edd_methods.specs.CodeFlow.{FitsPart, Fits, FitArms}

-- ---- what is emitted

module _ (f : Instruction → Bool) (jumps : HoldsOfJumps f) (pop : f instruction.Pop ≡ true)
    (ending : f instruction.End ≡ true) where
  -- each of them passes
  abbrev pub Pass : List Instruction → Type 0
  Pass is = AllByRecursion (λ i. f i ≡ true) is

  pub both : (is js : List Instruction) → Pass is → Pass js → Pass (is ++ js)
  both [] js h k = k
  both (i ∷ is) js h k = (h.0, both is js h.1 k)

  pub list_passes : (is : List Instruction) → Pass is → list_all f is ≡ true
  list_passes [] h = refl
  list_passes (i ∷ is) h = and_from (f i) (list_all f is) h.0 (list_passes is h.1)

  abbrev IsPassed : Block → Type 0
  IsPassed b = all_straight f b ≡ true

  block_passes : (p : ℕ) (b : Block) → IsPassed b → Pass (blocks.emitted p b)
  unfolding blocks.emitted
  block_passes p blocks.Nothing h = tt
  block_passes p (blocks.Straight i) h = (h, tt)
  block_passes p (blocks.Then first second) h =
      let parts = and_parts (all_straight f first) (all_straight f second) h in
      both (blocks.emitted p first) _ (block_passes p first parts.0)
      (block_passes (p + blocks.size first) second parts.1)
  block_passes p (blocks.WhenNotZero body) h = (jumps.zero _, block_passes (p + 5) body h)
  block_passes p (blocks.WhenZero body) h = (jumps.not_zero _, block_passes (p + 5) body h)
  block_passes p (blocks.Either first otherwise) h =
      let parts = and_parts (all_straight f first) (all_straight f otherwise) h in (
        jumps.zero _,
        both (blocks.emitted (p + 5) first) _ (block_passes (p + 5) first parts.0)
            (jumps.jump _, block_passes _ otherwise parts.1),
      )
  block_passes p (blocks.Match label body rest) h =
      let parts = and_parts (all_straight f body) (all_straight f rest) h in (
        jumps.label label _,
        both (blocks.emitted (p + 13) rest) _
            (block_passes (p + 13) rest parts.1) (jumps.jump _, block_passes _ body parts.0),
      )

  part_passes : (p out : ℕ) (part : Part) → FitsPart IsPassed IsPassed part
      → Pass (part_emitted p out part)
  part_passes p out Missing h = tt
  part_passes p out (Step b) h = block_passes p b h
  part_passes p out (Test b) h = both (blocks.emitted p b) _ (block_passes p b h)
      (jumps.zero (target out), tt)

  tests_pass : (p : ℕ) (arms : Arms) → Pass (tests_emitted p arms)
  tests_pass p Nil = tt
  tests_pass p (Statement first rest) = tests_pass (p + size first) rest
  tests_pass p (Case label rest) = (jumps.label label (target p), tests_pass p rest)
  tests_pass p (Default rest) = tests_pass p rest

  mutual
    unfolding emitted

    pub code_passes : (p out back : ℕ) (c : Code) → Fits IsPassed IsPassed c
        → Pass (emitted p out back c)
    code_passes p out back (Plain b) h = block_passes p b h
    code_passes p out back (Then first second) h = both (emitted p out back first) _
        (code_passes p out back first h.0) (code_passes (p + size first) out back second h.1)
    code_passes p out back (Guard test first) h = both (blocks.emitted p test) _
        (block_passes p test h.0)
        (jumps.zero _, code_passes (p + (blocks.size test + 5)) out back first h.1)
    code_passes p out back (Branch test first otherwise) h =
        let n = p + (blocks.size test + 5) in
        both (blocks.emitted p test) _ (block_passes p test h.0) (
          jumps.zero _,
          both (emitted n out back first) _ (code_passes n out back first h.1)
              (jumps.jump _, code_passes _ out back otherwise h.2),
        )
    code_passes p out back (Loop front back_part body) h =
        let n = p + (10 + part_size back_part) in
        let k = p + (10 + (part_size back_part + part_size front)) in (
          jumps.jump _,
          (
            jumps.jump _,
            both (part_emitted (p + 10) (p + 5) back_part) _
                (part_passes (p + 10) (p + 5) back_part h.1)
                (both (part_emitted n (p + 5) front) _ (part_passes n (p + 5) front h.0)
                (both (emitted k (p + 5) (p + 10) body) _ (code_passes k (p + 5) (p + 10) body h.2)
                (jumps.jump _, tt))),
          ),
        )
    code_passes p out back (Switch on arms) h =
        let n = p + (blocks.size on + 5) in
        let k = p + (blocks.size on + 10) in
        both (blocks.emitted p on) _ (block_passes p on h.0) (
          jumps.jump _,
          (
            jumps.jump _,
            both (arms_emitted k n back arms) _ (arms_pass k n back arms h.1) (
              jumps.jump _,
              both (tests_emitted k arms) _ (tests_pass k arms)
                  (pop, (jumps.jump _, tt)),
            ),
          ),
        )
    code_passes p out back Break h = (jumps.jump (target out), tt)
    code_passes p out back Continue h = (jumps.jump (target back), tt)
    code_passes p out back Finish h = (ending, tt)

    arms_pass : (p out back : ℕ) (arms : Arms) → FitArms IsPassed IsPassed arms
        → Pass (arms_emitted p out back arms)
    arms_pass p out back Nil h = tt
    arms_pass p out back (Statement first rest) h = both (emitted p out back first) _
        (code_passes p out back first h.0) (arms_pass (p + size first) out back rest h.1)
    arms_pass p out back (Case label rest) h = arms_pass p out back rest h
    arms_pass p out back (Default rest) h = arms_pass p out back rest h
