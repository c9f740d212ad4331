-- Code that is spelled at a place is read there, each target being the place itself.
use Rattle.std.proofs.Common.{◌≡◌, refl, subst, ℕ, ◌+◌, ◌<◌, ◌^◌, List, [], ◌∷◌, ◌++◌, arith, append_assoc}
use Rattle.std.specs.List.{AllByRecursion}
use Rattle.std.proofs.Math.Nat.{mod-eq_of_lt}
use Rattle.edd_instructions.specs.declared.instruction.Instruction.{Instruction}
use Rattle.edd_instructions.specs.declared.instruction.Instruction.TheVariants as instruction
use Rattle.edd_instructions.specs.Units.{Placed}
use Rattle.edd_code.specs.Blocks as blocks
use Rattle.edd_code.specs.Blocks.{Block, target}
use Rattle.edd_code.proofs.Lines.{placed}
use Rattle.edd_code.proofs.BlockPlaces.{stand, AllIn}
use Rattle.edd_methods.specs.Statements.{Part, Missing, Step, Test, Code, Plain, Then, Guard, Branch, Loop, Switch, Break, Continue, Finish, Arms, Nil, Statement, Case, Default, part_size, tests_size, size, arms_size, part_emitted, tests_emitted, default_place, emitted, arms_emitted}
use Rattle.edd_code.proofs.BlockReading.{block_in}
use Rattle.edd_methods.proofs.CodePlaces.{PartIn, TestsIn, CodeIn, ArmsIn}

-- ---- instructions in code

pub default_small : (p out : ℕ) (arms : Arms) → p + arms_size arms < 2 ^ 32 → out < 2 ^ 32
    → default_place p out arms < 2 ^ 32
default_small p out Nil h k = k
default_small p out (Statement first rest) h k = default_small (p + size first) out rest
    (omega (arith, h)) k
default_small p out (Case label rest) h k = default_small p out rest h k
default_small p out (Default rest) h k = omega (arith, h)

module _ (P : Placed → Type 0) where
  -- this holds of each instruction from a place on
  abbrev Holds : ℕ → List Instruction → Type 0
  Holds p is = AllByRecursion P (placed p is)

  moved : {p : ℕ} (q : ℕ) (is : List Instruction) → p ≡ q → Holds p is → Holds q is
  moved q is e h = subst (λ (x : ℕ). Holds x is) e h

  apart : (p : ℕ) (is js ks : List Instruction) → Holds p ((is ++ js) ++ ks)
      → Holds p (is ++ (js ++ ks))
  apart p is js ks h = subst (Holds p) (append_assoc is js ks) h

  stands_at : (i : Instruction) (p q m next : ℕ) → p ≡ q → m ≡ next → P (stand p i m)
      → P (stand q i next)
  stands_at i p q m next here there h = subst (λ (x : ℕ). P (stand q i x)) there
      (subst (λ (x : ℕ). P (stand x i m)) here h)

  -- an instruction with a target, where it is
  jump_in : (i : ℕ → Instruction) (p q m next to : ℕ) → to < 2 ^ 32 → p ≡ q → m ≡ next
      → P (stand p (i (target to)) m) → P (stand q (i to) next)
  jump_in i p q m next to small here there h =
      subst (λ (x : ℕ). P (stand q (i to) x)) there
      (subst (λ (x : ℕ). P (stand x (i to) m)) here
      (subst (λ (x : ℕ). P (stand p (i x) m)) (mod-eq_of_lt (omega (arith, small))) h))

  block_stands : (p : ℕ) (b : Block) (after : List Instruction) → p + blocks.size b < 2 ^ 32
      → Holds p (blocks.emitted p b ++ after) → AllIn P p b × Holds (p + blocks.size b) after
  block_stands p b after small h = block_in P p b after small h

  part_in : (p out : ℕ) (part : Part) (after : List Instruction) → p + part_size part < 2 ^ 32
      → out < 2 ^ 32 → Holds p (part_emitted p out part ++ after)
      → PartIn P p out part × Holds (p + part_size part) after
  part_in p out Missing after small far h = (tt, moved (p + 0) after (omega arith) h)
  part_in p out (Step b) after small far h = block_stands p b after small h
  part_in p out (Test b) after small far h =
      let leave = instruction.JumpIfZero (target out) in
      let one = block_stands p b (leave ∷ after) (omega (arith, small))
      (apart p (blocks.emitted p b) (leave ∷ []) after h) in
      let q = p + blocks.size b in (
        (
          one.0,
          jump_in (λ t. instruction.JumpIfZero t) q q (q + 5) (p + (blocks.size b + 5)) out far
              refl (omega arith) one.1.0,
        ),
        moved (p + (blocks.size b + 5)) after (omega arith) one.1.1,
      )

  tests_in : (p at : ℕ) (arms : Arms) (after : List Instruction) → at + arms_size arms < 2 ^ 32
      → Holds p (tests_emitted at arms ++ after)
      → TestsIn P p at arms × Holds (p + tests_size arms) after
  tests_in p at Nil after small h = (tt, moved (p + 0) after (omega arith) h)
  tests_in p at (Statement first rest) after small h = tests_in p (at + size first) rest after
      (omega (arith, small)) h
  tests_in p at (Case label rest) after small h =
      let more = tests_in (p + 13) at rest after small h.1 in (
        (
          jump_in (λ t. instruction.Case label t) p p (p + 13) (p + 13) at (omega (arith, small))
              refl
              refl h.0,
          more.0,
        ),
        moved (p + (13 + tests_size rest)) after (omega arith) more.1,
      )
  tests_in p at (Default rest) after small h = tests_in p at rest after small h

  mutual
    unfolding emitted

    pub code_in : (p out back : ℕ) (c : Code) (after : List Instruction) → p + size c < 2 ^ 32
        → out < 2 ^ 32 → back < 2 ^ 32 → Holds p (emitted p out back c ++ after)
        → CodeIn P p out back c × Holds (p + size c) after
    code_in p out back (Plain b) after small far near h = block_stands p b after small h
    code_in p out back (Then first second) after small far near h =
        let one = code_in p out back first (emitted (p + size first) out back second ++ after)
        (omega (arith, small)) far near
        (apart p (emitted p out back first) (emitted (p + size first) out back second) after h) in
        let two = code_in (p + size first) out back second after (omega (arith, small)) far near
        one.1 in (
          (one.0, two.0),
          moved (p + (size first + size second)) after (omega arith) two.1,
        )
    code_in p out back (Guard test first) after small far near h =
        let a = blocks.size test in
        let q = p + (a + (5 + size first)) in
        let one = emitted (p + (a + 5)) out back first in
        let tested = block_stands p test ((instruction.JumpIfZero (target q) ∷ one) ++ after)
        (omega (arith, small))
        (apart p (blocks.emitted p test) (instruction.JumpIfZero (target q) ∷ one) after h) in
        let left = code_in (p + (a + 5)) out back first after (omega (arith, small)) far near
        (moved (p + (a + 5)) (one ++ after) (omega arith) tested.1.1) in (
          (
            tested.0,
            jump_in (λ t. instruction.JumpIfZero t) (p + a) (p + a) (p + a + 5) (p + (a + 5)) q
                (omega (arith, small)) refl (omega arith) tested.1.0,
            left.0,
          ),
          moved q after (omega arith) left.1,
        )
    code_in p out back (Branch test first otherwise) after small far near h =
        let a = blocks.size test in
        let m = p + (a + (5 + size first)) in
        let r = p + (a + (5 + (size first + 5))) in
        let q = p + (a + (5 + (size first + (5 + size otherwise)))) in
        let skip = instruction.Jump (target q) in
        let one = emitted (p + (a + 5)) out back first in
        let two = emitted r out back otherwise in
        let tested = block_stands p test
        ((instruction.JumpIfZero (target r) ∷ (one ++ (skip ∷ two))) ++ after)
        (omega (arith, small)) (apart p (blocks.emitted p test)
        (instruction.JumpIfZero (target r) ∷ (one ++ (skip ∷ two))) after h) in
        let left = code_in (p + (a + 5)) out back first (skip
        ∷ (two ++ after)) (omega (arith, small)) far near (apart (p + (a + 5)) one (skip ∷ two)
        after (moved (p + (a + 5)) ((one ++ (skip ∷ two)) ++ after) (omega arith) tested.1.1)) in
        let n = p + (a + 5) + size first in
        let right = code_in r out back otherwise after (omega (arith, small)) far near
        (moved r (two ++ after) (omega arith) left.1.1) in (
          (
            tested.0,
            jump_in (λ t. instruction.JumpIfZero t) (p + a) (p + a) (p + a + 5) (p + (a + 5)) r
                (omega (arith, small)) refl (omega arith) tested.1.0,
            left.0,
            jump_in (λ t. instruction.Jump t) n m (n + 5) r q (omega (arith, small)) (omega arith)
                (omega arith) left.1.0,
            right.0,
          ),
          moved q after (omega arith) right.1,
        )
    code_in p out back (Loop front back_part body) after small far near h =
        let b = part_size back_part in
        let f = part_size front in
        let q = p + (10 + (b + (f + (size body + 5)))) in
        let last = p + (10 + (b + (f + size body))) in
        let again = instruction.Jump (target (p + 10)) in
        let three = emitted (p + (10 + (b + f))) (p + 5) (p + 10) body in
        let two = part_emitted (p + (10 + b)) (p + 5) front in
        let one = part_emitted (p + 10) (p + 5) back_part in
        let first = part_in (p + 10) (p + 5) back_part ((two ++ (three ++ (again ∷ [])))
        ++ after) (omega (arith, small)) (omega (arith, small))
        (apart (p + 10) one (two ++ (three ++ (again ∷ []))) after (moved (p + 10)
        ((one ++ (two ++ (three ++ (again ∷ [])))) ++ after) (omega arith) h.1.1)) in
        let second = part_in (p + (10 + b)) (p + 5) front ((three ++ (again ∷ []))
        ++ after) (omega (arith, small)) (omega (arith, small))
        (apart (p + (10 + b)) two (three ++ (again ∷ [])) after
        (moved (p + (10 + b)) ((two ++ (three ++ (again ∷ []))) ++ after) (omega arith) first.1)) in
        let third = code_in (p + (10 + (b + f))) (p + 5) (p + 10) body (again
        ∷ after) (omega (arith, small)) (omega (arith, small)) (omega (arith, small))
        (apart (p + (10 + (b + f))) three (again ∷ []) after
        (moved (p + (10 + (b + f))) ((three ++ (again ∷ [])) ++ after) (omega arith) second.1)) in
        let n = p + (10 + (b + f)) + size body in (
          (
            jump_in (λ t. instruction.Jump t) p p (p + 5) (p + 5) (p + (10 + b))
                (omega (arith, small)) refl refl h.0,
            jump_in (λ t. instruction.Jump t) (p + 5) (p + 5) (p + 5 + 5) (p + 10) q
                (omega (arith, small)) refl (omega arith) h.1.0,
            first.0,
            second.0,
            third.0,
            jump_in (λ t. instruction.Jump t) n last (n + 5) q (p + 10) (omega (arith, small))
                (omega arith) (omega arith) third.1.0,
          ),
          moved q after (omega arith) third.1.1,
        )
    code_in p out back (Switch on arms) after small far near h =
        let a = blocks.size on in
        let b = arms_size arms in
        let t = tests_size arms in
        let tests = p + (a + (10 + (b + 5))) in
        let q = p + (a + (10 + (b + (5 + (t + 6))))) in
        let default = default_place (p + (a + 10)) (p + (a + 5)) arms in
        let enter = instruction.Jump (target tests) in
        let leave = instruction.Jump (target q) in
        let ends = instruction.Jump (target (p + (a + 5))) in
        let last = instruction.Jump (target default) in
        let listed = tests_emitted (p + (a + 10)) arms in
        let those = arms_emitted (p + (a + 10)) (p + (a + 5)) back arms in
        let behind = instruction.Pop ∷ (last ∷ []) in
        let first = block_stands p on ((enter ∷ (leave ∷ (those ++ (ends ∷ (listed ++ behind)))))
        ++ after) (omega (arith, small))
        (apart p (blocks.emitted p on) (enter ∷ (leave ∷ (those ++ (ends ∷ (listed ++ behind)))))
        after h) in
        let second = arms_in (p + (a + 10)) (p + (a + 5)) back arms (ends
        ∷ ((listed ++ behind) ++ after)) (omega (arith, small)) (omega (arith, small)) near
        (apart (p + (a + 10)) those (ends ∷ (listed ++ behind)) after (moved (p + (a + 10))
        ((those ++ (ends ∷ (listed ++ behind))) ++ after) (omega arith) first.1.1.1)) in
        let m = p + (a + 10) + b in
        let third =
        tests_in tests (p + (a + 10)) arms (behind ++ after) (omega (arith, small)) (apart tests
        listed behind after (moved tests ((listed ++ behind) ++ after) (omega arith) second.1.1)) in
        let n = tests + t in (
          (
            first.0,
            jump_in (λ x. instruction.Jump x) (p + a) (p + a) (p + a + 5) (p + (a + 5)) tests
                (omega (arith, small)) refl (omega arith) first.1.0,
            jump_in (λ x. instruction.Jump x) (p + a + 5) (p + (a + 5)) (p + a + 5 + 5)
                (p + (a + 10)) q (omega (arith, small)) (omega arith) (omega arith) first.1.1.0,
            second.0,
            jump_in (λ x. instruction.Jump x) m (p + (a + (10 + b))) (m + 5) tests (p + (a + 5))
                (omega (arith, small)) (omega arith) (omega arith) second.1.0,
            third.0,
            stands_at instruction.Pop n (p + (a + (10 + (b + (5 + t))))) (n + 1)
                (p + (a + (10 + (b + (5 + (t + 1)))))) (omega arith) (omega arith) third.1.0,
            jump_in (λ x. instruction.Jump x) (n + 1) (p + (a + (10 + (b + (5 + (t + 1))))))
                (n + 1 + 5) q default (default_small (p + (a + 10)) (p + (a + 5)) arms
                (omega (arith, small)) (omega (arith, small))) (omega arith) (omega arith)
                third.1.1.0,
          ),
          moved q after (omega arith) third.1.1.1,
        )
    code_in p out back Break after small far near h =
        (jump_in (λ t. instruction.Jump t) p p (p + 5) (p + 5) out far refl refl h.0, h.1)
    code_in p out back Continue after small far near h =
        (jump_in (λ t. instruction.Jump t) p p (p + 5) (p + 5) back near refl refl h.0, h.1)
    code_in p out back Finish after small far near h = (h.0, h.1)

    arms_in : (p out back : ℕ) (arms : Arms) (after : List Instruction)
        → p + arms_size arms < 2 ^ 32 → out < 2 ^ 32 → back < 2 ^ 32
        → Holds p (arms_emitted p out back arms ++ after)
        → ArmsIn P p out back arms × Holds (p + arms_size arms) after
    arms_in p out back Nil after small far near h = (tt, moved (p + 0) after (omega arith) h)
    arms_in p out back (Statement first rest) after small far near h =
        let one = code_in p out back first (arms_emitted (p + size first) out back rest ++ after)
        (omega (arith, small)) far near
        (apart p (emitted p out back first) (arms_emitted (p + size first) out back rest) after h)
        in
        let two = arms_in (p + size first) out back rest after (omega (arith, small)) far near
        one.1 in (
          (one.0, two.0),
          moved (p + (size first + arms_size rest)) after (omega arith) two.1,
        )
    arms_in p out back (Case label rest) after small far near h =
        arms_in p out back rest after small far near h
    arms_in p out back (Default rest) after small far near h = arms_in p out back rest after small
        far near h
