-- What holds of each instruction of code at a place, each target being the place itself, holds of
-- each that is emitted there.
use Rattle.std.proofs.Common.{◌≡◌, refl, sym, subst, ℕ, ◌+◌, ◌<◌, ◌^◌, List, [], ◌∷◌, ◌++◌, arith, append_assoc}
use Rattle.std.specs.List.{AllByRecursion}
use Rattle.std.proofs.Math.Nat.{mod-eq_of_lt}
use Rattle.edd_instructions.specs.declared.instruction.Instruction.{Instruction}
use Rattle.edd_instructions.specs.declared.instruction.Instruction.TheVariants as instruction
use Rattle.edd_instructions.specs.Units.{Placed}
use Rattle.edd_code.specs.Blocks as blocks
use Rattle.edd_code.specs.Blocks.{Block, target}
use Rattle.edd_code.proofs.Lines.{placed}
use Rattle.edd_code.proofs.BlockPlaces.{stand, AllIn, all_listed, placed_are}
use Rattle.edd_methods.specs.Statements.{Part, Missing, Step, Test, Code, Plain, Then, Guard, Branch, Loop, Switch, Break, Continue, Finish, Arms, Nil, Statement, Case, Default, part_size, tests_size, size, arms_size, part_emitted, tests_emitted, default_place, emitted, arms_emitted}
use Rattle.edd_methods.proofs.CodePlaces.{PartIn, TestsIn, CodeIn, ArmsIn}
use Rattle.edd_methods.proofs.CodeReading.{default_small}

module _ (P : Placed → Type 0) where
  -- this holds of each instruction from a place on
  abbrev pub Holds : ℕ → List Instruction → Type 0
  Holds p is = AllByRecursion P (placed p is)

  moved : {p : ℕ} (q : ℕ) (is : List Instruction) → p ≡ q → Holds p is → Holds q is
  moved q is e h = subst (λ (x : ℕ). Holds x is) e h

  together : (p : ℕ) (is js ks : List Instruction) → Holds p (is ++ (js ++ ks))
      → Holds p ((is ++ js) ++ ks)
  together p is js ks h = subst (Holds p) (sym (append_assoc is js ks)) h

  stands_at : (i : Instruction) (p q m next : ℕ) → q ≡ p → next ≡ m → P (stand q i next)
      → P (stand p i m)
  stands_at i p q m next here there h = subst (λ (x : ℕ). P (stand p i x)) there
      (subst (λ (x : ℕ). P (stand x i next)) here h)

  -- an instruction with a target, as it is emitted
  jump_at : (i : ℕ → Instruction) (p q m next to : ℕ) → to < 2 ^ 32 → q ≡ p → next ≡ m
      → P (stand q (i to) next) → P (stand p (i (target to)) m)
  jump_at i p q m next to small here there h =
      let same : target to ≡ to = mod-eq_of_lt (omega (arith, small)) in
      subst (λ (x : ℕ). P (stand p (i x) m)) (sym same) (stands_at (i to) p q m next here there h)

  block_holds : (p : ℕ) (b : Block) (after : List Instruction) → p + blocks.size b < 2 ^ 32
      → AllIn P p b → Holds (p + blocks.size b) after → Holds p (blocks.emitted p b ++ after)
  block_holds p b after small h others = subst (AllByRecursion P) (sym (placed_are p b after small))
      (all_listed P p b (placed (p + blocks.size b) after) h others)

  part_holds : (p out : ℕ) (part : Part) (after : List Instruction) → p + part_size part < 2 ^ 32
      → out < 2 ^ 32 → PartIn P p out part → Holds (p + part_size part) after
      → Holds p (part_emitted p out part ++ after)
  part_holds p out Missing after small far h others = moved p after (omega arith) others
  part_holds p out (Step b) after small far h others = block_holds p b after small h others
  part_holds p out (Test b) after small far h others =
      let leave = instruction.JumpIfZero (target out) in
      let q = p + blocks.size b in
      let next = p + (blocks.size b + 5) in
      together p (blocks.emitted p b) (leave ∷ []) after
      (block_holds p b (leave ∷ after) (omega (arith, small)) h.0 (
        jump_at (λ t. instruction.JumpIfZero t) q q (q + 5) next out far refl (omega arith) h.1,
        moved (q + 5) after (omega arith) others,
      ))

  tests_hold : (p at : ℕ) (arms : Arms) (after : List Instruction) → at + arms_size arms < 2 ^ 32
      → TestsIn P p at arms → Holds (p + tests_size arms) after
      → Holds p (tests_emitted at arms ++ after)
  tests_hold p at Nil after small h others = moved p after (omega arith) others
  tests_hold p at (Statement first rest) after small h others = tests_hold p (at + size first) rest
      after (omega (arith, small)) h others
  tests_hold p at (Case label rest) after small h others = (
    jump_at (λ t. instruction.Case label t) p p (p + 13) (p + 13) at (omega (arith, small)) refl
        refl h.0,
    tests_hold (p + 13) at rest after small h.1
        (moved (p + 13 + tests_size rest) after (omega arith) others),
  )
  tests_hold p at (Default rest) after small h others = tests_hold p at rest after small h others

  mutual
    unfolding emitted

    pub code_holds : (p out back : ℕ) (c : Code) (after : List Instruction) → p + size c < 2 ^ 32
        → out < 2 ^ 32 → back < 2 ^ 32 → CodeIn P p out back c → Holds (p + size c) after
        → Holds p (emitted p out back c ++ after)
    code_holds p out back (Plain b) after small far near h others =
        block_holds p b after small h others
    code_holds p out back (Then first second) after small far near h others =
        let m = p + size first in
        let two = emitted m out back second in
        together p (emitted p out back first) two after (code_holds p out back first (two
        ++ after) (omega (arith, small)) far near h.0 (code_holds m out back second after
        (omega (arith, small)) far near h.1 (moved (m + size second) after (omega arith) others)))
    code_holds p out back (Guard test first) after small far near h others =
        let a = blocks.size test in
        let n = p + (a + 5) in
        let q = p + (a + (5 + size first)) in
        let leave = instruction.JumpIfZero (target q) in
        let one = emitted n out back first in
        let left = code_holds n out back first after (omega (arith, small)) far near h.2
        (moved (n + size first) after (omega arith) others) in
        together p (blocks.emitted p test) (leave ∷ one) after
        (block_holds p test ((leave ∷ one) ++ after) (omega (arith, small)) h.0 (
          jump_at (λ t. instruction.JumpIfZero t) (p + a) (p + a) (p + a + 5) n q
              (omega (arith, small)) refl (omega arith) h.1,
          moved (p + a + 5) (one ++ after) (omega arith) left,
        ))
    code_holds p out back (Branch test first otherwise) after small far near h others =
        let a = blocks.size test in
        let n = p + (a + 5) in
        let k = p + (a + (5 + size first)) in
        let r = p + (a + (5 + (size first + 5))) in
        let q = p + (a + (5 + (size first + (5 + size otherwise)))) in
        let skip = instruction.Jump (target q) in
        let leave = instruction.JumpIfZero (target r) in
        let one = emitted n out back first in
        let two = emitted r out back otherwise in
        let e = n + size first in
        let right = code_holds r out back otherwise after (omega (arith, small)) far near h.4
        (moved (r + size otherwise) after (omega arith) others) in
        let left = code_holds n out back first (skip ∷ (two ++ after)) (omega (arith, small)) far
        near h.2 (
          jump_at (λ t. instruction.Jump t) e k (e + 5) r q (omega (arith, small)) (omega arith)
              (omega arith) h.3,
          moved (e + 5) (two ++ after) (omega arith) right,
        ) in
        together p (blocks.emitted p test) (leave ∷ (one ++ (skip ∷ two))) after
        (block_holds p test ((leave ∷ (one ++ (skip ∷ two))) ++ after) (omega (arith, small)) h.0 (
          jump_at (λ t. instruction.JumpIfZero t) (p + a) (p + a) (p + a + 5) n r
              (omega (arith, small)) refl (omega arith) h.1,
          moved (p + a + 5) ((one ++ (skip ∷ two))
              ++ after) (omega arith) (together n one (skip ∷ two) after left),
        ))
    code_holds p out back (Loop front back_part body) after small far near h others =
        let b = part_size back_part in
        let f = part_size front in
        let n = p + (10 + b) in
        let k = p + (10 + (b + f)) in
        let last = p + (10 + (b + (f + size body))) in
        let q = p + (10 + (b + (f + (size body + 5)))) in
        let again = instruction.Jump (target (p + 10)) in
        let three = emitted k (p + 5) (p + 10) body in
        let two = part_emitted n (p + 5) front in
        let one = part_emitted (p + 10) (p + 5) back_part in
        let e = k + size body in
        let third = code_holds k (p + 5) (p + 10) body (again ∷ after) (omega (arith, small))
        (omega (arith, small)) (omega (arith, small)) h.4 (
          jump_at (λ t. instruction.Jump t) e last (e + 5) q (p + 10) (omega (arith, small))
              (omega arith) (omega arith) h.5,
          moved (e + 5) after (omega arith) others,
        ) in
        let second = part_holds n (p + 5) front ((three ++ (again ∷ [])) ++ after)
        (omega (arith, small)) (omega (arith, small)) h.3 (moved (n + f) ((three ++ (again ∷ []))
        ++ after) (omega arith) (together k three (again ∷ []) after third)) in
        let first = part_holds (p + 10) (p + 5) back_part ((two ++ (three ++ (again ∷ [])))
        ++ after) (omega (arith, small)) (omega (arith, small)) h.2
        (moved (p + 10 + b) ((two ++ (three ++ (again ∷ [])))
        ++ after) (omega arith) (together n two (three ++ (again ∷ [])) after second)) in (
          jump_at (λ t. instruction.Jump t) p p (p + 5) (p + 5) n (omega (arith, small)) refl refl
              h.0,
          (
            jump_at (λ t. instruction.Jump t) (p + 5) (p + 5) (p + 5 + 5) (p + 10) q
                (omega (arith, small)) refl (omega arith) h.1,
            moved (p + 5 + 5) ((one ++ (two ++ (three ++ (again ∷ [])))) ++ after) (omega arith)
                (together (p + 10) one (two ++ (three ++ (again ∷ []))) after first),
          ),
        )
    code_holds p out back (Switch on arms) after small far near h others =
        let a = blocks.size on in
        let b = arms_size arms in
        let t = tests_size arms in
        let n = p + (a + 5) in
        let k = p + (a + 10) in
        let r = p + (a + (10 + b)) in
        let s = p + (a + (10 + (b + 5))) in
        let v = p + (a + (10 + (b + (5 + t)))) in
        let u = p + (a + (10 + (b + (5 + (t + 1))))) in
        let q = p + (a + (10 + (b + (5 + (t + 6))))) in
        let default = default_place k n arms in
        let enter = instruction.Jump (target s) in
        let leave = instruction.Jump (target q) in
        let ends = instruction.Jump (target n) in
        let last = instruction.Jump (target default) in
        let listed = tests_emitted k arms in
        let those = arms_emitted k n back arms in
        let behind = instruction.Pop ∷ (last ∷ []) in
        let d = k + b in
        let e = s + t in
        let third = tests_hold s k arms (behind ++ after) (omega (arith, small)) h.5 (
          stands_at instruction.Pop e v (e + 1) u (omega arith) (omega arith) h.6,
          (
            jump_at (λ x. instruction.Jump x) (e + 1) u (e + 1 + 5) q default
                (default_small k n arms (omega (arith, small)) (omega (arith, small))) (omega arith)
                (omega arith) h.7,
            moved (e + 1 + 5) after (omega arith) others,
          ),
        ) in
        let second = arms_hold k n back arms (ends ∷ ((listed ++ behind) ++ after))
        (omega (arith, small)) (omega (arith, small)) near h.3 (
          jump_at (λ x. instruction.Jump x) d r (d + 5) s n (omega (arith, small)) (omega arith)
              (omega arith) h.4,
          moved (d + 5) ((listed ++ behind)
              ++ after) (omega arith) (together s listed behind after third),
        ) in
        together p (blocks.emitted p on) (enter ∷ (leave ∷ (those ++ (ends ∷ (listed ++ behind)))))
        after
        (block_holds p on ((enter ∷ (leave ∷ (those ++ (ends ∷ (listed ++ behind))))) ++ after)
        (omega (arith, small)) h.0 (
          jump_at (λ x. instruction.Jump x) (p + a) (p + a) (p + a + 5) n s (omega (arith, small))
              refl (omega arith) h.1,
          (
            jump_at (λ x. instruction.Jump x) (p + a + 5) n (p + a + 5 + 5) k q
                (omega (arith, small)) (omega arith) (omega arith) h.2,
            moved (p + a + 5 + 5) ((those ++ (ends ∷ (listed ++ behind)))
                ++ after) (omega arith) (together k those (ends ∷ (listed ++ behind)) after second),
          ),
        ))
    code_holds p out back Break after small far near h others =
        (jump_at (λ t. instruction.Jump t) p p (p + 5) (p + 5) out far refl refl h, others)
    code_holds p out back Continue after small far near h others =
        (jump_at (λ t. instruction.Jump t) p p (p + 5) (p + 5) back near refl refl h, others)
    code_holds p out back Finish after small far near h others = (h, others)

    arms_hold : (p out back : ℕ) (arms : Arms) (after : List Instruction)
        → p + arms_size arms < 2 ^ 32 → out < 2 ^ 32 → back < 2 ^ 32 → ArmsIn P p out back arms
        → Holds (p + arms_size arms) after
        → Holds p (arms_emitted p out back arms ++ after)
    arms_hold p out back Nil after small far near h others = moved p after (omega arith) others
    arms_hold p out back (Statement first rest) after small far near h others =
        let m = p + size first in
        let two = arms_emitted m out back rest in
        together p (emitted p out back first) two after (code_holds p out back first (two ++ after)
        (omega (arith, small)) far near h.0 (arms_hold m out back rest after (omega (arith, small))
        far near h.1 (moved (m + arms_size rest) after (omega arith) others)))
    arms_hold p out back (Case label rest) after small far near h others =
        arms_hold p out back rest after small far near h others
    arms_hold p out back (Default rest) after small far near h others =
        arms_hold p out back rest after small far near h others
