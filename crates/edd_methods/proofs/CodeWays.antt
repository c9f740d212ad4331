-- The ways of statements' code lead to starts of instructions, and agree on the number of operands.
use Rattle.std.proofs.Common.{◌≡◌, refl, sym, subst, ◌∙◌, ℕ, ◌+◌, List, arith}
use Rattle.std.proofs.Math.Logic.{inl, inr}
use Rattle.edd_instructions.specs.declared.instruction.Instruction.TheVariants as instruction
use Rattle.edd_instructions.specs.declared.unit.Sort.TheVariants.{Method}
use Rattle.edd_image.specs.declared.versions.Version.TheVariants.{Two}
use Rattle.edd_instructions.specs.Units.{Placed, IsFresh}
use Rattle.edd_code.specs.Blocks as blocks
use Rattle.edd_code.specs.Blocks.{Block}
use Rattle.edd_code.proofs.BlockPlaces.{stand, AllIn}
use Rattle.edd_code.proofs.BlockDepths.{HasDepthsOf, at_front}
use Rattle.edd_code.proofs.BlockJumps.{IsSound, Inside, leads_on, leads_near, not_fresh, starts, exit_fresh, sound_straight, sound_zero, sound_case, sound_jump, block_is_sound}
use Rattle.edd_methods.specs.Statements.{Part, Missing, Step, Test, Code, Plain, Then, Guard, Branch, Loop, Switch, Break, Continue, Finish, Arms, Nil, Statement, Case, Default, part_size, tests_size, size, arms_size, default_place}
use Rattle.edd_methods.proofs.CodePlaces.{PartIn, TestsIn, CodeIn, ArmsIn}
use Rattle.edd_methods.specs.CodeFlow.{Rests, Gives, FitsPart, Fits, FitArms}
use Rattle.edd_methods.proofs.CodeDepths.{HasPart, HasOne, HasCode, HasArms, part_front, code_front, arms_front}
use Rattle.edd_methods.proofs.CodeStarts.{InsidePart, InsideTests, InsideCode, InsideArms, Starts, part_starts, tests_starts, code_starts, arms_starts}

module _ (xs : List Placed) (depth : ℕ → ℕ) where
  -- an instruction starts there, and there are no operands in front of it
  abbrev pub IsBorder : ℕ → Type 0
  IsBorder p = (depth p ≡ 0) × Starts xs p

  moved : (p q : ℕ) → p ≡ q → IsBorder q → IsBorder p
  moved p q e h = subst IsBorder (sym e) h

  -- ---- blocks

  value_sound : (p : ℕ) (b : Block) → Gives b → HasDepthsOf depth p 0 b → depth (p + blocks.size b)
      ≡ 1 → Starts xs (p + blocks.size b) → Inside xs p b → AllIn (IsSound xs depth) p b
  value_sound p b runs has exit start inside = block_is_sound Two Method xs depth p 0 b runs.0 has
      (exit ∙ sym runs.1) start inside (λ f. refl)

  -- something leads to the place after a value
  value_leads : (p : ℕ) (b : Block) → Gives b → Inside xs p b → IsFresh xs (p + blocks.size b) → ⊥
  value_leads p b runs inside fresh =
      absurd (omega (arith, runs.1, exit_fresh Two Method xs p 0 b runs.0 inside (λ f. refl) fresh))

  rests_sound : (p : ℕ) (b : Block) → Rests b → HasDepthsOf depth p 0 b
      → IsBorder (p + blocks.size b) → Inside xs p b → AllIn (IsSound xs depth) p b
  rests_sound p b (inl is) has exit inside =
      let here = at_front depth p 0 b has in
      let abort : IsSound xs depth (stand p instruction.Abort (p + 1)) =
      record {
        lands = refl;
        enough = omega arith;
        bounded = omega (arith, here);
        agree = tt;
        fresh = λ f. here;
      } in
      subst (λ (b : Block). AllIn (IsSound xs depth) p b) (sym is) abort
  rests_sound p b (inr runs) has exit inside = block_is_sound Two Method xs depth p 0 b runs.0 has
      (exit.0 ∙ sym runs.1) exit.1 inside (λ f. refl)

  -- ---- instructions of statements

  jump_sound : (p next to : ℕ) → depth p ≡ 0 → IsBorder to
      → IsSound xs depth (stand p (instruction.Jump to) next)
  jump_sound p next to here there = sound_jump Two Method xs depth p next to 0 here there.0
      (omega arith) there.1 (λ f. refl)

  pub end_sound : (p next : ℕ) → depth p ≡ 0 → IsSound xs depth (stand p instruction.End next)
  end_sound p next here = record {
    lands = refl;
    enough = omega arith;
    bounded = omega (arith, here);
    agree = tt;
    fresh = λ f. here;
  }

  leave_sound : (p next to : ℕ) → depth p ≡ 1 → IsBorder next → IsBorder to → (IsFresh xs p → ⊥)
      → IsSound xs depth (stand p (instruction.JumpIfZero to) next)
  leave_sound p next to here on there led = sound_zero Two Method xs depth p next to 1
      (here, there.0, omega arith, omega arith, on.1, there.1, λ f. absurd (led f)) on.0

  -- ---- parts of loops

  part_begins : (p out : ℕ) (part : Part) → HasPart depth p part → InsidePart xs p out part
      → IsBorder (p + part_size part) → IsBorder p
  part_begins p out part has inside exit =
      (part_front depth p part has, part_starts xs p out part inside exit.1)

  part_sound : (p out : ℕ) (part : Part) → FitsPart Rests Gives part → HasPart depth p part
      → IsBorder (p + part_size part) → IsBorder out → InsidePart xs p out part
      → PartIn (IsSound xs depth) p out part
  part_sound p out Missing fits has exit far inside = tt
  part_sound p out (Step b) fits has exit far inside = rests_sound p b fits has exit inside
  part_sound p out (Test b) fits has exit far inside =
      let m = p + blocks.size b in
      let next = p + (blocks.size b + 5) in
      let at = starts xs (stand m (instruction.JumpIfZero out) next) (λ P h. (inside P h).1) in (
        value_sound p b fits has.0 has.1 at (λ P h. (inside P h).0),
        leave_sound m next out has.1
            exit far (value_leads p b fits (λ P h. (inside P h).0)),
      )

  -- ---- the tests of a switch

  arms_begin : (p out back : ℕ) (arms : Arms) → HasArms depth p arms → InsideArms xs p out back arms
      → IsBorder (p + arms_size arms) → IsBorder p
  arms_begin p out back arms has inside exit =
      (arms_front depth p arms has, arms_starts xs p out back arms inside exit.1)

  tests_lead : (p at : ℕ) (arms : Arms) → InsideTests xs p at arms → (IsFresh xs p → ⊥)
      → IsFresh xs (p + tests_size arms) → ⊥
  tests_lead p at Nil inside led fresh = led (subst (IsFresh xs) (omega arith) fresh)
  tests_lead p at (Statement first rest) inside led fresh = tests_lead p (at + size first) rest
      inside led fresh
  tests_lead p at (Case label rest) inside led fresh =
      tests_lead (p + 13) at rest (λ P h. (inside P h).1)
      (not_fresh xs (stand p (instruction.Case label at) (p + 13)) (p + 13) (λ P h. (inside P h).0)
      (omega arith) (leads_on (p + 13) at))
      (subst (IsFresh xs) (omega arith) fresh)
  tests_lead p at (Default rest) inside led fresh = tests_lead p at rest inside led fresh

  tests_sound : (p at out back : ℕ) (arms : Arms) → HasOne depth p (p + (tests_size arms + 1))
      → HasArms depth at arms → InsideArms xs at out back arms → IsBorder (at + arms_size arms)
      → (IsFresh xs p → ⊥) → Starts xs (p + tests_size arms) → InsideTests xs p at arms
      → TestsIn (IsSound xs depth) p at arms
  tests_sound p at out back Nil one has within exit led start inside = tt
  tests_sound p at out back (Statement first rest) one has within exit led start inside =
      tests_sound p (at + size first) out back rest one has.1 (λ P h. (within P h).1)
      (moved (at + size first + arms_size rest) (at + (size first + arms_size rest))
      (omega arith) exit) led start inside
  tests_sound p at out back (Case label rest) one has within exit led start inside =
      let here = arms_begin at out back rest has within exit in
      let x = stand p (instruction.Case label at) (p + 13) in
      let behind : Starts xs (p + 13 + tests_size rest) = subst (Starts xs) (omega arith) start in
      let next : Starts xs (p + 13) = tests_starts xs (p + 13) at rest (λ P h. (inside P h).1)
      behind in (
        sound_case Two Method xs depth p (p + 13) at 1 label (
          one p (omega arith) (omega arith),
          here.0,
          omega arith,
          omega arith,
          next,
          here.1,
          λ f. absurd (led f),
        )
            (one (p + 13) (omega arith) (omega arith)),
        tests_sound (p + 13) at out back rest
            (λ y low high. one y (omega (arith, low)) (omega (arith, high))) has within exit
            (not_fresh xs x (p + 13) (λ P h. (inside P h).0) (omega arith) (leads_on (p + 13) at))
            behind
            (λ P h. (inside P h).1),
      )
  tests_sound p at out back (Default rest) one has within exit led start inside =
      tests_sound p at out back rest one has within exit led start inside

  default_border : (p out back : ℕ) (arms : Arms) (leave : ℕ) → HasArms depth p arms
      → InsideArms xs p out back arms → IsBorder (p + arms_size arms) → IsBorder leave
      → IsBorder (default_place p leave arms)
  default_border p out back Nil leave has inside exit far = far
  default_border p out back (Statement first rest) leave has inside exit far =
      default_border (p + size first) out back rest leave has.1 (λ P h. (inside P h).1)
      (moved (p + size first + arms_size rest) (p + (size first + arms_size rest)) (omega arith)
      exit) far
  default_border p out back (Case label rest) leave has inside exit far =
      default_border p out back rest leave has inside exit far
  default_border p out back (Default rest) leave has inside exit far =
      arms_begin p out back rest has inside exit

  -- ---- code

  code_begins : (p out back : ℕ) (c : Code) → HasCode depth p c → InsideCode xs p out back c
      → IsBorder (p + size c) → IsBorder p
  code_begins p out back c has inside exit =
      (code_front depth p c has, code_starts xs p out back c inside exit.1)

  mutual
    pub code_sound : (p out back : ℕ) (c : Code) → Fits Rests Gives c → HasCode depth p c
        → IsBorder (p + size c) → IsBorder out → IsBorder back → InsideCode xs p out back c
        → CodeIn (IsSound xs depth) p out back c
    code_sound p out back (Plain b) fits has exit far near inside =
        rests_sound p b fits has exit inside
    code_sound p out back (Then first second) fits has exit far near inside =
        let m = p + size first in
        let behind = moved (m + size second) (p + (size first + size second)) (omega arith) exit in
        let in_second : InsideCode xs m out back second = λ P h. (inside P h).1 in (
          code_sound p out back first fits.0 has.0
              (code_begins m out back second has.1 in_second behind) far near
              (λ P h. (inside P h).0),
          code_sound m out back second fits.1 has.1 behind far near in_second,
        )
    code_sound p out back (Guard test first) fits has exit far near inside =
        let a = blocks.size test in
        let m = p + a in
        let n = p + (a + 5) in
        let q = p + (a + (5 + size first)) in
        let in_test : Inside xs p test = λ P h. (inside P h).0 in
        let in_first : InsideCode xs n out back first = λ P h. (inside P h).2 in
        let behind = moved (n + size first) q (omega arith) exit in (
          value_sound p test fits.0 has.0 has.1
              (starts xs (stand m (instruction.JumpIfZero q) n) (λ P h. (inside P h).1)) in_test,
          leave_sound m n q has.1 (code_begins n out back first has.2 in_first behind) exit
              (value_leads p test fits.0 in_test),
          code_sound n out back first fits.1 has.2 behind far near in_first,
        )
    code_sound p out back (Branch test first otherwise) fits has exit far near inside =
        let a = blocks.size test in
        let m = p + a in
        let n = p + (a + 5) in
        let k = p + (a + (5 + size first)) in
        let r = p + (a + (5 + (size first + 5))) in
        let q = p + (a + (5 + (size first + (5 + size otherwise)))) in
        let in_test : Inside xs p test = λ P h. (inside P h).0 in
        let in_first : InsideCode xs n out back first = λ P h. (inside P h).2 in
        let in_other : InsideCode xs r out back otherwise = λ P h. (inside P h).4 in
        let behind = moved (r + size otherwise) q (omega arith) exit in
        let joins : IsBorder k =
        (has.3, starts xs (stand k (instruction.Jump q) r) (λ P h. (inside P h).3)) in
        let before = moved (n + size first) k (omega arith) joins in (
          value_sound p test fits.0 has.0 has.1
              (starts xs (stand m (instruction.JumpIfZero r) n) (λ P h. (inside P h).1)) in_test,
          leave_sound m n r has.1 (code_begins n out back first has.2 in_first before)
              (code_begins r out back otherwise has.4 in_other behind)
              (value_leads p test fits.0 in_test),
          code_sound n out back first fits.1 has.2 before far near in_first,
          jump_sound k r q has.3 exit,
          code_sound r out back otherwise fits.2 has.4 behind far near in_other,
        )
    code_sound p out back (Loop front back_part body) fits has exit far near inside =
        let b = part_size back_part in
        let f = part_size front in
        let m = p + 10 in
        let n = p + (10 + b) in
        let k = p + (10 + (b + f)) in
        let r = p + (10 + (b + (f + size body))) in
        let q = p + (10 + (b + (f + (size body + 5)))) in
        let in_back : InsidePart xs m (p + 5) back_part = λ P h. (inside P h).2 in
        let in_front : InsidePart xs n (p + 5) front = λ P h. (inside P h).3 in
        let in_body : InsideCode xs k (p + 5) m body = λ P h. (inside P h).4 in
        let leave : IsBorder (p + 5) =
        (has.1, starts xs (stand (p + 5) (instruction.Jump q) m) (λ P h. (inside P h).1)) in
        let again : IsBorder r =
        (has.5, starts xs (stand r (instruction.Jump m) q) (λ P h. (inside P h).5)) in
        let four = moved (k + size body) r (omega arith) again in
        let three = moved (n + f) k (omega arith) (code_begins k (p + 5) m body has.4 in_body four)
        in
        let entry = part_begins n (p + 5) front has.3 in_front three in
        let two = moved (m + b) n (omega arith) entry in
        let turn = part_begins m (p + 5) back_part has.2 in_back two in (
          jump_sound p (p + 5) n has.0 entry,
          jump_sound (p + 5) m q has.1 exit,
          part_sound m (p + 5) back_part fits.1 has.2 two leave in_back,
          part_sound n (p + 5) front fits.0 has.3 three leave in_front,
          code_sound k (p + 5) m body fits.2 has.4 four leave turn in_body,
          jump_sound r q m has.5 turn,
        )
    code_sound p out back (Switch on arms) fits has exit far near inside =
        let a = blocks.size on in
        let b = arms_size arms in
        let t = tests_size arms in
        let m = p + a in
        let n = p + (a + 5) in
        let k = p + (a + 10) in
        let r = p + (a + (10 + b)) in
        let s = p + (a + (10 + (b + 5))) in
        let v = p + (a + (10 + (b + (5 + t)))) in
        let u = p + (a + (10 + (b + (5 + (t + 1))))) in
        let q = p + (a + (10 + (b + (5 + (t + 6))))) in
        let default = default_place k n arms in
        let in_on : Inside xs p on = λ P h. (inside P h).0 in
        let in_arms : InsideArms xs k n back arms = λ P h. (inside P h).3 in
        let in_tests : InsideTests xs s k arms = λ P h. (inside P h).5 in
        let enter = stand m (instruction.Jump s) n in
        let leave : IsBorder n =
        (has.2, starts xs (stand n (instruction.Jump q) k) (λ P h. (inside P h).2)) in
        let ends : IsBorder r = (
          has.4,
          starts xs (stand r (instruction.Jump n) s)
              (λ P h. (inside P h).4),
        ) in
        let behind = moved (k + b) r (omega arith) ends in
        let pops : Starts xs v = starts xs (stand v instruction.Pop u) (λ P h. (inside P h).6) in
        let tested : Starts xs (s + t) = subst (Starts xs) (omega arith) pops in
        let last : Starts xs u = starts xs (stand u (instruction.Jump default) q)
        (λ P h. (inside P h).7) in
        let led : IsFresh xs s → ⊥ = not_fresh xs enter s (λ P h. (inside P h).1) (omega arith)
        (leads_near s) in
        let popped : IsFresh xs v
        → ⊥ = λ f. tests_lead s k arms in_tests led (subst (IsFresh xs) (omega arith) f) in (
          value_sound p on fits.0 has.0 has.1 (starts xs enter (λ P h. (inside P h).1)) in_on,
          sound_jump Two Method xs depth m n s 1 has.1 (has.5 s (omega arith) (omega arith))
              (omega arith) (tests_starts xs s k arms in_tests tested)
              (λ f. absurd (value_leads p on fits.0 in_on f)),
          jump_sound n k q has.2 exit,
          arms_sound k n back arms fits.1 has.3 behind leave near in_arms,
          jump_sound r s n has.4 leave,
          tests_sound s k n back arms (λ x low high. has.5 x low (omega (arith, high))) has.3
              in_arms behind led tested in_tests,
          sound_straight Two Method xs depth v 1 u instruction.Pop refl (omega arith) (omega arith)
              (has.5 v (omega arith) (omega arith)) has.6 last (λ f. absurd (popped f)),
          jump_sound u q default has.6 (default_border k n back arms n has.3 in_arms behind leave),
        )
    code_sound p out back Break fits has exit far near inside = jump_sound p (p + 5) out has far
    code_sound p out back Continue fits has exit far near inside =
        jump_sound p (p + 5) back has near
    code_sound p out back Finish fits has exit far near inside = end_sound p (p + 1) has

    arms_sound : (p out back : ℕ) (arms : Arms) → FitArms Rests Gives arms → HasArms depth p arms
        → IsBorder (p + arms_size arms) → IsBorder out → IsBorder back
        → InsideArms xs p out back arms
        → ArmsIn (IsSound xs depth) p out back arms
    arms_sound p out back Nil fits has exit far near inside = tt
    arms_sound p out back (Statement first rest) fits has exit far near inside =
        let m = p + size first in
        let behind = moved (m + arms_size rest) (p + (size first + arms_size rest)) (omega arith)
        exit in
        let in_rest : InsideArms xs m out back rest = λ P h. (inside P h).1 in (
          code_sound p out back first fits.0 has.0 (arms_begin m out back rest has.1 in_rest behind)
              far near (λ P h. (inside P h).0),
          arms_sound m out back rest fits.1 has.1 behind far near in_rest,
        )
    arms_sound p out back (Case label rest) fits has exit far near inside =
        arms_sound p out back rest fits has exit far near inside
    arms_sound p out back (Default rest) fits has exit far near inside =
        arms_sound p out back rest fits has exit far near inside
