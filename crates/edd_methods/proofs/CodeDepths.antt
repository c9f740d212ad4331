-- The number of operands at each place of statements' code: none at the borders of statements.
use Rattle.std.proofs.Common.{◌≡◌, refl, sym, ap, subst, ◌∙◌, ℕ, ◌+◌, ◌<◌, ◌≤◌, arith}
use Rattle.std.proofs.Math.Logic.{inl, inr}
use Rattle.edd_instructions.specs.declared.unit.Sort.TheVariants.{Method}
use Rattle.edd_image.specs.declared.versions.Version.TheVariants.{Two}
use Rattle.edd_code.specs.Blocks as blocks
use Rattle.edd_code.specs.Blocks.{Block}
use Rattle.edd_code.proofs.BlockDepths.{until, until_front, until_behind, depth_in, HasDepthsOf, at_front, has_depths}
use Rattle.edd_methods.specs.Statements.{Part, Missing, Step, Test, Code, Plain, Then, Guard, Branch, Loop, Switch, Break, Continue, Finish, Arms, Nil, Statement, Case, Default, part_size, tests_size, size, arms_size}
use Rattle.edd_methods.specs.CodeFlow.{Rests, Gives, FitsPart, Fits, FitArms}

-- ---- one number for each place

-- in a part of a loop: one operand at the test after it
abbrev pub part_depth : Part → (p x : ℕ) → ℕ
part_depth Missing p x = 0
part_depth (Step b) p x = depth_in b p 0 x
part_depth (Test b) p x = until (p + blocks.size b) x (depth_in b p 0 x) 1

-- in code, and in the statements of a switch: one operand at the test of a choice, and at those of
-- a switch
abbrev mutual
  pub code_depth : Code → (p x : ℕ) → ℕ
  code_depth (Plain b) p x = depth_in b p 0 x
  code_depth (Then first second) p x = until (p + size first) x (code_depth first p x)
      (code_depth second (p + size first) x)
  code_depth (Guard test first) p x =
      let a = blocks.size test in
      until (p + a) x (depth_in test p 0 x)
      (until (p + (a + 5)) x 1 (code_depth first (p + (a + 5)) x))
  code_depth (Branch test first otherwise) p x =
      let a = blocks.size test in
      until (p + a) x (depth_in test p 0 x)
      (until (p + (a + 5)) x 1
      (until (p + (a + (5 + size first))) x (code_depth first (p + (a + 5)) x)
      (until (p + (a + (5 + (size first + 5)))) x 0
      (code_depth otherwise (p + (a + (5 + (size first + 5)))) x))))
  code_depth (Loop front back_part body) p x =
      let b = part_size back_part in
      let f = part_size front in
      until (p + 10) x 0
      (until (p + (10 + b)) x (part_depth back_part (p + 10) x)
      (until (p + (10 + (b + f))) x (part_depth front (p + (10 + b)) x)
      (until (p + (10 + (b + (f + size body)))) x (code_depth body (p + (10 + (b + f))) x) 0)))
  code_depth (Switch on arms) p x =
      let a = blocks.size on in
      let b = arms_size arms in
      until (p + a) x (depth_in on p 0 x)
      (until (p + (a + 5)) x 1
      (until (p + (a + 10)) x 0
      (until (p + (a + (10 + b))) x (arms_depth arms (p + (a + 10)) x)
      (until (p + (a + (10 + (b + 5)))) x 0
      (until (p + (a + (10 + (b + (5 + (tests_size arms + 1)))))) x 1 0)))))
  code_depth _ p x = 0

  pub arms_depth : Arms → (p x : ℕ) → ℕ
  arms_depth Nil p x = 0
  arms_depth (Statement first rest) p x = until (p + size first) x (code_depth first p x)
      (arms_depth rest (p + size first) x)
  arms_depth (Case label rest) p x = arms_depth rest p x
  arms_depth (Default rest) p x = arms_depth rest p x

module _ (depth : ℕ → ℕ) where
  -- ---- the numbers at the places of code

  abbrev pub HasPart : (p : ℕ) → Part → Type 0
  HasPart p Missing = depth p ≡ 0
  HasPart p (Step b) = HasDepthsOf depth p 0 b
  HasPart p (Test b) = HasDepthsOf depth p 0 b × (depth (p + blocks.size b) ≡ 1)

  -- from one place up to another there is one operand
  abbrev pub HasOne : (p q : ℕ) → Type 0
  HasOne p q = (x : ℕ) → p ≤ x → x < q → depth x ≡ 1

  abbrev mutual
    pub HasCode : (p : ℕ) → Code → Type 0
    HasCode p (Plain b) = HasDepthsOf depth p 0 b
    HasCode p (Then first second) = HasCode p first × HasCode (p + size first) second
    HasCode p (Guard test first) =
        let a = blocks.size test in
        HasDepthsOf depth p 0 test × (depth (p + a) ≡ 1) × HasCode (p + (a + 5)) first
    HasCode p (Branch test first otherwise) =
        let a = blocks.size test in
        HasDepthsOf depth p 0 test × (depth (p + a) ≡ 1) × HasCode (p + (a + 5)) first
        × (depth (p + (a + (5 + size first))) ≡ 0) × HasCode (p + (a + (5 + (size first + 5))))
        otherwise
    HasCode p (Loop front back_part body) =
        let b = part_size back_part in
        let f = part_size front in
        (depth p ≡ 0) × (depth (p + 5) ≡ 0) × HasPart (p + 10) back_part
        × HasPart (p + (10 + b)) front × HasCode (p + (10 + (b + f))) body
        × (depth (p + (10 + (b + (f + size body)))) ≡ 0)
    HasCode p (Switch on arms) =
        let a = blocks.size on in
        let b = arms_size arms in
        let t = tests_size arms in
        HasDepthsOf depth p 0 on × (depth (p + a) ≡ 1) × (depth (p + (a + 5)) ≡ 0)
        × HasArms (p + (a + 10)) arms × (depth (p + (a + (10 + b))) ≡ 0)
        × HasOne (p + (a + (10 + (b + 5)))) (p + (a + (10 + (b + (5 + (t + 1))))))
        × (depth (p + (a + (10 + (b + (5 + (t + 1)))))) ≡ 0)
    HasCode p Break = depth p ≡ 0
    HasCode p Continue = depth p ≡ 0
    HasCode p Finish = depth p ≡ 0

    pub HasArms : (p : ℕ) → Arms → Type 0
    HasArms p Nil = depth p ≡ 0
    HasArms p (Statement first rest) = HasCode p first × HasArms (p + size first) rest
    HasArms p (Case label rest) = HasArms p rest
    HasArms p (Default rest) = HasArms p rest

  -- there are no operands in front of it
  pub part_front : (p : ℕ) (part : Part) → HasPart p part → depth p ≡ 0
  part_front p Missing has = has
  part_front p (Step b) has = at_front depth p 0 b has
  part_front p (Test b) has = at_front depth p 0 b has.0

  pub code_front : (p : ℕ) (c : Code) → HasCode p c → depth p ≡ 0
  code_front p (Plain b) has = at_front depth p 0 b has
  code_front p (Then first second) has = code_front p first has.0
  code_front p (Guard test first) has = at_front depth p 0 test has.0
  code_front p (Branch test first otherwise) has = at_front depth p 0 test has.0
  code_front p (Loop front back_part body) has = has.0
  code_front p (Switch on arms) has = at_front depth p 0 on has.0
  code_front p _ has = has

  pub arms_front : (p : ℕ) (arms : Arms) → HasArms p arms → depth p ≡ 0
  arms_front p Nil has = has
  arms_front p (Statement first rest) has = code_front p first has.0
  arms_front p (Case label rest) has = arms_front p rest has
  arms_front p (Default rest) has = arms_front p rest has

  -- ---- the numbers that are given for each place are these

  -- it is this from one place up to another
  abbrev Agree : (f : ℕ → ℕ) (p q : ℕ) → Type 0
  Agree f p q = (x : ℕ) → p ≤ x → x < q → depth x ≡ f x

  front_of : (f g : ℕ → ℕ) (p m q : ℕ) → m ≤ q → Agree (λ x. until m x (f x) (g x)) p q
      → Agree f p m
  front_of f g p m q short agree x low high = agree x low (omega (arith, short, high))
      ∙ until_front m x (f x) (g x) high

  back_of : (f g : ℕ → ℕ) (p m q : ℕ) → p ≤ m → Agree (λ x. until m x (f x) (g x)) p q → Agree g m q
  back_of f g p m q short agree x low high = agree x (omega (arith, short, low)) high
      ∙ until_behind m x (f x) (g x) low

  rests_has : (p q : ℕ) (b : Block) → p + blocks.size b ≡ q → Rests b → Agree (depth_in b p 0) p q
      → depth q ≡ 0 → HasDepthsOf depth p 0 b
  rests_has p q b end (inl is) agree exit =
      let long : blocks.size b ≡ 1 = ap blocks.size is in
      let here : depth p ≡ 0 = agree p (omega arith) (omega (arith, end, long))
      ∙ ap (λ (b : Block). depth_in b p 0 p) is in
      subst (λ (b : Block). HasDepthsOf depth p 0 b) (sym is) here
  rests_has p q b end (inr runs) agree exit =
      has_depths Two Method depth p 0 b runs.0
      (λ x low high. agree x low (omega (arith, high, end))) (ap depth end ∙ exit ∙ sym runs.1)

  gives_has : (p q : ℕ) (b : Block) → p + blocks.size b ≡ q → Gives b → Agree (depth_in b p 0) p q
      → depth q ≡ 1 → HasDepthsOf depth p 0 b
  gives_has p q b end runs agree exit =
      has_depths Two Method depth p 0 b runs.0
      (λ x low high. agree x low (omega (arith, high, end))) (ap depth end ∙ exit ∙ sym runs.1)

  part_has : (p q : ℕ) (part : Part) → p + part_size part ≡ q → FitsPart Rests Gives part
      → Agree (part_depth part p) p q → depth q ≡ 0 → HasPart p part
  part_has p q Missing end fits agree exit = ap depth (omega (arith, end)) ∙ exit
  part_has p q (Step b) end fits agree exit = rests_has p q b end fits agree exit
  part_has p q (Test b) end fits agree exit =
      let m = p + blocks.size b in
      let at = back_of (depth_in b p 0) (λ x. 1) p m q (omega arith) agree m (omega arith)
      (omega (arith, end)) in (
        gives_has p m b refl fits (front_of (depth_in b p 0) (λ x. 1) p m q (omega (arith, end))
            agree) at,
        at,
      )

  mutual
    pub code_has : (p q : ℕ) (c : Code) → p + size c ≡ q → Fits Rests Gives c
        → Agree (code_depth c p) p q → depth q ≡ 0 → HasCode p c
    code_has p q (Plain b) end fits agree exit = rests_has p q b end fits agree exit
    code_has p q (Then first second) end fits agree exit =
        let m = p + size first in
        let f = code_depth first p in
        let g = code_depth second m in
        let two = code_has m q second (omega (arith, end)) fits.1
        (back_of f g p m q (omega arith) agree) exit in (
          code_has p m first refl fits.0 (front_of f g p m q (omega (arith, end)) agree)
              (code_front m second two),
          two,
        )
    code_has p q (Guard test first) end fits agree exit =
        let a = blocks.size test in
        let m = p + a in
        let n = p + (a + 5) in
        let f1 = code_depth first n in
        let f0 = λ (x : ℕ). until n x 1 (f1 x) in
        let h0 = back_of (depth_in test p 0) f0 p m q (omega arith) agree in
        let h1 = back_of (λ x. 1) f1 m n q (omega arith) h0 in
        let at = front_of (λ x. 1) f1 m n q (omega (arith, end)) h0 m (omega arith) (omega arith)
        in (
          gives_has p m test refl fits.0 (front_of (depth_in test p 0) f0 p m q (omega (arith, end))
              agree) at,
          at,
          code_has n q first (omega (arith, end)) fits.1 h1 exit,
        )
    code_has p q (Branch test first otherwise) end fits agree exit =
        let a = blocks.size test in
        let m = p + a in
        let n = p + (a + 5) in
        let k = p + (a + (5 + size first)) in
        let r = p + (a + (5 + (size first + 5))) in
        let f3 = code_depth otherwise r in
        let f2 = λ (x : ℕ). until r x 0 (f3 x) in
        let f1 = λ (x : ℕ). until k x (code_depth first n x) (f2 x) in
        let f0 = λ (x : ℕ). until n x 1 (f1 x) in
        let h0 = back_of (depth_in test p 0) f0 p m q (omega arith) agree in
        let h1 = back_of (λ x. 1) f1 m n q (omega arith) h0 in
        let h2 = back_of (code_depth first n) f2 n k q (omega arith) h1 in
        let h3 = back_of (λ x. 0) f3 k r q (omega arith) h2 in
        let at = front_of (λ x. 1) f1 m n q (omega (arith, end)) h0 m (omega arith) (omega arith) in
        let skip = front_of (λ x. 0) f3 k r q (omega (arith, end)) h2 k (omega arith)
        (omega arith) in (
          gives_has p m test refl fits.0 (front_of (depth_in test p 0) f0 p m q (omega (arith, end))
              agree) at,
          at,
          code_has n k first (omega arith) fits.1
              (front_of (code_depth first n) f2 n k q (omega (arith, end)) h1) skip,
          skip,
          code_has r q otherwise (omega (arith, end)) fits.2 h3 exit,
        )
    code_has p q (Loop front back_part body) end fits agree exit =
        let b = part_size back_part in
        let f = part_size front in
        let m = p + 10 in
        let n = p + (10 + b) in
        let k = p + (10 + (b + f)) in
        let r = p + (10 + (b + (f + size body))) in
        let f2 = λ (x : ℕ). until r x (code_depth body k x) 0 in
        let f1 = λ (x : ℕ). until k x (part_depth front n x) (f2 x) in
        let f0 = λ (x : ℕ). until n x (part_depth back_part m x) (f1 x) in
        let start = front_of (λ x. 0) f0 p m q (omega (arith, end)) agree in
        let h0 = back_of (λ x. 0) f0 p m q (omega arith) agree in
        let h1 = back_of (part_depth back_part m) f1 m n q (omega arith) h0 in
        let h2 = back_of (part_depth front n) f2 n k q (omega arith) h1 in
        let h3 = back_of (code_depth body k) (λ x. 0) k r q (omega arith) h2 in
        let again = h3 r (omega arith) (omega (arith, end)) in
        let three = code_has k r body (omega arith) fits.2
        (front_of (code_depth body k) (λ x. 0) k r q (omega (arith, end)) h2) again in
        let two = part_has n k front (omega arith) fits.0
        (front_of (part_depth front n) f2 n k q (omega (arith, end)) h1)
        (code_front k body three) in (
          start p (omega arith) (omega arith),
          start (p + 5) (omega arith) (omega arith),
          part_has m n back_part (omega arith) fits.1
              (front_of (part_depth back_part m) f1 m n q (omega (arith, end)) h0)
              (part_front n front two),
          two,
          three,
          again,
        )
    code_has p q (Switch on arms) end fits agree exit =
        let a = blocks.size on in
        let b = arms_size arms in
        let t = tests_size arms in
        let m = p + a in
        let n = p + (a + 5) in
        let k = p + (a + 10) in
        let r = p + (a + (10 + b)) in
        let s = p + (a + (10 + (b + 5))) in
        let u = p + (a + (10 + (b + (5 + (t + 1))))) in
        let f4 = λ (x : ℕ). until u x 1 0 in
        let f3 = λ (x : ℕ). until s x 0 (f4 x) in
        let f2 = λ (x : ℕ). until r x (arms_depth arms k x) (f3 x) in
        let f1 = λ (x : ℕ). until k x 0 (f2 x) in
        let f0 = λ (x : ℕ). until n x 1 (f1 x) in
        let h0 = back_of (depth_in on p 0) f0 p m q (omega arith) agree in
        let h1 = back_of (λ x. 1) f1 m n q (omega arith) h0 in
        let h2 = back_of (λ x. 0) f2 n k q (omega arith) h1 in
        let h3 = back_of (arms_depth arms k) f3 k r q (omega arith) h2 in
        let h4 = back_of (λ x. 0) f4 r s q (omega arith) h3 in
        let at = front_of (λ x. 1) f1 m n q (omega (arith, end)) h0 m (omega arith) (omega arith) in
        let leave = front_of (λ x. 0) f4 r s q (omega (arith, end)) h3 r (omega arith)
        (omega arith) in (
          gives_has p m on refl fits.0 (front_of (depth_in on p 0) f0 p m q (omega (arith, end))
              agree) at,
          at,
          front_of (λ x. 0) f2 n k q (omega (arith, end)) h1 n (omega arith) (omega arith),
          arms_have k r arms (omega arith) fits.1
              (front_of (arms_depth arms k) f3 k r q (omega (arith, end)) h2) leave,
          leave,
          front_of (λ x. 1) (λ x. 0) s u q (omega (arith, end)) h4,
          back_of (λ x. 1) (λ x. 0) s u q (omega arith) h4 u (omega arith) (omega (arith, end)),
        )
    code_has p q _ end fits agree exit = agree p (omega arith) (omega (arith, end))

    arms_have : (p q : ℕ) (arms : Arms) → p + arms_size arms ≡ q → FitArms Rests Gives arms
        → Agree (arms_depth arms p) p q → depth q ≡ 0 → HasArms p arms
    arms_have p q Nil end fits agree exit = ap depth (omega (arith, end)) ∙ exit
    arms_have p q (Statement first rest) end fits agree exit =
        let m = p + size first in
        let f = code_depth first p in
        let g = arms_depth rest m in
        let two = arms_have m q rest (omega (arith, end)) fits.1
        (back_of f g p m q (omega arith) agree) exit in (
          code_has p m first refl fits.0 (front_of f g p m q (omega (arith, end)) agree)
              (arms_front m rest two),
          two,
        )
    arms_have p q (Case label rest) end fits agree exit = arms_have p q rest end fits agree exit
    arms_have p q (Default rest) end fits agree exit = arms_have p q rest end fits agree exit
