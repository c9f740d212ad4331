-- What the code of a block results in, in a method, followed from the place where it is.
use Rattle.std.proofs.Common.{◌≡◌, refl, subst, ◌∙◌, ℕ, suc, ◌+◌, Bool, true, false, ℤ, List, [], ◌∷◌, length, Some, arith, Option}
use Rattle.std.specs.Prelude.{if◌then◌else◌}
use Rattle.std.specs.Ordering.{int_eq}
use Rattle.edd_syntax.specs.declared.numbers.StrNo.{StrNo}
use Rattle.edd_syntax.specs.TwosComplement.{is_zero}
use Rattle.edd_syntax.specs.Words.{Words}
use Rattle.edd_syntax.specs.MethodState.{State}
use Rattle.edd_instructions.specs.declared.instruction.Instruction.{Instruction}
use Rattle.edd_instructions.specs.declared.instruction.Instruction.TheVariants as instruction
use Rattle.edd_instructions.specs.Decoding.{instruction_at}
use Rattle.edd_instructions.specs.Spelling.{spelling}
use Rattle.edd_instructions.specs.Steps as machine
use Rattle.edd_instructions.specs.Steps.{Environment, act, go}
use Rattle.edd_instructions.specs.Units.{Placed}
use Rattle.edd_code.specs.Blocks.{Block, Nothing, Straight, Then, WhenNotZero, WhenZero, Either, Match, size}
use Rattle.edd_code.proofs.BlockPlaces.{stand, AllIn}
use Rattle.edd_code.specs.BlockEffects as blocks
use Rattle.edd_code.specs.BlockEffects.{Outcome, Goes, Stops, Stuck, and_then}
use Rattle.edd_code.specs.Reports.{at}
use Rattle.edd_code.specs.MethodEffects.{Halted, does, CanBeTaken, Comes}
use Rattle.edd_code.proofs.MethodSteps.{Leads, quiet_leads}
use Rattle.edd_code.proofs.StraightRuns.{straight_comes}

-- an instruction is read where it is to be
abbrev pub IsRead : (code : List ℕ) → Placed → Type 0
IsRead code x = instruction_at code x.place ≡ Some (x.instruction, x.next)

module _ (text : StrNo → Option Words) (env : Environment) (code : List ℕ) where
  -- ---- parts of a run

  then_comes : (p m q : ℕ) (operands : List ℤ) (s : State) (o : Outcome State Halted) (next : List ℤ
      → State → Outcome State Halted) → Comes text env code p m operands s o
      → ((left : List ℤ) (t : State) → CanBeTaken env t.answers
      → Comes text env code m q left t (next left t))
      → Comes text env code p q operands s (and_then o next)
  then_comes p m q operands s (Goes left t) next first second =
      joined (next left t) (second left t first.0)
    where
      joined : (o : Outcome State Halted) → Comes text env code m q left t o
          → Comes text env code p q operands s o
      joined (Goes rest u) comes = (
        comes.0,
        λ k. let two = comes.1 k in let one = first.1
            two.0 in (one.0, omega (arith, one.1, two.1), one.2 ∙ two.2),
      )
      joined (Stops x) comes = λ k. let two = comes k in let one =
          first.1 two.0 in (one.0, omega (arith, one.1, two.1), one.2 ∙ two.2)
      joined Stuck comes = tt
  then_comes p m q operands s (Stops x) next first second = first
  then_comes p m q operands s Stuck next first second = tt

  -- a step before and after
  after_step : (p m q : ℕ) (operands left : List ℤ) (s : State) (o : Outcome State Halted)
      → Leads text env code p m operands left s s → Comes text env code m q left s o
      → Comes text env code p q operands s o
  after_step p m q operands left s (Goes rest t) leads comes =
      (comes.0, λ k. let c = comes.1 k in (suc c.0, omega (arith, c.1), leads c.0 ∙ c.2))
  after_step p m q operands left s (Stops x) leads comes = λ k. let c =
      comes k in (suc c.0, omega (arith, c.1), leads c.0 ∙ c.2)
  after_step p m q operands left s Stuck leads comes = tt

  before_step : (p m q : ℕ) (operands : List ℤ) (s : State) (o : Outcome State Halted)
      → ((left : List ℤ) (t : State) → Leads text env code m q left left t t)
      → Comes text env code p m operands s o → Comes text env code p q operands s o
  before_step p m q operands s (Goes left t) leads comes =
      (comes.0, λ k. let c = comes.1 (suc k) in (c.0, omega (arith, c.1), c.2 ∙ leads left t k))
  before_step p m q operands s (Stops x) leads comes = comes
  before_step p m q operands s Stuck leads comes = tt

  stays : (q : ℕ) (left : List ℤ) (s : State) → CanBeTaken env s.answers
      → Comes text env code q q left s (Goes left s)
  stays q left s valid = (valid, λ k. (k, omega arith, refl))

  -- an instruction that goes on at a place
  pub goes_to : (p next q : ℕ) (operands left : List ℤ) (s : State) (i : Instruction)
      → IsRead code (stand p i next)
      → act env i next (at code p operands s) ≡ go (at code p operands s) q left
      → Leads text env code p q operands left s s
  goes_to p next q operands left s i stands acts = quiet_leads text env code p q operands left s
      s.slots (record { instruction = i; next = next; stands = stands; acts = acts })

  -- a test goes on at one of two places
  test_comes : (b : Bool) (p next there here q : ℕ) (operands on_there on_here : List ℤ) (s : State)
      (i : Instruction) (first second : Outcome State Halted) → IsRead code (stand p i next)
      → act env i next (at code p operands s)
      ≡ (if b then go (at code p operands s) there on_there else go (at code p operands s) here
      on_here)
      → Comes text env code there q on_there s first → Comes text env code here q on_here s second
      → Comes text env code p q operands s (elim b as (λ _. Outcome State Halted) [
        | true ↦ first
        | false ↦ second
      ])
  test_comes true p next there here q operands on_there on_here s i first second stands acts one
      two = after_step p there q operands on_there s first
      (goes_to p next there operands on_there s i stands acts) one
  test_comes false p next there here q operands on_there on_here s i first second stands acts one
      two = after_step p here q operands on_here s second
      (goes_to p next here operands on_here s i stands acts) two

  pub one_of : (b : Bool) (s : machine.State) (there here : ℕ) (below : List ℤ)
      → go s (if b then there else here) below ≡ (if b then go s there below else go s here below)
  one_of true s there here below = refl
  one_of false s there here below = refl

  pub jumps : (p q next : ℕ) → IsRead code (stand p (instruction.Jump q) next)
      → (left : List ℤ) (s : State) → Leads text env code p q left left s s
  unfolding act
  jumps p q next read left s = goes_to p next q left left s (instruction.Jump q) read refl

  -- ---- a block

  ends_at : (p : ℕ) {q : ℕ} (r : ℕ) (operands : List ℤ) (s : State) (o : Outcome State Halted)
      → q ≡ r → Comes text env code p q operands s o → Comes text env code p r operands s o
  ends_at p r operands s o same comes =
      subst (λ (x : ℕ). Comes text env code p x operands s o) same comes

  pub block_comes : (p : ℕ) (b : Block) → AllIn (IsRead code) p b → (operands : List ℤ) (s : State)
      → CanBeTaken env s.answers
      → Comes text env code p (p + size b) operands s (does text env b operands s)
  unfolding blocks.does act
  block_comes p Nothing read operands s valid =
      ends_at p (p + 0) operands s (Goes operands s) (omega arith) (stays p operands s valid)
  block_comes p (Straight i) read operands s valid =
      straight_comes text env code p (p + length (spelling i)) s valid i operands read
  block_comes p (Then first second) read operands s valid =
      then_comes p (p + size first) (p + (size first + size second)) operands s (does text env first
      operands s) (does text env second) (block_comes p first read.0 operands s valid)
      (λ left t taken. ends_at (p + size first) (p + (size first + size second)) left t (does text
      env second left t) (omega arith) (block_comes (p + size first) second read.1 left t taken))
  block_comes p (WhenNotZero body) read [] s valid = tt
  block_comes p (WhenNotZero body) read (a ∷ below) s valid =
      let q = p + (5 + size body) in
      test_comes (is_zero a) p (p + 5) q (p + 5) q (a ∷ below) below below s (instruction.JumpIfZero
      q) (Goes below s) (does text env body below s) read.0 (one_of (is_zero a)
      (at code p (a ∷ below) s) q (p + 5) below) (stays q below s valid) (ends_at (p + 5) q below s
      (does text env body below s) (omega arith) (block_comes (p + 5) body read.1 below s valid))
  block_comes p (WhenZero body) read [] s valid = tt
  block_comes p (WhenZero body) read (a ∷ below) s valid =
      let q = p + (5 + size body) in
      test_comes (is_zero a) p (p + 5) (p + 5) q q (a
      ∷ below) below below s (instruction.JumpIfNotZero q) (does text env body below s)
      (Goes below s) read.0 (one_of (is_zero a) (at code p (a ∷ below) s) (p + 5) q below)
      (ends_at (p + 5) q below s (does text env body below s) (omega arith)
      (block_comes (p + 5) body read.1 below s valid)) (stays q below s valid)
  block_comes p (Either first otherwise) read [] s valid = tt
  block_comes p (Either first otherwise) read (a ∷ below) s valid =
      let m = p + (5 + size first) in
      let r = p + (5 + (size first + 5)) in
      let q = p + (5 + (size first + (5 + size otherwise))) in
      test_comes (is_zero a) p (p + 5) r (p + 5) q (a ∷ below) below below s (instruction.JumpIfZero
      r) (does text env otherwise below s) (does text env first below s) read.0 (one_of (is_zero a)
      (at code p (a ∷ below) s) r (p + 5) below) (ends_at r q below s (does text env otherwise below
      s) (omega arith) (block_comes r otherwise read.3 below s valid)) (before_step (p + 5) m q
      below s (does text env first below s) (jumps m q r read.2) (ends_at (p + 5) m below s
      (does text env first below s) (omega arith) (block_comes (p + 5) first read.1 below s valid)))
  block_comes p (Match label body rest) read [] s valid = tt
  block_comes p (Match label body rest) read (a ∷ below) s valid =
      let m = p + (13 + size rest) in
      let r = p + (13 + (size rest + 5)) in
      let q = p + (13 + (size rest + (5 + size body))) in
      test_comes (int_eq a label) p (p + 13) r (p + 13) q (a ∷ below) below (a ∷ below) s
      (instruction.Case label r) (does text env body below s) (does text env rest (a ∷ below) s)
      read.0 refl (ends_at r q below s (does text env body below s) (omega arith)
      (block_comes r body read.3 below s valid)) (before_step (p + 13) m q (a ∷ below) s (does text
      env rest (a ∷ below) s) (jumps m q r read.2) (ends_at (p + 13) m (a ∷ below) s (does text env
      rest (a ∷ below) s) (omega arith) (block_comes (p + 13) rest read.1 (a ∷ below) s valid)))
