-- What the code of a block results in, followed from the place where it is.
use Rattle.std.proofs.Common.{◌≡◌, refl, ap, subst, ◌∙◌, ℕ, suc, ◌+◌, ◌-◌, Bool, true, false, ℤ, List, [], ◌∷◌, ◌++◌, length, Option, Some, None, Result, Ok, Err, arith}
use Rattle.std.specs.Prelude.{option_map, if◌then◌else◌}
use Rattle.std.specs.Ordering.{int_eq}
use Rattle.edd_syntax.specs.declared.answer.Trap.{Trap}
use Rattle.edd_syntax.specs.Elements.{element_value}
use Rattle.edd_syntax.specs.TwosComplement.{operate, is_zero}
use Rattle.edd_instructions.specs.declared.records.Record.{Record}
use Rattle.edd_instructions.specs.declared.records.Emitted.TheVariants as emitted
use Rattle.edd_instructions.specs.declared.records.Status.TheVariants.{Trapped}
use Rattle.edd_instructions.specs.declared.instruction.Instruction.{Instruction}
use Rattle.edd_instructions.specs.declared.instruction.Instruction.TheVariants as instruction
use Rattle.edd_instructions.specs.Decoding.{instruction_at}
use Rattle.edd_instructions.specs.Spelling.{spelling}
use Rattle.edd_instructions.specs.Steps.{State, Environment, act, step, give, go, stop, push_or_trap}
use Rattle.edd_instructions.specs.Reading.{given_within, with_record}
use Rattle.edd_instructions.specs.Units.{Placed}
use Rattle.edd_code.specs.Blocks.{Block, Nothing, Straight, Then, WhenNotZero, WhenZero, Either, Match, size}
use Rattle.edd_code.specs.Flow.{Flows, depth_after, is_straight}
use Rattle.edd_code.specs.Outcomes.{Outcome, Goes, Traps, Stuck, after_records, and_then, at, outcome_of, does_one, does}
use Rattle.edd_code.proofs.BlockPlaces.{stand, AllIn}

-- ---- what comes of so many steps

abbrev pub Given : Type 0
Given = Option (Result (List Record) Trap)

abbrev pub with_first : Record → Given → Given
with_first r given = option_map (with_record (emitted.Record r)) given

-- these records, and then what is given
abbrev pub with_all : List Record → Given → Given
with_all [] given = given
with_all (r ∷ rs) given = with_first r (with_all rs given)

pub with_all-ok : (rs : List Record) → with_all rs (Some (Ok [])) ≡ Some (Ok rs)
with_all-ok [] = refl
with_all-ok (r ∷ rs) = ap (with_first r) (with_all-ok rs)

with_all-err : (rs : List Record) (why : Trap) → with_all rs (Some (Err why)) ≡ Some (Err why)
with_all-err [] why = refl
with_all-err (r ∷ rs) why = ap (with_first r) (with_all-err rs why)

with_all-append : (rs ss : List Record) (given : Given) → with_all rs (with_all ss given)
    ≡ with_all (rs ++ ss) given
with_all-append [] ss given = refl
with_all-append (r ∷ rs) ss given = ap (with_first r) (with_all-append rs ss given)

quiet : (given : Given) → option_map (with_record emitted.Nothing) given ≡ given
quiet None = refl
quiet (Some given) = refl

module _ (env : Environment) (code : List ℕ) (values : List ℤ) where
  -- what is given within so many steps from a place with these operands
  abbrev pub given_at : (n place : ℕ) → (operands : List ℤ) → Given
  given_at n p operands = given_within n env (at code p operands values)

  -- from a place with these operands the run goes on to another place, after the records and with
  -- the operands of the outcome
  abbrev pub Comes : (from to : ℕ) (operands : List ℤ) → Outcome → Type 0
  Comes p q operands (Goes rs left) = (k : ℕ)
      → (n : ℕ) × (given_at n p operands ≡ with_all rs (given_at k q left))
  Comes p q operands (Traps why) = (n : ℕ) × (given_at n p operands ≡ Some (Err why))
  Comes p q operands Stuck = Unit {0}

  -- ---- one step

  abbrev Quietly : (p q : ℕ) (operands left : List ℤ) → Type 0
  Quietly p q operands left = (k : ℕ) → given_at (suc k) p operands ≡ given_at k q left

  quiet_step : (p : ℕ) {next : ℕ} (to : ℕ) (operands left : List ℤ) {i : Instruction}
      → instruction_at code p ≡ Some (i, next) → act env i next (at code p operands values)
      ≡ go (at code p operands values) to left → Quietly p to operands left
  unfolding given_within step
  quiet_step p to operands left stands acts k = rw (stands, acts) (quiet _)

  record_step : (p next : ℕ) (operands left : List ℤ) (i : Instruction) (r : Record)
      → instruction_at code p ≡ Some (i, next)
      → act env i next (at code p operands values) ≡ give (at code p operands values) next left r
      → (k : ℕ) → given_at (suc k) p operands ≡ with_first r (given_at k next left)
  unfolding given_within step
  record_step p next operands left i r stands acts k = rw (stands, acts) refl

  trap_step : (p next : ℕ) (operands left : List ℤ) (i : Instruction) (why : Trap)
      → instruction_at code p ≡ Some (i, next)
      → act env i next (at code p operands values)
      ≡ stop (record (at code p operands values) { operands = left }) (Trapped why)
      → given_at 1 p operands ≡ Some (Err why)
  unfolding given_within step
  trap_step p next operands left i why stands acts = rw (stands, acts) refl

  pub end_step : (p : ℕ) {next : ℕ} → instruction_at code p ≡ Some (instruction.End, next)
      → given_at 1 p [] ≡ Some (Ok [])
  unfolding given_within step act
  end_step p stands = rw stands refl

  -- ---- a straight instruction

  quiet_comes : (p : ℕ) {next : ℕ} (operands left : List ℤ) {i : Instruction}
      → instruction_at code p ≡ Some (i, next) → act env i next (at code p operands values)
      ≡ go (at code p operands values) next left → Comes p next operands (Goes [] left)
  quiet_comes p {next} operands left {i} stands acts k =
      (suc k, quiet_step p next operands left stands acts k)

  record_comes : (p : ℕ) {next : ℕ} (operands left : List ℤ) {i : Instruction} (r : Record)
      → instruction_at code p ≡ Some (i, next) → act env i next (at code p operands values)
      ≡ give (at code p operands values) next left r → Comes p next operands (Goes (r ∷ []) left)
  record_comes p {next} operands left {i} r stands acts k =
      (suc k, record_step p next operands left i r stands acts k)

  push_comes : (p next : ℕ) (operands left : List ℤ) {i : Instruction} (z : Result ℤ Trap)
      → instruction_at code p ≡ Some (i, next) → act env i next (at code p operands values)
      ≡ push_or_trap (at code p operands values) next left z
      → Comes p next operands (outcome_of (push_or_trap (at [] 0 operands values) 0 left z))
  push_comes p next operands left {i} (Ok z) stands acts =
      quiet_comes p operands (z ∷ left) stands acts
  push_comes p next operands left {i} (Err why) stands acts =
      (1, trap_step p next operands left i why stands acts)

  -- it goes on as it does anywhere
  straight_comes : (p : ℕ) {next : ℕ} (i : Instruction) (operands : List ℤ)
      → instruction_at code p ≡ Some (i, next) → is_straight i ≡ true
      → Comes p next operands (does_one env values i operands)
  unfolding act
  straight_comes p instruction.End operands stands h = absurd (cc h)
  straight_comes p {next} (instruction.Push n) operands stands h =
      quiet_comes p operands _ stands refl
  straight_comes p {next} (instruction.Variable v) operands stands h =
      quiet_comes p operands _ stands refl
  straight_comes p (instruction.Store v) operands stands h = absurd (cc h)
  straight_comes p (instruction.GetLocal slot) operands stands h = absurd (cc h)
  straight_comes p (instruction.SetLocal slot) operands stands h = absurd (cc h)
  straight_comes p instruction.Pop [] stands h = tt
  straight_comes p {next} instruction.Pop (a ∷ below) stands h =
      quiet_comes p (a ∷ below) _ stands refl
  straight_comes p instruction.Duplicate [] stands h = tt
  straight_comes p {next} instruction.Duplicate (a ∷ below) stands h =
      quiet_comes p (a ∷ below) _ stands refl
  straight_comes p (instruction.ReadElement array) [] stands h = tt
  straight_comes p {next} (instruction.ReadElement array) (a ∷ below) stands h =
      push_comes p next (a ∷ below) below (element_value env.elements 64 values array a) stands refl
  straight_comes p (instruction.Operate op) [] stands h = tt
  straight_comes p (instruction.Operate op) (b ∷ []) stands h = tt
  straight_comes p {next} (instruction.Operate op) (b ∷ (a ∷ below)) stands h =
      push_comes p next (b ∷ (a ∷ below)) below (operate 64 op a b) stands refl
  straight_comes p (instruction.Compare op) [] stands h = tt
  straight_comes p (instruction.Compare op) (b ∷ []) stands h = tt
  straight_comes p {next} (instruction.Compare op) (b ∷ (a ∷ below)) stands h =
      quiet_comes p (b ∷ (a ∷ below)) _ stands refl
  straight_comes p instruction.Negate [] stands h = tt
  straight_comes p {next} instruction.Negate (a ∷ below) stands h =
      quiet_comes p (a ∷ below) _ stands refl
  straight_comes p instruction.Not [] stands h = tt
  straight_comes p {next} instruction.Not (a ∷ below) stands h =
      quiet_comes p (a ∷ below) _ stands refl
  straight_comes p instruction.Complement [] stands h = tt
  straight_comes p {next} instruction.Complement (a ∷ below) stands h =
      quiet_comes p (a ∷ below) _ stands refl
  straight_comes p (instruction.Jump to) operands stands h = absurd (cc h)
  straight_comes p (instruction.JumpIfZero to) operands stands h = absurd (cc h)
  straight_comes p (instruction.JumpIfNotZero to) operands stands h = absurd (cc h)
  straight_comes p (instruction.Case label to) operands stands h = absurd (cc h)
  straight_comes p {next} (instruction.Text s) operands stands h =
      record_comes p operands operands _ stands refl
  straight_comes p instruction.Number [] stands h = tt
  straight_comes p {next} instruction.Number (a ∷ below) stands h =
      record_comes p (a ∷ below) below _ stands refl
  straight_comes p {next} (instruction.Item item quals) operands stands h =
      record_comes p operands operands _ stands refl
  straight_comes p {next} (instruction.DataConst n) operands stands h =
      record_comes p operands operands _ stands refl
  straight_comes p {next} (instruction.DataVar v mask quals) operands stands h =
      record_comes p operands operands _ stands refl
  straight_comes p {next} (instruction.Enumerator n text help) operands stands h =
      record_comes p operands operands _ stands refl
  straight_comes p {next} (instruction.Response n class text) operands stands h =
      record_comes p operands operands _ stands refl
  straight_comes p {next} (instruction.Member name item label help) operands stands h =
      record_comes p operands operands _ stands refl
  straight_comes p {next} (instruction.Element n v label help) operands stands h =
      record_comes p operands operands _ stands refl
  straight_comes p (instruction.Ask request) operands stands h = absurd (cc h)
  straight_comes p instruction.Abort operands stands h = absurd (cc h)
  straight_comes p (instruction.AddAbortMethod m) operands stands h = absurd (cc h)

  -- ---- parts of a run

  behind_comes : (p m q : ℕ) (operands left : List ℤ) (rs : List Record) (o : Outcome)
      → Comes p m operands (Goes rs left) → Comes m q left o
      → Comes p q operands (after_records rs o)
  behind_comes p m q operands left rs (Goes ss rest) first second = λ k.
      let two = second k in
      let one = first two.0 in
      (one.0, one.1 ∙ ap (with_all rs) two.1 ∙ with_all-append rs ss (given_at k q rest))
  behind_comes p m q operands left rs (Traps why) first second =
      let one = first second.0 in
      (one.0, one.1 ∙ ap (with_all rs) second.1 ∙ with_all-err rs why)
  behind_comes p m q operands left rs Stuck first second = tt

  then_comes : (p m q : ℕ) (operands : List ℤ) (o : Outcome) (next : List ℤ → Outcome)
      → Comes p m operands o → ((left : List ℤ) → Comes m q left (next left))
      → Comes p q operands (and_then o next)
  then_comes p m q operands (Goes rs left) next first second = behind_comes p m q operands left rs
      (next left) first (second left)
  then_comes p m q operands (Traps why) next first second = first
  then_comes p m q operands Stuck next first second = tt

  -- a step that gives nothing, before and after
  after_step : (p m q : ℕ) (operands left : List ℤ) (o : Outcome) → Quietly p m operands left
      → Comes m q left o → Comes p q operands o
  after_step p m q operands left (Goes rs rest) goes comes = λ k. let c =
      comes k in (suc c.0, goes c.0 ∙ c.1)
  after_step p m q operands left (Traps why) goes comes = (suc comes.0, goes comes.0 ∙ comes.1)
  after_step p m q operands left Stuck goes comes = tt

  before_step : (p m q : ℕ) (operands : List ℤ) (o : Outcome)
      → ((left : List ℤ) → Quietly m q left left) → Comes p m operands o → Comes p q operands o
  before_step p m q operands (Goes rs left) goes comes = λ k. let c =
      comes (suc k) in (c.0, c.1 ∙ ap (with_all rs) (goes left k))
  before_step p m q operands (Traps why) goes comes = comes
  before_step p m q operands Stuck goes comes = tt

  stays : (q : ℕ) (left : List ℤ) → Comes q q left (Goes [] left)
  stays q left k = (k, refl)

  -- a test goes on at one of two places
  test_comes : (b : Bool) (p : ℕ) {next : ℕ} (there here q : ℕ) (operands on_there on_here : List ℤ)
      {i : Instruction} (first second : Outcome) → instruction_at code p ≡ Some (i, next)
      → act env i next (at code p operands values) ≡ (if b then go (at code p operands values) there
      on_there else go (at code p operands values) here on_here) → Comes there q on_there first
      → Comes here q on_here second
      → Comes p q operands (elim b as (λ _. Outcome) [ true ↦ first | false ↦ second ])
  test_comes true p {next} there here q operands on_there on_here {i} first second stands acts one
      two =
      after_step p there q operands on_there first
      (quiet_step p there operands on_there stands acts) one
  test_comes false p {next} there here q operands on_there on_here {i} first second stands acts one
      two = after_step p here q operands on_here second
      (quiet_step p here operands on_here stands acts) two

  one_of : (b : Bool) (s : State) (there here : ℕ) (below : List ℤ)
      → go s (if b then there else here) below ≡ (if b then go s there below else go s here below)
  one_of true s there here below = refl
  one_of false s there here below = refl

  -- ---- a block

  abbrev pub IsRead : Placed → Type 0
  IsRead x = instruction_at code x.place ≡ Some (x.instruction, x.next)

  jumps : (p q next : ℕ) → IsRead (stand p (instruction.Jump q) next) → (left : List ℤ)
      → Quietly p q left left
  unfolding act
  jumps p q next read left = quiet_step p q left left read refl

  ends_at : (p : ℕ) {q : ℕ} (r : ℕ) (operands : List ℤ) (o : Outcome) → q ≡ r → Comes p q operands o
      → Comes p r operands o
  ends_at p r operands o same comes = subst (λ (x : ℕ). Comes p x operands o) same comes

  pub block_comes : (p d : ℕ) (b : Block) → Flows b d → AllIn IsRead p b → (operands : List ℤ)
      → Comes p (p + size b) operands (does env values b operands)
  unfolding does act
  block_comes p d Nothing flows read operands =
      ends_at p (p + 0) operands (Goes [] operands) (omega arith) (stays p operands)
  block_comes p d (Straight i) flows read operands = straight_comes p i operands read flows.0
  block_comes p d (Then first second) flows read operands =
      then_comes p (p + size first) (p + (size first + size second)) operands
      (does env values first operands) (does env values second)
      (block_comes p d first flows.0 read.0 operands) (λ left. ends_at (p + size first) (p
      + (size first + size second)) left (does env values second left) (omega arith)
      (block_comes (p + size first) (depth_after first d) second flows.1 read.1 left))
  block_comes p d (WhenNotZero body) flows read [] = tt
  block_comes p d (WhenNotZero body) flows read (a ∷ below) =
      let q = p + (5 + size body) in
      test_comes (is_zero a) p q (p + 5) q (a ∷ below) below below (Goes [] below) (does env values
      body below) read.0 (one_of (is_zero a) (at code p (a ∷ below) values) q (p + 5) below)
      (stays q below) (ends_at (p + 5) q below (does env values body below) (omega arith)
      (block_comes (p + 5) (d - 1) body flows.2 read.1 below))
  block_comes p d (WhenZero body) flows read [] = tt
  block_comes p d (WhenZero body) flows read (a ∷ below) =
      let q = p + (5 + size body) in
      test_comes (is_zero a) p (p + 5) q q (a ∷ below) below below (does env values body below)
      (Goes [] below) read.0 (one_of (is_zero a) (at code p (a ∷ below) values) (p + 5) q below)
      (ends_at (p + 5) q below (does env values body below) (omega arith)
      (block_comes (p + 5) (d - 1) body flows.2 read.1 below)) (stays q below)
  block_comes p d (Either first otherwise) flows read [] = tt
  block_comes p d (Either first otherwise) flows read (a ∷ below) =
      let m = p + (5 + size first) in
      let r = p + (5 + (size first + 5)) in
      let q = p + (5 + (size first + (5 + size otherwise))) in
      test_comes (is_zero a) p r (p + 5) q (a ∷ below) below below (does env values otherwise below)
      (does env values first below) read.0 (one_of (is_zero a) (at code p (a ∷ below) values) r (p
      + 5) below) (ends_at r q below (does env values otherwise below) (omega arith)
      (block_comes r (d - 1) otherwise flows.3 read.3 below)) (before_step (p + 5) m q below
      (does env values first below) (jumps m q r read.2) (ends_at (p + 5) m below (does env values
      first below) (omega arith) (block_comes (p + 5) (d - 1) first flows.2 read.1 below)))
  block_comes p d (Match label body rest) flows read [] = tt
  block_comes p d (Match label body rest) flows read (a ∷ below) =
      let m = p + (13 + size rest) in
      let r = p + (13 + (size rest + 5)) in
      let q = p + (13 + (size rest + (5 + size body))) in
      test_comes (int_eq a label) p r (p + 13) q (a ∷ below) below (a ∷ below)
      (does env values body below) (does env values rest (a ∷ below)) read.0 refl (ends_at r q below
      (does env values body below) (omega arith) (block_comes r (d - 1) body flows.2 read.3 below))
      (before_step (p + 13) m q (a ∷ below) (does env values rest (a ∷ below)) (jumps m q r read.2)
      (ends_at (p + 13) m (a ∷ below) (does env values rest (a ∷ below)) (omega arith)
      (block_comes (p + 13) d rest flows.3 read.1 (a ∷ below))))
