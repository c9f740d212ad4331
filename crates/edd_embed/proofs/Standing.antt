-- What the numbers of a session stand for, and what makes them one.
use Rattle.std.proofs.Common.{◌≡◌, ◌≤◌, ℕ, ℤ, pos, Bool, true, false, cond, List, [], length, take, replicate, Option, Some, None, refl, sym, ap, subst, ◌∙◌}
use Rattle.std.specs.Prelude.{reverse}
use Rattle.std.specs.List.{AllByRecursion}
use Rattle.std.proofs.lemmas.Bool.{le-leb}
use Rattle.std.proofs.lemmas.List.{length-replicate, reverse-reverse}
use Rattle.edd_syntax.specs.declared.numbers.MethNo.{MethNo}
use Rattle.edd_image.specs.Front.{◌>>=◌}
use Rattle.edd_image.specs.Contents.{AttributeFields, Contents, contents_in}
use Rattle.edd_instructions.specs.declared.requests.Request.TheVariants as requests
use Rattle.edd_instructions.specs.declared.records.Status.{Status}
use Rattle.edd_instructions.specs.declared.records.Status.TheVariants as status
use Rattle.edd_instructions.specs.declared.unit.Context.{Context}
use Rattle.edd_instructions.specs.declared.unit.Sort.{Sort}
use Rattle.edd_instructions.specs.declared.unit.Sort.TheVariants.{Method}
use Rattle.edd_instructions.specs.Reading.{body_of, environment_of}
use Rattle.edd_instructions.specs.Steps.{Fits, IsState, RunningUnit, State, opening}
use Rattle.edd_instructions.specs.Validity.{IsValid, placed_unit, slots_of, sort_of}
use Rattle.edd_syntax.specs.declared.answer.Trap.TheVariants as trap
use Rattle.edd_machine.specs.declared.code_unit.CodeUnit.{CodeUnit}
use Rattle.edd_machine.specs.declared.machine.Machine.{Machine}
use Rattle.edd_machine.specs.Running.{IsMachine, IsUnitOf, running_unit, state_of, unit_at}
use Rattle.edd_machine.specs.AbortLists.{methods_of}
use Rattle.edd_port.specs.Runs.{IsRun}
use Rattle.edd_port.specs.Turns.{turn_of}
use Rattle.edd_embed.specs.declared.sessions.PlainSession.{PlainSession}
use Rattle.edd_embed.specs.Sessions.{IsOpened, IsPlain, IsSession, counts_fit, flag_from, plain_turn, state_at, state_in, status_from}
use Rattle.edd_port.proofs.MethodBodies.{body_found}

-- ---- the tags

-- a status is read as it was written
pub status_back : (st : Status) → status_from (plain_turn (turn_of st)) ≡ Some st
status_back status.Running = refl
status_back (status.Asking (requests.PutMessage t)) = refl
status_back (status.Asking _) = refl
status_back status.Ended = refl
status_back status.Aborted = refl
status_back (status.Trapped trap.DivZero) = refl
status_back (status.Trapped _) = refl

-- ---- machines

abbrev context_by : Contents → Sort → ℕ → Context
context_by c sort slots =
    record { version = c.version; counts = c.counts; sort = sort; slots = slots }

-- where the state of a machine is one of a run, it is one of the machine's own unit
pub machine_of_run : (b : List ℕ) (m : Machine) (values : List ℤ) → IsUnitOf b m.unit
    → length m.slots.items ≡ m.unit.slots → IsRun b (state_of b m values) → IsMachine b m values
machine_of_run b m values unit count run =
    let c = contents_in b in
    let other = run.state.unit.row in
    let same_sort : sort_of other ≡ sort_of unit.row = sym run.state.state.sort
    ∙ ap (λ (u : CodeUnit). u.sort) unit.unit in
    let same_slots : slots_of other ≡ slots_of unit.row = sym run.state.state.slot_count ∙ count
    ∙ ap (λ (u : CodeUnit). u.slots) unit.unit in
    let same : (placed_unit c other).context ≡ (placed_unit c unit.row).context =
    ap (λ (so : Sort). context_by c so (slots_of other)) same_sort
    ∙ ap (λ (n : ℕ). context_by c (sort_of unit.row) n) same_slots in
    record {
      unit = unit;
      runs = refl;
      state = subst (λ (x : Context). IsState x (environment_of c) (state_of b m values)) same
          run.state.state;
    }

-- ---- what is written

module _ (values : List ℤ) (st : Status) (is_aborting : Bool) where
  abbrev state_with : RunningUnit → ℕ → (operands slots : List ℤ) → List MethNo → State
  state_with unit place operands slots methods = record {
    unit = unit;
    place = place;
    operands = operands;
    slots = slots;
    values = values;
    status = st;
    abort_methods = methods;
    is_aborting = is_aborting;
  }

  same_state : (u v : RunningUnit) (p q : ℕ) (xs ys : List ℤ) (ss ts : List ℤ)
      (ms ns : List MethNo) → u ≡ v → p ≡ q → xs ≡ ys → ss ≡ ts → ms ≡ ns
      → state_with u p xs ss ms ≡ state_with v q ys ts ns
  same_state u v p q xs ys ss ts ms ns e f g h i =
      ap (λ (x : RunningUnit). state_with x p xs ss ms) e
      ∙ (ap (λ (x : ℕ). state_with v x xs ss ms) f
      ∙ (ap (λ (x : List ℤ). state_with v q x ss ms) g
      ∙ (ap (λ (x : List ℤ). state_with v q ys x ms) h
      ∙ ap (λ (x : List MethNo). state_with v q ys ts x) i)))

bound : {A B : Type 0} (o : Option A) (x : A) (f : A → Option B) → o ≡ Some x → (o >>= f) ≡ f x
bound o x f e = ap (λ (y : Option _). y >>= f) e

-- the numbers are those of the machine
pub record Writes (p : PlainSession) (m : Machine) : Type 0 where
  pub method : p.method ≡ m.unit.item
  pub place : p.place ≡ m.place
  pub operands : take p.operand_count p.operands ≡ reverse m.operands
  pub operand_count : p.operand_count ≤ 128
  pub slots : take m.unit.slots p.slots ≡ m.slots.items
  pub methods : methods_of (take p.abort_count p.abort_methods) ≡ m.abort_methods
  pub abort_count : p.abort_count ≤ 8
  pub aborting : flag_from p.is_aborting ≡ Some m.is_aborting
  pub turn : p.turn ≡ plain_turn (turn_of m.status)

-- they stand for its state
pub written : (b : List ℕ) (p : PlainSession) (m : Machine) (values : List ℤ) → Writes p m
    → (row : AttributeFields) → body_of (contents_in b) (record { 0 = m.unit.item }) ≡ Some row
    → m.unit ≡ unit_at b row → state_in b p values ≡ Some (state_of b m values)
written b p m values w row found unit =
    let there : body_of (contents_in b) (record { 0 = p.method }) ≡ Some row =
    ap (λ (n : ℕ). body_of (contents_in b) (record { 0 = n })) w.method ∙ found in
    let shown : status_from p.turn ≡ Some m.status = ap status_from w.turn
    ∙ status_back m.status in
    let fit : counts_fit p ≡ true = rw (le-leb p.operand_count 128 w.operand_count) (le-leb p.abort_count 8 w.abort_count) in
    let operands : reverse (take p.operand_count p.operands) ≡ m.operands =
    ap reverse w.operands ∙ reverse-reverse m.operands in
    let slots : take (unit_at b row).slots p.slots ≡ m.slots.items =
    ap (λ (u : CodeUnit). take u.slots p.slots) (sym unit) ∙ w.slots in
    let state : state_at b p values row m.status m.is_aborting ≡ state_of b m values =
    same_state values m.status m.is_aborting (running_unit b (unit_at b row))
    (running_unit b m.unit) p.place m.place (reverse (take p.operand_count p.operands))
    m.operands (take (unit_at b row).slots p.slots) m.slots.items
    (methods_of (take p.abort_count p.abort_methods)) m.abort_methods
    (ap (running_unit b) (sym unit)) w.place operands slots w.methods in
    bound (body_of (contents_in b) (record { 0 = p.method })) row _ there
    ∙ (bound (status_from p.turn) m.status _ shown
    ∙ (bound (flag_from p.is_aborting) m.is_aborting _ w.aborting
    ∙ (ap (λ (test : Bool). cond test
    (Some (state_at b p values row m.status m.is_aborting)) None) fit
    ∙ ap (λ (s : State). Some s) state)))

-- numbers at the start of a unit stand for its opening
pub begins : (b : List ℕ) (p : PlainSession) (values : List ℤ) (row : AttributeFields)
    → body_of (contents_in b) (record { 0 = p.method }) ≡ Some row → p.place ≡ 0
    → p.operand_count ≡ 0 → p.abort_count ≡ 0 → p.is_aborting ≡ 0
    → p.turn ≡ plain_turn (turn_of status.Running)
    → take (unit_at b row).slots p.slots ≡ replicate (unit_at b row).slots (pos 0)
    → state_in b p values
    ≡ Some (opening (running_unit b (unit_at b row)) (unit_at b row).slots values)
begins b p values row found place operands methods aborting shown slots =
    let flag : flag_from p.is_aborting ≡ Some false = ap flag_from aborting in
    let fit : counts_fit p ≡ true = rw (operands, methods) refl in
    let state : state_at b p values row status.Running false
    ≡ opening (running_unit b (unit_at b row)) (unit_at b row).slots values =
    same_state values status.Running false (running_unit b (unit_at b row))
    (running_unit b (unit_at b row)) p.place 0 (reverse (take p.operand_count p.operands)) []
    (take (unit_at b row).slots p.slots) (replicate (unit_at b row).slots (pos 0))
    (methods_of (take p.abort_count p.abort_methods)) [] refl place
    (ap (λ (n : ℕ). reverse (take n p.operands)) operands) slots
    (ap (λ (n : ℕ). methods_of (take n p.abort_methods)) methods) in
    bound (body_of (contents_in b) (record { 0 = p.method })) row _ found
    ∙ (bound (status_from p.turn) status.Running _ (ap status_from shown)
    ∙ (bound (flag_from p.is_aborting) false _ flag
    ∙ (ap (λ (test : Bool). cond test (Some (state_at b p values row status.Running false)) None)
    fit
    ∙ ap (λ (s : State). Some s) state)))

-- a machine that was opened on a unit is at its start
pub opened_by : (u : CodeUnit) (m : Machine) → m.unit ≡ u
    → ((b : List ℕ) (values : List ℤ) → state_of b m values
    ≡ opening (running_unit b u) u.slots values) → IsOpened u m
opened_by u m unit state = record {
  unit = unit;
  operands = ap (λ (s : State). s.operands) (state [] []);
  slots = ap (λ (s : State). length s.slots) (state [] [])
      ∙ length-replicate u.slots (pos 0);
  methods = ap (λ (s : State). s.abort_methods) (state [] []);
}

module _ (b : List ℕ) (m : Machine) (values : List ℤ) where
  -- a machine's state is one of a run
  pub run_of_machine : IsValid b → IsMachine b m values → IsRun b (state_of b m values)
  run_of_machine valid is = record { valid = valid; unit = m.unit; state = is }

  -- numbers that stand for a machine's state are a session
  pub session_of_machine : (p : PlainSession) → IsValid b → IsMachine b m values
      → state_in b p values ≡ Some (state_of b m values) → IsSession b p values
  session_of_machine p valid is stands = record {
    state = state_of b m values;
    stands = stands;
    run = run_of_machine valid is;
  }

  -- and if they are a session, it is a machine's state
  pub machine_of_session : (p : PlainSession) → IsUnitOf b m.unit
      → length m.slots.items ≡ m.unit.slots
      → state_in b p values ≡ Some (state_of b m values) → IsSession b p values
      → IsMachine b m values
  machine_of_session p unit count stands is =
      let both : Some is.state ≡ Some (state_of b m values) = sym is.stands ∙ stands in
      let same : is.state ≡ state_of b m values = cc in
      machine_of_run b m values unit count (subst (IsRun b) same is.run)

  -- a machine of a method can be written down
  pub kept : IsMachine b m values → m.unit.sort ≡ Method → IsPlain m
  kept is sort =
      let unit = is.unit in
      let method : sort_of unit.row ≡ Method = sym (ap (λ (u : CodeUnit). u.sort) unit.unit)
      ∙ sort in
      record {
        operands = subst (λ (so : Sort). AllByRecursion (Fits so) m.operands) method
            is.state.operands;
        slots = subst (λ (so : Sort). AllByRecursion (Fits so) m.slots.items) method
            is.state.slots;
        slot_count = is.state.slot_count ∙ sym (ap (λ (u : CodeUnit). u.slots) unit.unit);
      }

  -- the row of its unit is that of the body of the method whose number it has
  pub record HasBody : Type 0 where
    pub row : AttributeFields
    pub found : body_of (contents_in b) (record { 0 = m.unit.item }) ≡ Some row
    pub unit : m.unit ≡ unit_at b row

  pub has_body : IsValid b → IsUnitOf b m.unit → m.unit.sort ≡ Method → HasBody
  has_body valid is sort =
      let method : sort_of is.row ≡ Method = sym (ap (λ (u : CodeUnit). u.sort) is.unit) ∙ sort in
      record {
        row = is.row;
        found = ap (λ (u : CodeUnit). body_of (contents_in b) (record { 0 = u.item })) is.unit
            ∙ body_found b is.number is.row valid is.stands method;
        unit = is.unit;
      }
