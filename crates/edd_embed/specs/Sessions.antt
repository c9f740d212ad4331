-- A session as the plain numbers that a program in C keeps of it.
use Rattle.std.specs.Prelude.{◌≡◌, ◌<◌, ◌≤◌, ℕ, ◌+◌, ◌==◌, ℤ, Bool, true, false, ◌&&◌, if◌then◌else◌, List, [], length, take, reverse, Option, Some, None, option_map, nat_le}
use Rattle.std.specs.List.{AllByRecursion}
use Rattle.edd_syntax.specs.declared.answer.Trap.{Trap}
use Rattle.edd_syntax.specs.declared.answer.Trap.TheVariants as trap
use Rattle.edd_syntax.specs.Answers.{Answer}
use Rattle.edd_syntax.specs.declared.numbers.MethNo.{MethNo}
use Rattle.edd_syntax.specs.DeviceValues.{AreDeviceValues}
use Rattle.edd_image.specs.Contents.{AttributeFields, contents_in}
use Rattle.edd_image.specs.Front.{◌>>=◌}
use Rattle.edd_instructions.specs.declared.requests.Request.{Request}
use Rattle.edd_instructions.specs.Requests.{request_with}
use Rattle.edd_syntax.specs.Builtins.{request_from_number}
use Rattle.edd_syntax.specs.declared.operators.RequestKind.{RequestKind}
use Rattle.edd_syntax.specs.declared.operators.RequestKind.TheVariants as kind
use Rattle.edd_instructions.specs.declared.records.Status.{Status}
use Rattle.edd_instructions.specs.declared.records.Status.TheVariants as status
use Rattle.edd_instructions.specs.declared.unit.Sort.TheVariants.{Method}
use Rattle.edd_instructions.specs.AbortMethods.{answered_in}
use Rattle.edd_instructions.specs.Reading.{body_of}
use Rattle.edd_instructions.specs.Validity.{IsValid}
use Rattle.edd_instructions.specs.Steps.{Fits, State}
use Rattle.edd_machine.specs.declared.code_unit.CodeUnit.{CodeUnit}
use Rattle.edd_machine.specs.declared.machine.Machine.{Machine}
use Rattle.edd_machine.specs.AbortLists.{methods_of}
use Rattle.edd_machine.specs.Running.{IsUnitOf, running_unit, unit_at}
use Rattle.edd_machine.specs.Types.{types_in}
use Rattle.edd_port.specs.declared.turn.Turn.{Turn}
use Rattle.edd_port.specs.declared.turn.Turn.TheVariants as turn
use Rattle.edd_port.specs.Faults.{answer_fault_of}
use Rattle.edd_port.specs.Refusals.{CodeFits, refusal}
use Rattle.edd_port.specs.Runs.{Run, IsRun, OpensIn, advanced, counted}
use Rattle.edd_port.specs.Turns.{turn_of}
use Rattle.edd_embed.specs.declared.answers.Given.{Given}
use Rattle.edd_embed.specs.declared.answers.Setting.{Setting}
use Rattle.edd_embed.specs.declared.requests.PlainRequest.{PlainRequest}
use Rattle.edd_embed.specs.declared.sessions.Parts.{Parts}
use Rattle.edd_embed.specs.declared.sessions.PlainSession.{PlainSession}
use Rattle.edd_embed.specs.declared.turns.PlainTurn.{PlainTurn}
use Rattle.edd_embed.specs.declared.turns.SessionRefusal.{SessionRefusal}
use Rattle.edd_embed.specs.declared.turns.SessionRefusal.TheVariants.{NoSession, Refused, Settings}
use Rattle.edd_embed.specs.Playing.{answer_with, bare, plain_request, trap_number}

-- ---- what the tags stand for

-- the trap of a number
abbrev pub trap_from : ℕ → Option Trap
trap_from n =
    if n == 210 then Some trap.DivZero else
    if n == 211 then Some trap.DivOverflow else
    if n == 212 then Some trap.BadShift else
    if n == 213 then Some trap.NoElement else
    None

-- the last that a request in C names: its choices, if it has some, or its variable
abbrev pub last_name : RequestKind → PlainRequest → ℕ
last_name kind.SelectFromList r = r.choices
last_name _ r = r.variable

-- the request that is this one in C, where the tag is that of a request; the fields that are not of
-- its sort mean nothing
abbrev pub request_from : PlainRequest → Option Request
request_from r = option_map (λ kind. request_with kind r.text (last_name kind r) r.first r.second)
    (request_from_number r.tag)

-- The status that shows as this turn, where its numbers are known. The trap counts only where it
-- trapped, and the request only where one is pending.
abbrev pub status_from : PlainTurn → Option Status
status_from t =
    if t.turn == 0 then Some status.Ended else
    if t.turn == 1 then Some status.Aborted else
    if t.turn == 2 then option_map status.Trapped (trap_from t.trap) else
    if t.turn == 3 then option_map status.Asking (request_from t.request) else
    if t.turn == 4 then Some status.Running else
    None

-- 0 is false and 1 is true; no other number is a flag
abbrev pub flag_from : ℕ → Option Bool
flag_from n = if n == 0 then Some false else if n == 1 then Some true else None

-- ---- the state

-- there is room for as many operands and abort methods as there are said to be
abbrev pub counts_fit : PlainSession → Bool
counts_fit p = nat_le p.operand_count 128 && nat_le p.abort_count 8

-- the state of the unit of a row; operands stand with the lowest first, and what is past the counts
-- means nothing
abbrev pub state_at : List ℕ → PlainSession → (values : List ℤ) → AttributeFields → Status
    → (is_aborting : Bool) → State
state_at b p values row status is_aborting = record {
  unit = running_unit b (unit_at b row);
  place = p.place;
  operands = reverse (take p.operand_count p.operands);
  slots = take (unit_at b row).slots p.slots;
  values = values;
  status = status;
  abort_methods = methods_of (take p.abort_count p.abort_methods);
  is_aborting = is_aborting;
}

-- The state that the numbers stand for in an image under these values: none where there is no such
-- method, a tag is unknown, or a count is past its room.
abbrev pub state_in : List ℕ → PlainSession → (values : List ℤ) → Option State
state_in b p values = do
  row ← body_of (contents_in b) (record { 0 = p.method })
  status ← status_from p.turn
  is_aborting ← flag_from p.is_aborting
  if counts_fit p then Some (state_at b p values row status is_aborting) else None

-- The numbers stand for a state of a run of the image.
pub record IsSession (b : List ℕ) (p : PlainSession) (values : List ℤ) : Type 0 where
  pub state : State
  pub stands : state_in b p values ≡ Some state
  pub run : IsRun b state

-- that run
abbrev pub run_of : List ℕ → PlainSession → State → Run
run_of b p s = record { image = b; state = s; taken = p.taken }

-- the state by what was read of the tags and the place
abbrev pub state_of_parts : List ℕ → PlainSession → Parts → (values : List ℤ) → State
state_of_parts b p parts values = record {
  unit = running_unit b parts.unit;
  place = parts.place;
  operands = reverse (take p.operand_count p.operands);
  slots = take parts.unit.slots p.slots;
  values = values;
  status = parts.status;
  abort_methods = methods_of (take p.abort_count p.abort_methods);
  is_aborting = parts.is_aborting;
}

-- the numbers are those of a method of the image at some state, and this was read of them
pub record IsRead (b : List ℕ) (p : PlainSession) (parts : Parts) : Type 0 where
  pub valid : IsValid b
  pub unit : IsUnitOf b parts.unit
  pub sort : parts.unit.sort ≡ Method
  pub slots : parts.unit.slots ≤ 64
  pub operands : p.operand_count ≤ 128
  pub methods : p.abort_count ≤ 8
  pub stands : (values : List ℤ) → state_in b p values ≡ Some (state_of_parts b p parts values)

-- the machine is at the start of the unit
pub record IsOpened (u : CodeUnit) (m : Machine) : Type 0 where
  pub unit : m.unit ≡ u
  pub operands : m.operands ≡ []
  pub slots : length m.slots.items ≡ u.slots
  pub methods : m.abort_methods ≡ []

-- what a machine has that is written into a session: numbers of 32 bits, and as many slots as its
-- unit says
pub record IsPlain (m : Machine) : Type 0 where
  pub operands : AllByRecursion (Fits Method) m.operands
  pub slots : AllByRecursion (Fits Method) m.slots.items
  pub slot_count : length m.slots.items ≡ m.unit.slots

-- ---- where it is

-- the number of the ending that a turn shows
abbrev pub turn_number : Turn → ℕ
turn_number turn.Ended = 0
turn_number turn.Aborted = 1
turn_number (turn.Trapped why) = 2
turn_number (turn.Asks r) = 3
turn_number turn.Spent = 4

-- the number of the trap, or 0
abbrev pub turn_trap : Turn → ℕ
turn_trap (turn.Trapped why) = trap_number why
turn_trap _ = 0

-- the pending request, or one with the tag 0
abbrev pub turn_request : Turn → PlainRequest
turn_request (turn.Asks r) = plain_request r
turn_request _ = bare 0

-- a turn in C
abbrev pub plain_turn : Turn → PlainTurn
plain_turn t = record {
  request = turn_request t;
  trap = turn_trap t;
  turn = turn_number t;
}

-- ---- calls

-- A method was started under these values of a device: the session stands for its opening state.
pub record Starts (b : List ℕ) (method : MethNo) (values : List ℤ) (p : PlainSession)
    : Type 0 where
  pub state : State
  pub stands : state_in b p values ≡ Some state
  pub opens : OpensIn b method values state
  pub accepted : AreDeviceValues (types_in b) values
  pub taken : p.taken ≡ 0
  pub is : IsSession b p values

-- It was advanced by a budget: it and the values stand for where its run is then.
pub record Advances (b : List ℕ) (old : PlainSession) (values : List ℤ) (budget : ℕ)
    (new : PlainSession) (after : List ℤ) (shown : PlainTurn) : Type 0 where
  pub before : State
  pub stood : state_in b old values ≡ Some before
  pub run : IsRun b before
  pub stands : state_in b new after ≡ Some (advanced (run_of b old before) budget).state
  pub taken : new.taken ≡ counted (old.taken + (advanced (run_of b old before) budget).steps)
  pub turn : shown ≡ plain_turn
      (turn_of (advanced (run_of b old before) budget).state.status)
  pub is : IsSession b new after

-- The pending request was answered: it and the values stand for what the answer leads to.
pub record Answers (b : List ℕ) (old : PlainSession) (values : List ℤ) (answer : Answer)
    (new : PlainSession) (after : List ℤ) : Type 0 where
  pub before : State
  pub stood : state_in b old values ≡ Some before
  pub run : IsRun b before
  pub taken_up : refusal (types_in b) before.status answer ≡ None
  pub fits : CodeFits answer
  pub stands : state_in b new after ≡ Some (answered_in (contents_in b) before answer).state
  pub taken : new.taken ≡ old.taken
  pub is : IsSession b new after

-- the answer that is given with these settings, of which the first are its own
abbrev pub answer_given : Given → List Setting → Answer
answer_given g settings = answer_with g (take g.settings settings)

-- What a refusal of an answer says: there are fewer settings than it says; or there are enough, and the
-- numbers are no session of the image under these values, or the state that they stand for does not
-- take the answer.
abbrev pub IsSessionRefusal : List ℕ → PlainSession → (values : List ℤ) → Given → List Setting
    → SessionRefusal → Type 0
IsSessionRefusal b p values given settings Settings = length settings < given.settings
IsSessionRefusal b p values given settings NoSession =
    (given.settings ≤ length settings) × ¬ IsSession b p values
IsSessionRefusal b p values given settings (Refused fault) =
    (given.settings ≤ length settings) × (s : State)
    × (state_in b p values ≡ Some s) × IsRun b s
    × (refusal (types_in b) s.status (answer_given given settings) ≡ Some (answer_fault_of fault))
