-- One step of the machine: the effect of the instruction at its place.
use Rattle.std.specs.Prelude.{◌≡◌, ℕ, zero, suc, ℤ, pos, negsuc, Bool, false, List, [], ◌∷◌, length, Option, Some, None, Result, Ok, Err, if◌then◌else◌, ⊤, IsTrue, FitsSigned, replicate, slice_index_or, slice_set}
use Rattle.std.specs.Int.{w32, w64}
use Rattle.std.specs.List.{AllByRecursion}
use Rattle.std.specs.Ordering.{int_eq}
use Rattle.edd_syntax.specs.declared.answer.Trap.{Trap}
use Rattle.edd_syntax.specs.declared.numbers.Element.{Element}
use Rattle.edd_syntax.specs.declared.operators.UnaryOperator.TheVariants as unary_operator
use Rattle.edd_syntax.specs.declared.numbers.MethNo.{MethNo}
use Rattle.edd_syntax.specs.AbortMethods.{listed}
use Rattle.edd_syntax.specs.Builtins.{numbers_taken}
use Rattle.edd_syntax.specs.Elements.{element_value}
use Rattle.edd_syntax.specs.TwosComplement.{wrap, store, operate, compare, apply, is_zero}
use Rattle.edd_syntax.specs.DeviceValues.{VariableType, type_at, value_at, AreDeviceValues}
use Rattle.edd_syntax.specs.Answers.{Change}
use Rattle.edd_instructions.specs.declared.records.Record.{Record}
use Rattle.edd_instructions.specs.declared.records.Record.TheVariants as records
use Rattle.edd_instructions.specs.declared.requests.Request.{Request}
use Rattle.edd_instructions.specs.declared.records.Status.{Status}
use Rattle.edd_instructions.specs.declared.records.Status.TheVariants.{Running, Asking, Ended, Aborted, Trapped}
use Rattle.edd_instructions.specs.declared.records.Emitted.{Emitted}
use Rattle.edd_instructions.specs.declared.records.Emitted.TheVariants as emitted
use Rattle.edd_instructions.specs.declared.instruction.Ask.{Ask}
use Rattle.edd_instructions.specs.declared.instruction.Instruction.{Instruction}
use Rattle.edd_instructions.specs.declared.instruction.Instruction.TheVariants as instruction
use Rattle.edd_instructions.specs.declared.unit.Sort.{Sort}
use Rattle.edd_instructions.specs.declared.unit.Sort.TheVariants.{Attribute, Method}
use Rattle.edd_instructions.specs.declared.unit.Context.{Context}
use Rattle.edd_image.specs.Front.{◌>>=◌}
use Rattle.edd_instructions.specs.Decoding.{instruction_at}
use Rattle.edd_instructions.specs.Requests.{request_of}
use Rattle.edd_instructions.specs.Units.{instructions, is_start, AreDepths}

-- ---- states

-- the code that runs, and whether it gives an attribute or is a method's
pub record RunningUnit : Type 0 where
  pub sort : Sort
  pub code : List ℕ

-- a state of the machine, with its operands from the top
pub record State : Type 0 where
  pub unit : RunningUnit
  pub place : ℕ
  pub operands : List ℤ
  pub slots : List ℤ
  pub values : List ℤ
  pub status : Status
  -- the methods that are to run, in order, if the run is aborted, or that are left of them
  pub abort_methods : List MethNo
  -- it was aborted, and they run
  pub is_aborting : Bool

-- what is round a run, and stays
pub record Environment : Type 0 where
  pub types : List VariableType
  pub elements : List Element

-- What a step or an answer results in. It emits nothing, one record or one request; each store, and
-- each variable that an answer sets, is one change.
pub record Effect : Type 0 where
  pub state : State
  pub emitted : Emitted
  pub changes : List Change

-- the state at the start of a unit
abbrev pub opening : RunningUnit → (slots : ℕ) → (values : List ℤ) → State
opening unit slots values = record {
  unit = unit;
  place = 0;
  operands = [];
  slots = replicate slots (pos 0);
  values = values;
  status = Running;
  abort_methods = [];
  is_aborting = false;
}

-- arithmetic has 64 bits in attributes and 32 bits in methods
abbrev pub width_of : Sort → ℕ
width_of Attribute = 64
width_of Method = 32

-- ---- effects

-- this state, and nothing else
abbrev pub quietly : State → Option Effect
quietly s = Some (record { state = s; emitted = emitted.Nothing; changes = [] })

-- goes on at a place with these operands
abbrev pub go : State → ℕ → List ℤ → Option Effect
go s place operands = quietly (record s { place = place; operands = operands })

-- goes on at the next instruction, having given a record
abbrev pub give : State → ℕ → List ℤ → Record → Option Effect
give s next operands given = Some (record {
  state = record s { place = next; operands = operands };
  emitted = emitted.Record given;
  changes = [];
})

-- waits for the answer, whose code will be pushed
abbrev pub ask_for : State → ℕ → List ℤ → Request → Option Effect
ask_for s next operands r = Some (record {
  state = record s { place = next; operands = operands; status = Asking r };
  emitted = emitted.Request r;
  changes = [];
})

-- stays at its place with this status, and gives nothing
abbrev pub stop : State → Status → Option Effect
stop s status = quietly (record s { status = status })

-- what is done with the topmost operand and those below it, where there is one
abbrev pub on_top : List ℤ → (ℤ → List ℤ → Option Effect) → Option Effect
on_top [] f = None
on_top (a ∷ below) f = f a below

-- a is below b
abbrev pub on_two : List ℤ → (ℤ → ℤ → List ℤ → Option Effect) → Option Effect
on_two [] f = None
on_two (b ∷ []) f = None
on_two (b ∷ a ∷ below) f = f a b below

-- goes on with the result pushed on the operands below, or stops with the trap
abbrev pub push_or_trap : State → ℕ → List ℤ → Result ℤ Trap → Option Effect
push_or_trap s next below (Ok z) = go s next (z ∷ below)
push_or_trap s next below (Err why) = stop (record s { operands = below }) (Trapped why)

-- stores what the variable keeps of a, and pushes what is read back
abbrev pub store_in : Environment → State → ℕ → List ℤ → (kept : ℤ) → Change → Option Effect
store_in env s next below kept change = Some (record {
  state = record s {
    place = next;
    operands = wrap (width_of s.unit.sort) kept ∷ below;
    values = slice_set s.values change.variable.0 kept;
  };
  emitted = emitted.Nothing;
  changes = change ∷ [];
})

-- ---- instructions

-- the effect of a request that takes so many numbers off the operands, if they are there: it waits
abbrev pub ask_with : (numbers : ℕ) → Ask → ℕ → State → Option Effect
ask_with zero a next s = ask_for s next s.operands (request_of a (pos 0) (pos 0))
ask_with (suc zero) a next s =
    on_top s.operands (λ x below. ask_for s next below (request_of a x (pos 0)))
ask_with (suc (suc n)) a next s =
    on_two s.operands (λ x y below. ask_for s next below (request_of a x y))

-- the effect of a request; none takes more than two numbers
abbrev pub act_ask : Ask → ℕ → State → Option Effect
act_ask a next s = ask_with (numbers_taken a.kind) a next s

-- The effect of an instruction, after which the place `next` lies, where it finds the operands
-- that it needs.
unfoldable pub act : Environment → Instruction → (next : ℕ) → State → Option Effect
act env instruction.End next s = stop s Ended
act env (instruction.Push n) next s = go s next (wrap (width_of s.unit.sort) (pos n) ∷ s.operands)
act env (instruction.Variable v) next s =
    go s next (wrap (width_of s.unit.sort) (value_at s.values v) ∷ s.operands)
act env (instruction.Store v) next s = on_top s.operands (λ a below.
    let t = type_at env.types v in
    let kept = store t.type t.size a in
    store_in env s next below kept (record { variable = v; value = kept }))
act env (instruction.GetLocal slot) next s =
    go s next (slice_index_or s.slots slot (pos 0) ∷ s.operands)
act env (instruction.SetLocal slot) next s =
    on_top s.operands (λ a below. quietly
    (record s { place = next; slots = slice_set s.slots slot a }))
act env instruction.Pop next s = on_top s.operands (λ a below. go s next below)
act env instruction.Duplicate next s = on_top s.operands (λ a below. go s next (a ∷ a ∷ below))
act env (instruction.ReadElement array) next s =
    on_top s.operands (λ number below. push_or_trap s next below
    (element_value env.elements (width_of s.unit.sort) s.values array number))
act env (instruction.Operate op) next s =
    on_two s.operands (λ a b below. push_or_trap s next below
    (operate (width_of s.unit.sort) op a b))
act env (instruction.Compare op) next s =
    on_two s.operands (λ a b below. go s next (compare op a b ∷ below))
act env instruction.Negate next s =
    on_top s.operands (λ a below. go s next (apply (width_of s.unit.sort) unary_operator.Minus a
    ∷ below))
act env instruction.Not next s =
    on_top s.operands (λ a below. go s next (apply (width_of s.unit.sort) unary_operator.Not a
    ∷ below))
act env instruction.Complement next s =
    on_top s.operands (λ a below. go s next (apply (width_of s.unit.sort) unary_operator.Complement
    a ∷ below))
act env (instruction.Jump to) next s = go s to s.operands
act env (instruction.JumpIfZero to) next s =
    on_top s.operands (λ a below. go s (if is_zero a then to else next) below)
act env (instruction.JumpIfNotZero to) next s =
    on_top s.operands (λ a below. go s (if is_zero a then next else to) below)
act env (instruction.Case label to) next s =
    on_top s.operands (λ a below. if int_eq a label then go s to below else go s next s.operands)
act env (instruction.Text t) next s = give s next s.operands (records.Words t)
act env instruction.Number next s =
    on_top s.operands (λ a below. give s next below (records.Number a))
act env (instruction.Item item quals) next s = give s next s.operands (records.Entry item quals)
act env (instruction.DataConst n) next s = give s next s.operands (records.DataConst n)
act env (instruction.DataVar v mask quals) next s =
    give s next s.operands (records.DataVar v mask quals)
act env (instruction.Enumerator n text help) next s =
    give s next s.operands (records.Enumerator n text help)
act env (instruction.Response n class text) next s =
    give s next s.operands (records.Response n class text)
act env (instruction.Member name item label help) next s =
    give s next s.operands (records.Member name item label help)
act env (instruction.Element n v label help) next s =
    give s next s.operands (records.Element n v label help)
act env (instruction.Ask request) next s = act_ask request next s
act env instruction.Abort next s = stop s Aborted
act env (instruction.AddAbortMethod m) next s = elim (listed s.is_aborting s.abort_methods m) [
  | Some methods ↦ go (record s { abort_methods = methods }) next (pos 0 ∷ s.operands)
  | None ↦ go s next (negsuc 0 ∷ s.operands)
]

-- only a running state has a step
abbrev pub if_running : Status → Option Effect → Option Effect
if_running Running o = o
if_running _ o = None

-- the step of a state, if it has one
unfoldable pub step : Environment → State → Option Effect
step env s = if_running s.status (instruction_at s.unit.code s.place
    >>= λ found. act env found.0 found.1 s)

-- ---- what every state of a run in a valid unit keeps

-- the number is in the unit's width
abbrev pub Fits : Sort → ℤ → Type 0
Fits Attribute z = FitsSigned w64 z
Fits Method z = FitsSigned w32 z

-- there is an instruction at the place, and n is the number of operands that belongs there
pub record StandsWith (code : List ℕ) (place n : ℕ) : Type 0 where
  pub at_start : IsTrue (is_start (instructions code) place)
  pub depth : ℕ → ℕ
  pub depths : AreDepths (instructions code) depth
  pub operands : n ≡ depth place

-- a running state has that; a state that asks will have it when the answer's code is pushed
abbrev pub Stands : State → Status → Type 0
Stands s Running = StandsWith s.unit.code s.place (length s.operands)
Stands s (Asking r) = StandsWith s.unit.code s.place (suc (length s.operands))
Stands s Ended = ⊤
Stands s Aborted = ⊤
Stands s (Trapped why) = ⊤

-- The state keeps what every state of a run in a valid unit of this context keeps.
pub record IsState (context : Context) (env : Environment) (s : State) : Type 0 where
  pub sort : s.unit.sort ≡ context.sort
  pub stands : Stands s s.status
  pub operands : AllByRecursion (Fits context.sort) s.operands
  pub slot_count : length s.slots ≡ context.slots
  pub slots : AllByRecursion (Fits context.sort) s.slots
  -- as many values as variables, each in its range
  pub variable_count : length env.types ≡ context.counts.variables
  pub values : AreDeviceValues env.types s.values
