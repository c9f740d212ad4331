-- The state of a method, what it asks of its host, what the host answers, and actions on the state.
use Rattle.std.specs.Prelude.{Bool, ℤ, pos, negsuc, List, [], ◌∷◌, ◌++◌, slice_index_or, slice_set, Some, None, Result, Ok, Err}
use Rattle.edd_syntax.specs.declared.numbers.VarNo.{VarNo}
use Rattle.edd_syntax.specs.declared.numbers.MethNo.{MethNo}
use Rattle.edd_syntax.specs.declared.numbers.ItemNo.{ItemNo}
use Rattle.edd_syntax.specs.declared.numbers.ItemNo.TheVariants as item_no
use Rattle.edd_syntax.specs.declared.operators.RequestKind.{RequestKind}
use Rattle.edd_syntax.specs.declared.answer.Trap.{Trap}
use Rattle.edd_syntax.specs.Reference.{Target, Local, Item, Function}
use Rattle.edd_syntax.specs.TwosComplement.{wrap, store}
use Rattle.edd_syntax.specs.Words.{Words}
use Rattle.edd_syntax.specs.Answers.{Change, Answer, Go, Abort}
use Rattle.edd_syntax.specs.DeviceValues.{value_at}
use Rattle.edd_syntax.specs.Elements.{indexed_value}
use Rattle.edd_syntax.specs.AbortMethods.{listed}
use Rattle.edd_syntax.specs.Device.{Environment, type_of_variable}

-- an argument of a request
pub data RequestArgument : Type 0 where
  TextArgument : (text : Words) → RequestArgument
  NumberArgument : (value : ℤ) → RequestArgument
  VariableArgument : (variable : VarNo) → RequestArgument

-- what a method asks of its host: the kind of the request, and its arguments in written order
pub record Request : Type 0 where
  pub kind : RequestKind
  pub arguments : List RequestArgument

-- the state of a method while it runs
pub record State : Type 0 where
  -- the values of the locals
  pub slots : List ℤ
  -- the values of the device's variables
  pub values : List ℤ
  -- the methods that are to run, in order, if the run is aborted, or that are left of them
  pub abort_methods : List MethNo
  -- it was aborted, and they run
  pub is_aborting : Bool
  -- the requests and the changes so far
  pub requests : List Request
  pub changes : List Change
  -- the answers that are left
  pub answers : List Answer

-- why a run stops before its end: a trap, an abort, a request without an answer, or a loop without
-- a turn left
pub data Stop : Type 0 where
  Trapped : Trap → Stop
  Aborted : Stop
  Waiting : Stop
  OutOfTurns : Stop

-- what an action results in: a result of the type A, or a stop, each with its state
pub data Outcome (A : Type 0) : Type 0 where
  Done : A → State → Outcome A
  Stopped : Stop → State → Outcome A

-- something that is done from a state, and has a result of the type A or stops
abbrev pub Action : Type 0 → Type 0
Action A = State → Outcome A

-- gives the result and leaves the state as it is
abbrev pub pure : {A : Type 0} → A → Action A
pure x = λ s. Done x s

-- stops and leaves the state as it is
abbrev pub stop : {A : Type 0} → Stop → Action A
stop why = λ s. Stopped why s

-- goes on with the result and the state; a stop is passed on
abbrev pub and_then : {A B : Type 0} → Outcome A → (A → Action B) → Outcome B
and_then (Done x s) next = next x s
and_then (Stopped why s) next = Stopped why s

-- one action after another
infixl 10 ◌>>=◌ ◌>>◌
-- the second action gets the result of the first
abbrev pub ◌>>=◌ : {A B : Type 0} → Action A → (A → Action B) → Action B
first >>= next = λ s. and_then (first s) next

-- the result of the first is dropped
abbrev pub ◌>>◌ : {A B : Type 0} → Action A → Action B → Action B
first >> next = first >>= λ x. next

-- the number, or the trap
abbrev pub number : Result ℤ Trap → Action ℤ
number (Ok z) = pure z
number (Err why) = stop (Trapped why)

-- ---- variables and slots

-- a variable is read with 32 bits; no checked unit reads another item
abbrev pub item_value : List ℤ → ItemNo → ℤ
item_value values (item_no.Variable v) = wrap 32 (value_at values v)
item_value values _ = pos 0

-- the number that is read of a target in a state; no checked unit reads a function
abbrev pub read_from : State → Target → ℤ
read_from s (Local slot) = slice_index_or s.slots slot (pos 0)
read_from s (Item i) = item_value s.values i
read_from s (Function f) = pos 0

-- reads a target
abbrev pub read : Target → Action ℤ
read target = λ s. Done (read_from s target) s

-- the variable gets this value, and the change is noted
abbrev pub change : VarNo → ℤ → State → State
change v z s = record s {
  values = slice_set s.values v.0 z;
  changes = s.changes
      ++ record { variable = v; value = z } ∷ [];
}

-- a store keeps what fits the variable's type and size, and gives what is then read; no checked
-- unit stores to another item
abbrev pub assign_item : Environment → ItemNo → ℤ → Action ℤ
assign_item env (item_no.Variable v) z =
    let t = type_of_variable env v in
    let kept = store t.type t.size z in
    λ s. Done (wrap 32 kept) (change v kept s)
assign_item env _ z = pure z

-- stores a number in a target, and gives what is then read; no checked unit stores in a function
abbrev pub assign : Environment → Target → ℤ → Action ℤ
assign env (Local slot) z = λ s. Done z (record s { slots = slice_set s.slots slot z })
assign env (Item i) z = assign_item env i z
assign env (Function f) z = pure z

-- the value of an element, or its trap
abbrev pub read_element : Environment → Target → ℤ → Action ℤ
read_element env array index = λ s. number (indexed_value env.elements 32 s.values array index) s

-- ---- abort methods

-- the value is 0 where the method is listed, else -1
abbrev pub add_abort_method : MethNo → Action ℤ
add_abort_method m s = elim (listed s.is_aborting s.abort_methods m) [
  | Some methods ↦ Done (pos 0) (record s { abort_methods = methods })
  | None ↦ Done (negsuc 0) s
]

-- ---- requests

-- the sets of an answer, in order
abbrev pub apply_sets : List Change → State → State
apply_sets [] s = s
apply_sets (set ∷ rest) s = apply_sets rest (change set.variable set.value s)

-- the next answer gives its code, after its sets
abbrev pub answered : List Answer → Action ℤ
answered [] = stop Waiting
answered (Go code sets ∷ rest) = λ s. Done code (apply_sets sets (record s { answers = rest }))
answered (Abort ∷ rest) = λ s. Stopped Aborted (record s { answers = rest })

-- makes a request, and takes its answer
abbrev pub ask : Request → Action ℤ
ask r = λ s. answered s.answers (record s { requests = s.requests ++ r ∷ [] })
