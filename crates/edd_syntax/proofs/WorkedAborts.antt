-- Runs that are aborted, with their abort methods, computed.
use Rattle.std.proofs.Common.{◌≡◌, refl, ℕ, pos, negsuc, List, [], ◌∷◌, Some}
use Rattle.edd_syntax.specs.declared.numbers.MethNo.{MethNo}
use Rattle.edd_syntax.specs.declared.numbers.ItemNo.TheVariants as item_no
use Rattle.edd_syntax.specs.declared.operators.Builtin.TheVariants as builtin
use Rattle.edd_syntax.specs.declared.operators.RequestKind.TheVariants as kind
use Rattle.edd_syntax.specs.declared.operators.Operator.TheVariants.{Divide}
use Rattle.edd_syntax.specs.declared.types.VarType.TheVariants.{Integer}
use Rattle.edd_syntax.specs.declared.answer.Trap.TheVariants.{DivZero}
use Rattle.edd_syntax.specs.Reference.{Target, Item, Function}
use Rattle.edd_syntax.specs.Expression.{Expr, Literal, Reference, Binary, Assign, Call, Value, arguments_from}
use Rattle.edd_syntax.specs.Statement.{Part, Evaluate, Statement, body_from}
use Rattle.edd_syntax.specs.Item as item
use Rattle.edd_syntax.specs.Item.{Description, TypeOf, Known, Definition, VariableItem, MethodItem}
use Rattle.edd_syntax.specs.Answers.{Answer, Go, Abort}
use Rattle.edd_syntax.specs.Evaluation.{evaluate, call}
use Rattle.edd_syntax.specs.MethodState as asks
use Rattle.edd_syntax.specs.Execution.{execute, run, run_listed, Transcript, Ended, Aborted, Trapped, Waiting}
use Rattle.edd_syntax.specs.TwosComplement.{wrap, store, operate}

-- ---- how the sources are written here

abbrev E : Type 0
E = Expr Target

abbrev x : Target
x = Item (item_no.Variable (record { 0 = 0 }))

abbrev no : ℕ → MethNo
no n = record { 0 = n }

abbrev eval : E → Part Target
eval e = Statement (Evaluate e)

abbrev send : ℕ → Part Target
send n = eval (Call (Function (builtin.Ask kind.SendCommand)) (arguments_from (Value (Literal n) ∷ [])))

-- `add_abort_method(m)`
abbrev add : ℕ → E
add m = Call (Function builtin.AddAbortMethod)
    (arguments_from (Value (Reference (Item (item_no.Method (no m)))) ∷ []))

abbrev aborts : Part Target
aborts = eval (Call (Function builtin.Abort) (arguments_from []))

abbrev method : (name : ℕ) → List (Part Target) → item.Item Target
method name parts = record {
  sort = MethodItem;
  name = name ∷ [];
  attributes = Definition (body_from parts) ∷ [];
}

-- an INTEGER `x`, and the methods `u`, `v` and `m`
abbrev source : (u v m : List (Part Target)) → Description Target
source u v m = record {
  identification = record {
    manufacturer = 1;
    device_type = 2;
    device_revision = 3;
    dd_revision = 4;
  };
  items = record {
    sort = VariableItem;
    name = 0x78 ∷ [];
    attributes = TypeOf (Known Integer (Some 4)) [] ∷ [];
  } ∷ method 0x75 u ∷ method 0x76 v ∷ method 0x6d m ∷ [];
}

-- `m` under these answers, where x is 0
abbrev runs : Description Target → List Answer → Transcript
runs unit answers = run 1 unit (no 2) (pos 0 ∷ []) answers

abbrev ok : Answer
ok = Go (pos 0) []

abbrev sent : ℕ → asks.Request
sent n = record { kind = kind.SendCommand; arguments = asks.NumberArgument (pos n) ∷ [] }

-- ---- in the order in which they were listed

-- `u` sends 2 and `v` sends 3; `m` is `add_abort_method(u); add_abort_method(v); send_command(1);`
abbrev both : Description Target
both = source (send 2 ∷ []) (send 3 ∷ []) (eval (add 0) ∷ eval (add 1) ∷ send 1 ∷ [])

in_order : runs both (Abort ∷ ok ∷ ok ∷ []) ≡ record {
  requests = sent 1 ∷ sent 2 ∷ sent 3 ∷ [];
  changes = [];
  values = pos 0 ∷ [];
  abort_methods = [];
  answers = [];
  ending = Aborted;
}
unfolding run run_listed execute evaluate call wrap
in_order = refl

-- an abort method waits for its answer as any method does
second_waits : runs both (Abort ∷ []) ≡ record {
  requests = sent 1 ∷ sent 2 ∷ [];
  changes = [];
  values = pos 0 ∷ [];
  abort_methods = no 1 ∷ [];
  answers = [];
  ending = Waiting;
}
unfolding run run_listed execute evaluate call wrap
second_waits = refl

-- an abort inside one ends the run
abort_inside : runs both (Abort ∷ Abort ∷ []) ≡ record {
  requests = sent 1 ∷ sent 2 ∷ [];
  changes = [];
  values = pos 0 ∷ [];
  abort_methods = no 1 ∷ [];
  answers = [];
  ending = Aborted;
}
unfolding run run_listed execute evaluate call wrap
abort_inside = refl

-- a run that isn't aborted runs none
none_runs : runs both (ok ∷ []) ≡ record {
  requests = sent 1 ∷ [];
  changes = [];
  values = pos 0 ∷ [];
  abort_methods = no 0 ∷ no 1 ∷ [];
  answers = [];
  ending = Ended;
}
unfolding run run_listed execute evaluate call wrap
none_runs = refl

-- ---- a trap, and a listing, inside one

-- `u` is `x = 1 / 0;`
traps_inside : runs (source (eval (Assign x (Binary Divide (Literal 1) (Literal 0))) ∷ [])
    (send 3 ∷ []) (eval (add 0) ∷ aborts ∷ [])) [] ≡ record {
      requests = [];
      changes = [];
      values = pos 0 ∷ [];
      abort_methods = [];
      answers = [];
      ending = Trapped DivZero;
    }
unfolding run run_listed execute evaluate call wrap operate
traps_inside = refl

-- `u` is `x = add_abort_method(v);`, and `v` isn't run
lists_none_inside : runs (source (eval (Assign x (add 1)) ∷ []) (send 3 ∷ [])
    (eval (add 0) ∷ aborts ∷ [])) [] ≡ record {
      requests = [];
      changes = record { variable = record { 0 = 0 }; value = negsuc 0 } ∷ [];
      values = negsuc 0 ∷ [];
      abort_methods = [];
      answers = [];
      ending = Aborted;
    }
unfolding run run_listed execute evaluate call wrap store operate
lists_none_inside = refl
