-- Worked examples, computed.
use Rattle.std.proofs.Common.{◌≡◌, refl, ℕ, ℤ, pos, negsuc, List, [], ◌∷◌}
use Rattle.std.specs.Prelude.{Option, Some, None, codes}
use Rattle.edd_syntax.specs.declared.numbers.VarNo.{VarNo}
use Rattle.edd_syntax.specs.declared.numbers.ItemNo.TheVariants as item_no
use Rattle.edd_syntax.specs.declared.operators.Operator.TheVariants as operator
use Rattle.edd_syntax.specs.declared.operators.Comparison.TheVariants as comparison
use Rattle.edd_syntax.specs.declared.operators.UnaryOperator.TheVariants as unary_operator
use Rattle.edd_syntax.specs.declared.operators.IncrementOperator.TheVariants as increment
use Rattle.edd_syntax.specs.declared.operators.Builtin.{Builtin}
use Rattle.edd_syntax.specs.declared.operators.Builtin.TheVariants as builtin
use Rattle.edd_syntax.specs.declared.operators.RequestKind.{RequestKind}
use Rattle.edd_syntax.specs.declared.operators.RequestKind.TheVariants as kind
use Rattle.edd_syntax.specs.declared.types.VarType.TheVariants as var_type
use Rattle.edd_syntax.specs.declared.answer.Trap.TheVariants as trap
use Rattle.edd_syntax.specs.Text as texts
use Rattle.edd_syntax.specs.Text.{Quoted}
use Rattle.edd_syntax.specs.Reference.{Target, Local, Item, Function}
use Rattle.edd_syntax.specs.Expression.{Expr, Literal, Reference, Unary, Binary, Compare, LogicalAnd, LogicalOr, Conditional, Assign, CompoundAssign, Increment, Call, Argument, Text, Value, arguments_from}
use Rattle.edd_syntax.specs.Statement.{Stmt, Empty, Evaluate, Block, If, While, Do, For, Switch, Break, Continue, Return, Part, Body, body_from, Declare, Statement, CaseLabel, DefaultLabel, slots_of, slots_in}
use Rattle.edd_syntax.specs.TwosComplement.{wrap, store, operate, compare, apply}
use Rattle.edd_syntax.specs.Words as strings
use Rattle.edd_syntax.specs.Words.{Words, Variants, words_of, pieces, unescape, english}
use Rattle.edd_syntax.specs.DeviceValues.{VariableType}
use Rattle.edd_syntax.specs.Device.{Environment}
use Rattle.edd_syntax.specs.MethodState.{Request, RequestArgument, TextArgument, NumberArgument, VariableArgument}
use Rattle.edd_syntax.specs.Answers.{Change, Answer, Go, Abort}
use Rattle.edd_syntax.specs.Evaluation.{call, evaluate}
use Rattle.edd_syntax.specs.Execution.{turns, turns_of_do, execute, Ending, Ended, Aborted, Trapped, Waiting, OutOfTurns, Transcript, opening, run_body}

-- ---- how the sources are written here

abbrev E : Type 0
E = Expr Target

abbrev S : Type 0
S = Stmt Target

abbrev text : List ℕ → texts.Text
text t = Quoted t

abbrev says : List ℕ → Words
says t = Variants (record { code = english; text = t }) []

abbrev calls : Builtin → List (Argument Target) → E
calls b arguments = Call (Function b) (arguments_from arguments)

abbrev var_no : ℕ → VarNo
var_no n = record { 0 = n }

abbrev changed : ℕ → ℤ → Change
changed v z = record { variable = var_no v; value = z }

abbrev var : ℕ → Target
var n = Item (item_no.Variable (var_no n))

abbrev P : Type 0
P = Part Target

abbrev declare : ℕ → P
declare n = Declare (record { place = Local n; value = None } ∷ [])

abbrev do_ : S → P
do_ s = Statement s

abbrev eval : E → P
eval e = Statement (Evaluate e)

abbrev block : List P → S
block parts = Block (body_from parts)

abbrev ok : Answer
ok = Go (pos 0) []

abbrev print : List ℕ → S
print t = Evaluate (calls (builtin.Ask kind.PutMessage) (Text (text t) ∷ []))

abbrev asked : RequestKind → List RequestArgument → Request
asked kind arguments = record { kind = kind; arguments = arguments }

abbrev put : List ℕ → Request
put t = asked kind.PutMessage (TextArgument (says t) ∷ [])

abbrev send : E → S
send e = Evaluate (calls (builtin.Ask kind.SendCommand) (Value e ∷ []))

abbrev sends_number : ℤ → Request
sends_number z = asked kind.SendCommand (NumberArgument z ∷ [])

abbrev sent : ℕ → Request
sent n = sends_number (pos n)

abbrev local : E
local = Reference (Local 0)

abbrev of_one : VariableType → Environment
of_one t = record { variables = t ∷ []; elements = [] }

abbrev no_variables : Environment
no_variables = record { variables = []; elements = [] }

abbrev int4 : Environment
int4 = of_one (record { type = var_type.Integer; size = 4 })

abbrev unsigned1 : Environment
unsigned1 = of_one (record { type = var_type.UnsignedInteger; size = 1 })

-- what a run that changes no variable results in
abbrev quiet : List Request → List ℤ → Ending → Transcript
quiet requests values ending = record {
  requests = requests;
  changes = [];
  values = values;
  abort_methods = [];
  answers = [];
  ending = ending;
}

-- ---- runs

abbrev runs : ℕ → Environment → Body Target → List ℤ → List Answer → Transcript
runs n env body values answers = run_body n env body (opening (slots_in body) values answers)

-- `int i; for (i = 2; i > 0; i--) { PUT_MESSAGE("go"); }`
countdown : Body Target
countdown = body_from (declare 0 ∷ do_ (For
    (Some (Assign (Local 0) (Literal 2)))
    (Some (Compare comparison.Greater local (Literal 0)))
    (Some (Increment increment.PostDecrement (Local 0)))
    (block (do_ (print (codes "go")) ∷ []))) ∷ [])

countdown_ends : runs 3 no_variables countdown [] (ok ∷ ok ∷ [])
    ≡ quiet (put (codes "go") ∷ put (codes "go") ∷ []) [] Ended
unfolding countdown run_body execute turns evaluate call wrap operate compare words_of pieces
    unescape slots_of
countdown_ends = refl

-- with one answer it waits for the second
countdown_waits : runs 3 no_variables countdown [] (ok ∷ [])
    ≡ quiet (put (codes "go") ∷ put (codes "go") ∷ []) [] Waiting
unfolding countdown run_body execute turns evaluate call wrap operate compare words_of pieces
    unescape slots_of
countdown_waits = refl

-- with two turns of the loop it isn't over
countdown_goes_on : runs 2 no_variables countdown [] (ok ∷ ok ∷ [])
    ≡ quiet (put (codes "go") ∷ put (codes "go") ∷ []) [] OutOfTurns
unfolding countdown run_body execute turns evaluate call wrap operate compare words_of pieces
    unescape slots_of
countdown_goes_on = refl

-- `while (1) { }`
forever : runs 1000 no_variables (body_from (do_ (While (Literal 1) (block [])) ∷ [])) [] []
    ≡ quiet [] [] OutOfTurns
unfolding run_body execute turns evaluate wrap slots_of
forever = refl

-- `x += ACKNOWLEDGE("a");` reads x before the answer sets it, and keeps the low 8 bits of 260
adds_before : runs 1 unsigned1
    (body_from (eval (CompoundAssign operator.Add (var 0)
    (calls (builtin.Ask kind.Acknowledge) (Text (text (codes "a")) ∷ []))) ∷ [])) (pos 250 ∷ [])
    (Go (pos 10) ((changed 0 (pos 1)) ∷ []) ∷ [])
    ≡ record {
      requests = asked kind.Acknowledge (TextArgument (says (codes "a")) ∷ []) ∷ [];
      changes = (changed 0 (pos 1))
          ∷ (changed 0 (pos 4)) ∷ [];
      values = pos 4 ∷ [];
      abort_methods = [];
      answers = [];
      ending = Ended;
    }
unfolding run_body execute evaluate call wrap store operate words_of pieces unescape slots_of
adds_before = refl

-- `x = a op b;` over an INTEGER (4) that holds 7
abbrev sets_x : E → Body Target
sets_x e = body_from (eval (Assign (var 0) e) ∷ [])

-- `x = -2147483648 / -1;`
overflows : runs 1 int4 (sets_x
    (Binary operator.Divide (Unary unary_operator.Minus (Literal 2147483648))
    (Unary unary_operator.Minus (Literal 1)))) (pos 7 ∷ []) []
    ≡ quiet [] (pos 7 ∷ []) (Trapped trap.DivOverflow)
unfolding run_body execute evaluate wrap operate apply slots_of
overflows = refl

-- `x = 5 % 0;`
divides_by_zero : runs 1 int4 (sets_x (Binary operator.Remainder (Literal 5) (Literal 0)))
    (pos 7 ∷ []) []
    ≡ quiet [] (pos 7 ∷ []) (Trapped trap.DivZero)
unfolding run_body execute evaluate wrap operate slots_of
divides_by_zero = refl

-- `x = 1 << 32;`
shifts_too_far : runs 1 int4 (sets_x (Binary operator.ShiftLeft (Literal 1) (Literal 32)))
    (pos 7 ∷ []) []
    ≡ quiet [] (pos 7 ∷ []) (Trapped trap.BadShift)
unfolding run_body execute evaluate wrap operate slots_of
shifts_too_far = refl

-- `switch (k) { case 1: PUT_MESSAGE("a"); default: PUT_MESSAGE("b"); break; case 2: return; }`
falls_through : Body Target
falls_through = body_from
    (do_ (Switch (Reference (var 0))
    (body_from (CaseLabel (pos 1) ∷ do_ (print (codes "a")) ∷ DefaultLabel ∷ do_ (print (codes "b"))
    ∷ do_ Break ∷ CaseLabel (pos 2) ∷ do_ Return ∷ []))) ∷ [])

falls_from_1 : runs 1 int4 falls_through (pos 1 ∷ []) (ok ∷ ok ∷ [])
    ≡ quiet (put (codes "a") ∷ put (codes "b") ∷ []) (pos 1 ∷ []) Ended
unfolding falls_through run_body execute evaluate call wrap words_of pieces unescape slots_of
falls_from_1 = refl

returns_at_2 : runs 1 int4 falls_through (pos 2 ∷ []) [] ≡ quiet [] (pos 2 ∷ []) Ended
unfolding falls_through run_body execute evaluate call wrap words_of pieces unescape slots_of
returns_at_2 = refl

default_at_3 : runs 1 int4 falls_through (pos 3 ∷ []) (ok ∷ []) ≡ quiet (put (codes "b") ∷ [])
    (pos 3 ∷ []) Ended
unfolding falls_through run_body execute evaluate call wrap words_of pieces unescape slots_of
default_at_3 = refl

-- `int n; while (n < 3) { int t; t++; send_command(t); n++; }`: a declaration sets 0 in each turn
redeclares : runs 4 no_variables
    (body_from (declare 0 ∷ do_ (While (Compare comparison.Less local (Literal 3))
    (block (declare 1 ∷ eval (Increment increment.PostIncrement (Local 1))
    ∷ do_ (send (Reference (Local 1))) ∷ eval (Increment increment.PostIncrement (Local 0)) ∷ [])))
    ∷ [])) [] (ok ∷ ok ∷ ok ∷ [])
    ≡ quiet (sent 1 ∷ sent 1 ∷ sent 1 ∷ []) [] Ended
unfolding run_body execute turns evaluate call wrap operate compare slots_of
redeclares = refl

-- `int i; for (i = 0; i < 3; i++) { if (i == 1) continue; send_command(i); }`
continues : runs 4 no_variables
    (body_from (declare 0 ∷ do_
    (For (Some (Assign (Local 0) (Literal 0))) (Some (Compare comparison.Less local (Literal 3)))
    (Some (Increment increment.PostIncrement (Local 0)))
    (block (do_ (If (Compare comparison.Equal local (Literal 1)) Continue) ∷ do_ (send local)
    ∷ []))) ∷ [])) [] (ok ∷ ok ∷ [])
    ≡ quiet (sent 0 ∷ sent 2 ∷ []) [] Ended
unfolding run_body execute turns evaluate call wrap operate compare slots_of
continues = refl

-- `if (0 && ACKNOWLEDGE("a")) ; PUT_MESSAGE("b");`
short : Body Target
short = body_from (do_ (If
    (LogicalAnd (Literal 0) (calls (builtin.Ask kind.Acknowledge) (Text (text (codes "a")) ∷ []))) Empty)
    ∷ do_ (print (codes "b")) ∷ [])

asks_only_b : runs 1 no_variables short [] (ok ∷ []) ≡ quiet (put (codes "b") ∷ []) [] Ended
unfolding short run_body execute evaluate call wrap words_of pieces unescape slots_of
asks_only_b = refl

aborts : runs 1 no_variables short [] (Abort ∷ []) ≡ quiet (put (codes "b") ∷ []) [] Aborted
unfolding short run_body execute evaluate call wrap words_of pieces unescape slots_of
aborts = refl

-- `GET_DEV_VAR_VALUE("t", x); DELAY(x - 9, [k]); send_command_trans(1, x);`
gets_value : runs 1 int4
    (body_from (
    eval (calls (builtin.Ask kind.GetDevVarValue) (Text (text (codes "t")) ∷ Value (Reference (var 0)) ∷ [])) ∷
    eval (calls (builtin.Ask kind.Delay) (Value (Binary operator.Subtract (Reference (var 0)) (Literal 9))
    ∷ Text (texts.Key (codes "k")) ∷ [])) ∷
    eval (calls (builtin.Ask kind.SendCommandTrans) (Value (Literal 1) ∷ Value (Reference (var 0)) ∷ []))
    ∷ []))
    (pos 0 ∷ []) (Go (pos 0) ((changed 0 (pos 7)) ∷ []) ∷ ok ∷ ok ∷ [])
    ≡ record {
      requests =
          asked kind.GetDevVarValue
          (TextArgument (says (codes "t")) ∷ VariableArgument (var_no 0) ∷ [])
          ∷ asked kind.Delay
          (NumberArgument (negsuc 1) ∷ TextArgument (strings.Key (codes "k")) ∷ [])
          ∷ asked kind.SendCommandTrans
          (NumberArgument (pos 1) ∷ NumberArgument (pos 7) ∷ [])
          ∷ [];
      changes = (changed 0 (pos 7)) ∷ [];
      values = pos 7 ∷ [];
      abort_methods = [];
      answers = [];
      ending =
          Ended;
    }
unfolding run_body execute evaluate call wrap operate words_of pieces unescape slots_of
gets_value = refl

-- `iassign(u, -1); if (u == -1) PUT_MESSAGE("same");` over an UNSIGNED_INTEGER (4)
unsigned4 : Environment
unsigned4 = of_one (record { type = var_type.UnsignedInteger; size = 4 })

abbrev minus_one : E
minus_one = Unary unary_operator.Minus (Literal 1)

stores_and_reads_back : runs 1 unsigned4
    (body_from (eval (calls builtin.Iassign (Value (Reference (var 0)) ∷ Value minus_one ∷ [])) ∷
    do_ (If (Compare comparison.Equal (Reference (var 0)) minus_one) (print (codes "same"))) ∷ []))
    (pos 0 ∷ []) (ok ∷ [])
    ≡ record {
      requests = put (codes "same") ∷ [];
      changes = (changed 0 (pos 4294967295)) ∷ [];
      values = pos 4294967295 ∷ [];
      abort_methods = [];
      answers = [];
      ending = Ended;
    }
unfolding unsigned4 run_body execute evaluate call wrap store operate compare apply words_of pieces
    unescape slots_of
stores_and_reads_back = refl

-- ---- nested loops

abbrev counts_up : (slot : ℕ) → Option E → S → S
counts_up slot condition body = For (Some (Assign (Local slot) (Literal 0))) condition
    (Some (Increment increment.PostIncrement (Local slot))) body

abbrev second : E
second = Reference (Local 1)

-- `for (i = 0; i < 2; i++) { for (j = 0; ; j++) { if (j == 2) break; send_command(10 * i + j); }
-- send_command(99); }`
inner_break_leaves_inner_loop : runs 3 no_variables
    (body_from (declare 0 ∷ declare 1
    ∷ do_ (counts_up 0 (Some (Compare comparison.Less local (Literal 2))) (block (
    do_ (counts_up 1 None (block (
    do_ (If (Compare comparison.Equal second (Literal 2)) Break) ∷
    do_ (send (Binary operator.Add (Binary operator.Multiply (Literal 10) local) second)) ∷ []))) ∷
    do_ (send (Literal 99)) ∷ []))) ∷ []))
    [] (ok ∷ ok ∷ ok ∷ ok ∷ ok ∷ ok ∷ [])
    ≡ quiet (sent 0 ∷ sent 1 ∷ sent 99 ∷ sent 10 ∷ sent 11 ∷ sent 99 ∷ []) [] Ended
unfolding run_body execute turns evaluate call wrap operate compare slots_of
inner_break_leaves_inner_loop = refl

-- `int k; do { k++; if (k == 2) continue; send_command(k); } while (k < 3);`
continue_goes_to_test_of_do : runs 3 no_variables
    (body_from (declare 0 ∷ do_ (Do (block (
    eval (Increment increment.PostIncrement (Local 0)) ∷
    do_ (If (Compare comparison.Equal local (Literal 2)) Continue) ∷
    do_ (send local) ∷ [])) (Compare comparison.Less local (Literal 3))) ∷ []))
    [] (ok ∷ ok ∷ [])
    ≡ quiet (sent 1 ∷ sent 3 ∷ []) [] Ended
unfolding run_body execute turns_of_do evaluate call wrap operate compare slots_of
continue_goes_to_test_of_do = refl

-- `int i; while (i < 3) { i++; switch (i) { case 2: continue; default: break; } send_command(i); }`
continue_leaves_switch : runs 4 no_variables
    (body_from (declare 0 ∷ do_ (While (Compare comparison.Less local (Literal 3)) (block (
    eval (Increment increment.PostIncrement (Local 0)) ∷
    do_ (Switch local (body_from (CaseLabel (pos 2) ∷ do_ Continue ∷ DefaultLabel ∷ do_ Break
    ∷ []))) ∷
    do_ (send local) ∷ []))) ∷ []))
    [] (ok ∷ ok ∷ [])
    ≡ quiet (sent 1 ∷ sent 3 ∷ []) [] Ended
unfolding run_body execute turns evaluate call wrap operate compare slots_of
continue_leaves_switch = refl

-- ---- operators and functions

abbrev minus : ℕ → E
minus n = Unary unary_operator.Minus (Literal n)

abbrev sends : E → Body Target
sends e = body_from (do_ (send e) ∷ [])

-- `send_command(1 || (x = 5));` leaves x as it is
or_is_short : runs 1 int4 (sends (LogicalOr (Literal 1) (Assign (var 0) (Literal 5)))) (pos 7 ∷ [])
    (ok ∷ []) ≡ quiet (sent 1 ∷ []) (pos 7 ∷ []) Ended
unfolding run_body execute evaluate call wrap slots_of
or_is_short = refl

-- `send_command(0 || 7);` sends a truth value
or_is_a_truth : runs 1 no_variables (sends (LogicalOr (Literal 0) (Literal 7))) [] (ok ∷ [])
    ≡ quiet (sent 1 ∷ []) [] Ended
unfolding run_body execute evaluate call wrap slots_of
or_is_a_truth = refl

-- `send_command(0 ? (x = 1) : 9);` evaluates one side
one_side : runs 1 int4 (sends (Conditional (Literal 0) (Assign (var 0) (Literal 1)) (Literal 9)))
    (pos 7 ∷ []) (ok ∷ []) ≡ quiet (sent 9 ∷ []) (pos 7 ∷ []) Ended
unfolding run_body execute evaluate call wrap slots_of
one_side = refl

-- `abort(); PUT_MESSAGE("n");`
aborts_by_itself : runs 1 no_variables
    (body_from (eval (calls builtin.Abort []) ∷ do_ (print (codes "n")) ∷ [])) [] (ok ∷ []) ≡
    record {
      requests = [];
      changes = [];
      values = [];
      abort_methods = [];
      answers = ok ∷ [];
      ending = Aborted;
    }
unfolding run_body execute evaluate call slots_of
aborts_by_itself = refl

-- `send_command(lassign(x, 300));` over an UNSIGNED_INTEGER (1): x is 44, and the value of the call
-- 0
assigns : runs 1 unsigned1
    (sends (calls builtin.Lassign (Value (Reference (var 0)) ∷ Value (Literal 300) ∷ [])))
    (pos 7 ∷ []) (ok ∷ [])
    ≡ record {
      requests = sent 0 ∷ [];
      changes = changed 0 (pos 44) ∷ [];
      values = pos 44 ∷ [];
      abort_methods = [];
      answers = [];
      ending = Ended;
    }
unfolding run_body execute evaluate call wrap store operate slots_of
assigns = refl

-- `send_command(ivar_value(x)); save_values();` where x is -3
saves : runs 1 int4 (body_from
    (do_ (send (calls builtin.IvarValue (Value (Reference (var 0)) ∷ [])))
    ∷ eval (calls (builtin.Ask kind.SaveValues) []) ∷ [])) (negsuc 2 ∷ []) (ok ∷ ok ∷ [])
    ≡ quiet (sends_number (negsuc 2) ∷ asked kind.SaveValues [] ∷ []) (negsuc 2 ∷ []) Ended
unfolding run_body execute evaluate call wrap slots_of
saves = refl

-- `send_command(SELECT_FROM_LIST("a", "b;c"));` sends the number that was chosen
selects : runs 1 no_variables
    (sends (calls (builtin.Ask kind.SelectFromList) (Text (text (codes "a")) ∷ Text (text (codes "b;c"))
    ∷ []))) [] (Go (pos 1) [] ∷ ok ∷ [])
    ≡ quiet (asked kind.SelectFromList
    (TextArgument (says (codes "a")) ∷ TextArgument (says (codes "b;c")) ∷ []) ∷ sent 1 ∷ []) [] Ended
unfolding run_body execute evaluate call wrap words_of pieces unescape slots_of
selects = refl

-- x is an UNSIGNED_INTEGER (1) that holds 255, y an INTEGER (4)
abbrev byte_and_number : Environment
byte_and_number = record {
  variables = record { type = var_type.UnsignedInteger; size = 1 }
      ∷ record { type = var_type.Integer; size = 4 } ∷ [];
  elements = [];
}

-- `y = x++;` gives what x was
after_it : runs 1 byte_and_number
    (body_from (eval (Assign (var 1) (Increment increment.PostIncrement (var 0))) ∷ []))
    (pos 255 ∷ pos 7 ∷ []) []
    ≡ record {
      requests = [];
      changes = changed 0 (pos 0) ∷ changed 1 (pos 255) ∷ [];
      values = pos 0
          ∷ pos 255 ∷ [];
      abort_methods = [];
      answers = [];
      ending = Ended;
    }
unfolding run_body execute evaluate wrap store operate slots_of
after_it = refl

-- `y = ++x;` gives what is read back of x
before_it : runs 1 byte_and_number
    (body_from (eval (Assign (var 1) (Increment increment.PreIncrement (var 0))) ∷ []))
    (pos 255 ∷ pos 7 ∷ []) []
    ≡ record {
      requests = [];
      changes = changed 0 (pos 0) ∷ changed 1 (pos 0) ∷ [];
      values = pos 0
          ∷ pos 0 ∷ [];
      abort_methods = [];
      answers = [];
      ending = Ended;
    }
unfolding run_body execute evaluate wrap store operate slots_of
before_it = refl

-- `send_command(-7 % 3); send_command(-7 >> 1);`: a remainder has the sign of what is divided, and
-- a shift keeps the sign
negative_operands : runs 1 no_variables
    (body_from (do_ (send (Binary operator.Remainder (minus 7) (Literal 3)))
    ∷ do_ (send (Binary operator.ShiftRight (minus 7) (Literal 1))) ∷ [])) [] (ok ∷ ok ∷ [])
    ≡ quiet (sends_number (negsuc 0) ∷ sends_number (negsuc 3) ∷ []) [] Ended
unfolding run_body execute evaluate call wrap operate apply slots_of
negative_operands = refl

-- `switch (2) { case 1: int i = 5; case 2: send_command(i); }`: a declaration that is jumped over
-- leaves its local at 0
jumped_over : runs 1 no_variables
    (body_from (do_ (Switch (Literal 2)
    (body_from (CaseLabel (pos 1)
    ∷ Declare (record { place = Local 0; value = Some (Literal 5) } ∷ []) ∷ CaseLabel (pos 2)
    ∷ do_ (send local) ∷ []))) ∷ [])) [] (ok ∷ [])
    ≡ quiet (sent 0 ∷ []) [] Ended
unfolding run_body execute evaluate call wrap slots_of
jumped_over = refl
