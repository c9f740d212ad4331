-- How the bodies of methods, their answers and what they do are written in this crate.
use Rattle.std.specs.Prelude.{ℕ, ℤ, pos, List, [], ◌∷◌, Some, None}
use Rattle.edd_syntax.specs.declared.numbers.ItemNo.TheVariants as item_no
use Rattle.edd_syntax.specs.declared.operators.UnaryOperator.TheVariants.{Minus}
use Rattle.edd_syntax.specs.declared.operators.Builtin.{Builtin}
use Rattle.edd_syntax.specs.declared.operators.Builtin.TheVariants as builtin
use Rattle.edd_syntax.specs.declared.operators.RequestKind.TheVariants as kind
use Rattle.edd_syntax.specs.declared.types.VarType.TheVariants as var_type
use Rattle.edd_syntax.specs.Text.{Quoted}
use Rattle.edd_syntax.specs.declared.reference.Target.{Target}
use Rattle.edd_syntax.specs.declared.reference.Target.TheVariants.{Local, Item, Function}
use Rattle.edd_syntax.specs.Expression.{Expr, Literal, Reference, Unary, Call, Argument, Text, Value, arguments_from}
use Rattle.edd_syntax.specs.Statement.{Stmt, Evaluate, Part, Declare, Statement, body_from, slots_in}
use Rattle.edd_syntax.specs.Words.{Variants, english}
use Rattle.edd_syntax.specs.DeviceValues.{VariableType}
use Rattle.edd_syntax.specs.Device.{Environment}
use Rattle.edd_syntax.specs.MethodState as asks
use Rattle.edd_syntax.specs.MethodState.{Request}
use Rattle.edd_syntax.specs.Answers.{Change, Answer, Go}
use Rattle.edd_syntax.specs.Execution.{Ending, Transcript, opening, run_body}

-- ---- sources

-- the variables x and y, and the locals i and k
abbrev pub variable : ℕ → Target
variable n = Item (item_no.Variable (record { 0 = n }))

-- the first variable
abbrev pub x : Target
x = variable 0

-- the second variable
abbrev pub y : Target
y = variable 1

-- the first local
abbrev pub i : Target
i = Local 0

-- the second local
abbrev pub k : Target
k = Local 1

-- a reference as an expression
abbrev pub value_of : Target → Expr Target
value_of t = Reference t

-- `-n`
abbrev pub minus : ℕ → Expr Target
minus n = Unary Minus (Literal n)

-- a call of this function
abbrev pub calls : Builtin → List (Argument Target) → Expr Target
calls b arguments = Call (Function b) (arguments_from arguments)

-- `ACKNOWLEDGE("..")`
abbrev pub acknowledge : List ℕ → Expr Target
acknowledge text = calls (builtin.Ask kind.Acknowledge) (Text (Quoted text) ∷ [])

-- a statement in a body
abbrev pub does : Stmt Target → Part Target
does s = Statement s

-- an expression as a statement in a body
abbrev pub evaluates : Expr Target → Part Target
evaluates e = Statement (Evaluate e)

-- `send_command(e);`
abbrev pub send : Expr Target → Part Target
send e = evaluates (calls (builtin.Ask kind.SendCommand) (Value e ∷ []))

-- `int i;` and `int i = e;` of a local
abbrev pub declares : (slot : ℕ) → Part Target
declares slot = Declare (record { place = Local slot; value = None } ∷ [])

-- `int i = e;` of a local
abbrev pub declares_as : (slot : ℕ) → Expr Target → Part Target
declares_as slot e = Declare (record { place = Local slot; value = Some e } ∷ [])

-- ---- devices

-- INTEGER of this size
abbrev pub integer : (size : ℕ) → VariableType
integer size = record { type = var_type.Integer; size = size }

-- UNSIGNED_INTEGER of this size
abbrev pub unsigned : (size : ℕ) → VariableType
unsigned size = record { type = var_type.UnsignedInteger; size = size }

-- variables of these types, and no arrays
abbrev pub of_types : List VariableType → Environment
of_types types = record { variables = types; elements = [] }

-- ---- answers and runs

-- the variable of this number got the value
abbrev pub changed : (variable : ℕ) → ℤ → Change
changed variable value = record { variable = record { 0 = variable }; value = value }

-- the answer with the code 0, which sets nothing
abbrev pub ok : Answer
ok = Go (pos 0) []

-- the request that `send` and `acknowledge` make
abbrev pub sent : ℤ → Request
sent n = record { kind = kind.SendCommand; arguments = asks.NumberArgument n ∷ [] }

-- the request of `acknowledge`, with its text in English
abbrev pub acknowledges : List ℕ → Request
acknowledges text = record {
  kind = kind.Acknowledge;
  arguments = asks.TextArgument (Variants (record { code = english; text = text }) []) ∷ [];
}

-- what these statements do within three turns of each loop
abbrev pub runs : List VariableType → List (Part Target) → (values : List ℤ) → List Answer
    → Transcript
runs types parts values answers = run_body 3 (of_types types) (body_from parts)
    (opening (slots_in (body_from parts)) values answers)

-- what it did, with no answer left
abbrev pub did : List Request → List Change → (values : List ℤ) → Ending → Transcript
did requests changes values ending = record {
  requests = requests;
  changes = changes;
  values = values;
  abort_methods = [];
  answers = [];
  ending = ending;
}
