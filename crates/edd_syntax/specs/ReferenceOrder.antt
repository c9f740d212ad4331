-- The references of a tree, in the order of the source: one for each use of a name.
use Rattle.std.specs.Prelude.{List, [], ◌∷◌, ◌++◌, Option, Some, None}
use Rattle.std.specs.List.{flat_map}
use Rattle.edd_syntax.specs.Expression as expr
use Rattle.edd_syntax.specs.Expression.{Expr, Literal, Decimal, Reference, Indexed, Parentheses, Unary, Binary, Compare, LogicalAnd, LogicalOr, Conditional, Assign, CompoundAssign, Increment, Call, Text, Arguments}
use Rattle.edd_syntax.specs.Conditional as cond
use Rattle.edd_syntax.specs.Conditional.{Cond, Value, If, Select, Conds, Arms, NoArms, ConsArm, Case, Default}
use Rattle.edd_syntax.specs.Statement as s
use Rattle.edd_syntax.specs.Statement.{Declarator, Stmt, Body, Nil, Cons, Declare, Statement, CaseLabel, DefaultLabel}
use Rattle.edd_syntax.specs.Item as item
use Rattle.edd_syntax.specs.Item.{TypePart, TransactionPart, Attribute}

-- ---- expressions

-- of an expression
abbrev mutual
  pub expr_references : {R : Type 0} → Expr R → List R
  expr_references (Literal value) = []
  expr_references Decimal = []
  expr_references (Reference from) = from ∷ []
  expr_references (Indexed array index) = array ∷ expr_references index
  expr_references (Parentheses inner) = expr_references inner
  expr_references (Unary op operand) = expr_references operand
  expr_references (Binary op left right) = expr_references left ++ expr_references right
  expr_references (Compare by left right) = expr_references left ++ expr_references right
  expr_references (LogicalAnd left right) = expr_references left ++ expr_references right
  expr_references (LogicalOr left right) = expr_references left ++ expr_references right
  expr_references (Conditional test first second) = expr_references test
      ++ (expr_references first ++ expr_references second)
  expr_references (Assign to value) = to ∷ expr_references value
  expr_references (CompoundAssign op to value) = to ∷ expr_references value
  expr_references (Increment op to) = to ∷ []
  expr_references (Call function arguments) = function ∷ argument_references arguments

  -- of arguments
  pub argument_references : {R : Type 0} → Arguments R → List R
  argument_references expr.Nil = []
  argument_references (expr.Cons (Text text) rest) = argument_references rest
  argument_references (expr.Cons (expr.Value e) rest) = expr_references e
      ++ argument_references rest

-- of an expression that may be missing
abbrev pub optional_references : {R : Type 0} → Option (Expr R) → List R
optional_references None = []
optional_references (Some e) = expr_references e

-- ---- statements

-- of the values of declarators; what they declare is no use
abbrev pub declarator_references : {R : Type 0} → List (Declarator R) → List R
declarator_references [] = []
declarator_references (d ∷ rest) = optional_references d.value ++ declarator_references rest

-- of a statement
abbrev mutual
  pub stmt_references : {R : Type 0} → Stmt R → List R
  stmt_references (s.Evaluate e) = expr_references e
  stmt_references (s.Block body) = body_references body
  stmt_references (s.If condition first) = expr_references condition ++ stmt_references first
  stmt_references (s.IfElse condition first otherwise) = expr_references condition
      ++ (stmt_references first ++ stmt_references otherwise)
  stmt_references (s.While condition body) = expr_references condition ++ stmt_references body
  stmt_references (s.Do body condition) = stmt_references body ++ expr_references condition
  stmt_references (s.For initial condition update body) =
      optional_references initial
      ++ (optional_references condition
      ++ (optional_references update ++ stmt_references body))
  stmt_references (s.Switch on body) = expr_references on ++ body_references body
  stmt_references _ = []

  -- of a body
  pub body_references : {R : Type 0} → Body R → List R
  body_references Nil = []
  body_references (Cons (Declare declarators) rest) = declarator_references declarators
      ++ body_references rest
  body_references (Cons (Statement first) rest) = stmt_references first ++ body_references rest
  body_references (Cons (CaseLabel label) rest) = body_references rest
  body_references (Cons DefaultLabel rest) = body_references rest

-- ---- attributes; `of` gives the references of a value

-- of a conditional
abbrev mutual
  pub cond_references : {R V : Type 0} → (of : V → List R) → Cond R V → List R
  cond_references of (Value v) = of v
  cond_references of (If condition first otherwise) = expr_references condition
      ++ (conds_references of first ++ conds_references of otherwise)
  cond_references of (Select on arms) = expr_references on ++ arms_references of arms

  -- of conditionals one after the other
  pub conds_references : {R V : Type 0} → (of : V → List R) → Conds R V → List R
  conds_references of cond.Nil = []
  conds_references of (cond.Cons first rest) = cond_references of first
      ++ conds_references of rest

  -- of the arms of a SELECT
  pub arms_references : {R V : Type 0} → (of : V → List R) → Arms R V → List R
  arms_references of NoArms = []
  arms_references of (ConsArm (Case label body) rest) = conds_references of body
      ++ arms_references of rest
  arms_references of (ConsArm (Default body) rest) = conds_references of body
      ++ arms_references of rest

-- of a value that has none
abbrev pub no_references : {R V : Type 0} → V → List R
no_references v = []

-- of an entry of a menu
abbrev pub entry_references : {R : Type 0} → item.MenuEntry R → List R
entry_references (item.Text text) = []
entry_references (item.Reference to qualifiers) = to ∷ []

-- of a data item
abbrev pub data_references : {R : Type 0} → item.DataItem R → List R
data_references (item.Constant n) = []
data_references (item.Variable variable mask qualifiers) = variable ∷ []

-- of an option of a type, or of an element of its list
abbrev pub type_part_references : {R : Type 0} → TypePart R → List R
type_part_references (item.OneNumber which c) = cond_references expr_references c
type_part_references (item.OneFormat which c) = cond_references no_references c
type_part_references (item.Element c) = cond_references no_references c

-- of a REQUEST or a REPLY
abbrev pub transaction_part_references : {R : Type 0} → TransactionPart R → List R
transaction_part_references (item.Request all) = conds_references data_references all
transaction_part_references (item.Reply all) = conds_references data_references all

-- of a member of a collection
abbrev pub member_references : {R : Type 0} → item.Member R → List R
member_references m = m.item ∷ []

-- of an element of an array
abbrev pub element_references : {R : Type 0} → item.ArrayElement R → List R
element_references e = e.variable ∷ []

-- of an attribute
abbrev pub attribute_references : {R : Type 0} → Attribute R → List R
attribute_references (item.OneText which c) = cond_references no_references c
attribute_references (item.Handling c) = cond_references no_references c
attribute_references (item.Validity c) = cond_references no_references c
attribute_references (item.TypeOf word parts) = flat_map type_part_references parts
attribute_references (item.Transaction number parts) = flat_map transaction_part_references parts
attribute_references (item.Items entries) = conds_references entry_references entries
attribute_references (item.Members members) = flat_map member_references members
attribute_references (item.Elements elements) = flat_map element_references elements
attribute_references (item.Definition body) = body_references body
attribute_references _ = []

-- of an item
abbrev pub item_references : {R : Type 0} → item.Item R → List R
item_references i = flat_map attribute_references i.attributes
