-- The nodes and the height of trees. The left side of an assignment, the reference of `++` and
-- texts are no nodes.
use Rattle.std.specs.Prelude.{ℕ, ◌+◌, max, Bool, true, false, if◌then◌else◌, List, [], ◌∷◌, length, map, sum, Option, Some, None}
use Rattle.std.specs.List.{list_any}
use Rattle.edd_syntax.specs.Expression as expr
use Rattle.edd_syntax.specs.Expression.{Expr, Indexed, Parentheses, Unary, Binary, Compare, LogicalAnd, LogicalOr, Conditional, Assign, CompoundAssign, Call, Text, Arguments}
use Rattle.edd_syntax.specs.Conditional as cond
use Rattle.edd_syntax.specs.Conditional.{Cond, Value, If, Select, Conds, Arms, NoArms, ConsArm, Case, Default}
use Rattle.edd_syntax.specs.Statement as s
use Rattle.edd_syntax.specs.Statement.{Declarator, Stmt, Body, Nil, Cons, Declare, Statement, CaseLabel, DefaultLabel}
use Rattle.edd_syntax.specs.Item as item
use Rattle.edd_syntax.specs.Item.{TypePart, TransactionPart, Attribute, Item, Description}

-- ---- nodes

-- the nodes of an expression
abbrev mutual
  pub nodes : {R : Type 0} → Expr R → ℕ
  nodes (Indexed array index) = 1 + nodes index
  nodes (Parentheses inner) = 1 + nodes inner
  nodes (Unary op operand) = 1 + nodes operand
  nodes (Binary op left right) = 1 + (nodes left + nodes right)
  nodes (Compare by left right) = 1 + (nodes left + nodes right)
  nodes (LogicalAnd left right) = 1 + (nodes left + nodes right)
  nodes (LogicalOr left right) = 1 + (nodes left + nodes right)
  nodes (Conditional test first second) = 1 + (nodes test + (nodes first + nodes second))
  nodes (Assign to value) = 1 + nodes value
  nodes (CompoundAssign op to value) = 1 + nodes value
  nodes (Call function arguments) = 1 + argument_nodes arguments
  nodes _ = 1

  -- of arguments
  pub argument_nodes : {R : Type 0} → Arguments R → ℕ
  argument_nodes expr.Nil = 0
  argument_nodes (expr.Cons (Text text) rest) = argument_nodes rest
  argument_nodes (expr.Cons (expr.Value e) rest) = nodes e + argument_nodes rest

-- A single value is a node with the nodes `of` it; in a list each element is one node. So are IF,
-- SELECT, CASE and DEFAULT.
abbrev mutual
  pub cond_nodes : {R V : Type 0} → (of : V → ℕ) → Cond R V → ℕ
  cond_nodes of (Value v) = 1 + of v
  cond_nodes of (If condition first otherwise) =
      1 + (nodes condition + (conds_nodes of first + conds_nodes of otherwise))
  cond_nodes of (Select on arms) = 1 + (nodes on + arms_nodes of arms)

  -- of conditionals one after the other
  pub conds_nodes : {R V : Type 0} → (of : V → ℕ) → Conds R V → ℕ
  conds_nodes of cond.Nil = 0
  conds_nodes of (cond.Cons first rest) = cond_nodes of first + conds_nodes of rest

  -- of the arms of a SELECT
  pub arms_nodes : {R V : Type 0} → (of : V → ℕ) → Arms R V → ℕ
  arms_nodes of NoArms = 0
  arms_nodes of (ConsArm (Case label body) rest) = 1 + (conds_nodes of body + arms_nodes of rest)
  arms_nodes of (ConsArm (Default body) rest) = 1 + (conds_nodes of body + arms_nodes of rest)

-- of an expression that may be missing
abbrev pub optional_nodes : {R : Type 0} → Option (Expr R) → ℕ
optional_nodes None = 0
optional_nodes (Some e) = nodes e

-- each declarator is a node
abbrev pub declarator_nodes : {R : Type 0} → List (Declarator R) → ℕ
declarator_nodes [] = 0
declarator_nodes (d ∷ rest) = 1 + (optional_nodes d.value + declarator_nodes rest)

-- the nodes of a statement
abbrev mutual
  pub statement_nodes : {R : Type 0} → Stmt R → ℕ
  statement_nodes (s.Evaluate e) = 1 + nodes e
  statement_nodes (s.Block body) = 1 + body_nodes body
  statement_nodes (s.If condition first) = 1 + (nodes condition + statement_nodes first)
  statement_nodes (s.IfElse condition first otherwise) =
      1 + (nodes condition + (statement_nodes first + statement_nodes otherwise))
  statement_nodes (s.While condition body) = 1 + (nodes condition + statement_nodes body)
  statement_nodes (s.Do body condition) = 1 + (statement_nodes body + nodes condition)
  statement_nodes (s.For initial condition update body) =
      1 + (optional_nodes initial
      + (optional_nodes condition + (optional_nodes update + statement_nodes body)))
  statement_nodes (s.Switch on body) = 1 + (nodes on + body_nodes body)
  statement_nodes _ = 1

  -- each declaration, statement and label is a node
  pub body_nodes : {R : Type 0} → Body R → ℕ
  body_nodes Nil = 0
  body_nodes (Cons (Declare declarators) rest) =
      1 + (declarator_nodes declarators + body_nodes rest)
  body_nodes (Cons (Statement statement) rest) = statement_nodes statement + body_nodes rest
  body_nodes (Cons (CaseLabel label) rest) = 1 + body_nodes rest
  body_nodes (Cons DefaultLabel rest) = 1 + body_nodes rest

-- nothing below a value
abbrev pub leaf : {V : Type 0} → V → ℕ
leaf v = 0

-- each option of a type is a node, and each enumerator
abbrev pub type_part_nodes : {R : Type 0} → TypePart R → ℕ
type_part_nodes (item.OneNumber which c) = 1 + cond_nodes nodes c
type_part_nodes (item.OneFormat which c) = 1 + cond_nodes leaf c
type_part_nodes (item.Element c) = cond_nodes leaf c

-- the part is an element of the type's list
abbrev pub is_element : {R : Type 0} → TypePart R → Bool
is_element (item.Element c) = true
is_element _ = false

-- the nodes of a REQUEST or a REPLY
abbrev pub transaction_part_nodes : {R : Type 0} → TransactionPart R → ℕ
transaction_part_nodes (item.Request all) = 1 + conds_nodes leaf all
transaction_part_nodes (item.Reply all) = 1 + conds_nodes leaf all

-- Each written attribute is a node, and so is each class word, response code, member and element of
-- an array. The elements of a type's list are together one more.
abbrev pub attribute_nodes : {R : Type 0} → Attribute R → ℕ
attribute_nodes (item.OneText which c) = 1 + cond_nodes leaf c
attribute_nodes (item.Class words) = 1 + length words
attribute_nodes (item.Handling c) = 1 + cond_nodes leaf c
attribute_nodes (item.Validity c) = 1 + cond_nodes leaf c
attribute_nodes (item.TypeOf word parts) =
    1 + ((if list_any is_element parts then 1 else 0) + sum (map type_part_nodes parts))
attribute_nodes (item.Number n) = 1
attribute_nodes (item.Operation o) = 1
attribute_nodes (item.Transaction number parts) = 1 + sum (map transaction_part_nodes parts)
attribute_nodes (item.ResponseCodes responses) = 1 + length responses
attribute_nodes (item.Items entries) = 1 + conds_nodes leaf entries
attribute_nodes (item.Members members) = 1 + length members
attribute_nodes (item.Elements elements) = 1 + length elements
attribute_nodes (item.Definition body) = 1 + body_nodes body

-- of an item
abbrev pub item_nodes : {R : Type 0} → Item R → ℕ
item_nodes i = sum (map attribute_nodes i.attributes)

-- of a description
abbrev pub unit_nodes : {R : Type 0} → Description R → ℕ
unit_nodes unit = sum (map item_nodes unit.items)

-- ---- height: what is counted on the longest way down

-- the height of an expression
abbrev mutual
  pub height : {R : Type 0} → Expr R → ℕ
  height (Indexed array index) = 1 + height index
  height (Parentheses inner) = 1 + height inner
  height (Unary op operand) = 1 + height operand
  height (Binary op left right) = 1 + max (height left) (height right)
  height (Compare by left right) = 1 + max (height left) (height right)
  height (LogicalAnd left right) = 1 + max (height left) (height right)
  height (LogicalOr left right) = 1 + max (height left) (height right)
  height (Conditional test first second) =
      1 + max (height test) (max (height first) (height second))
  height (Assign to value) = 1 + height value
  height (CompoundAssign op to value) = 1 + height value
  height (Call function arguments) = 1 + argument_height arguments
  height _ = 1

  -- of arguments
  pub argument_height : {R : Type 0} → Arguments R → ℕ
  argument_height expr.Nil = 0
  argument_height (expr.Cons (Text text) rest) = argument_height rest
  argument_height (expr.Cons (expr.Value e) rest) = max (height e) (argument_height rest)

-- of a conditional whose values have the height that `of` says
abbrev mutual
  pub cond_height : {R V : Type 0} → (of : V → ℕ) → Cond R V → ℕ
  cond_height of (Value v) = 1 + of v
  cond_height of (If condition first otherwise) =
      1 + max (height condition) (max (conds_height of first) (conds_height of otherwise))
  cond_height of (Select on arms) = 1 + max (height on) (arms_height of arms)

  -- of conditionals one after the other
  pub conds_height : {R V : Type 0} → (of : V → ℕ) → Conds R V → ℕ
  conds_height of cond.Nil = 0
  conds_height of (cond.Cons first rest) = max (cond_height of first) (conds_height of rest)

  -- of the arms of a SELECT
  pub arms_height : {R V : Type 0} → (of : V → ℕ) → Arms R V → ℕ
  arms_height of NoArms = 0
  arms_height of (ConsArm (Case label body) rest) = max (conds_height of body) (arms_height of rest)
  arms_height of (ConsArm (Default body) rest) = max (conds_height of body) (arms_height of rest)

-- of an expression that may be missing
abbrev pub optional_height : {R : Type 0} → Option (Expr R) → ℕ
optional_height None = 0
optional_height (Some e) = height e

-- of declarators
abbrev pub declarator_height : {R : Type 0} → List (Declarator R) → ℕ
declarator_height [] = 0
declarator_height (d ∷ rest) = max (1 + optional_height d.value) (declarator_height rest)

-- the height of a statement
abbrev mutual
  pub statement_height : {R : Type 0} → Stmt R → ℕ
  statement_height (s.Evaluate e) = 1 + height e
  statement_height (s.Block body) = 1 + body_height body
  statement_height (s.If condition first) = 1 + max (height condition) (statement_height first)
  statement_height (s.IfElse condition first otherwise) =
      1 + max (height condition) (max (statement_height first) (statement_height otherwise))
  statement_height (s.While condition body) = 1 + max (height condition) (statement_height body)
  statement_height (s.Do body condition) = 1 + max (statement_height body) (height condition)
  statement_height (s.For initial condition update body) =
      1 + max (max (optional_height initial) (optional_height condition))
      (max (optional_height update) (statement_height body))
  statement_height (s.Switch on body) = 1 + max (height on) (body_height body)
  statement_height _ = 1

  -- of a body
  pub body_height : {R : Type 0} → Body R → ℕ
  body_height Nil = 0
  body_height (Cons (Declare declarators) rest) = max (1 + declarator_height declarators)
      (body_height rest)
  body_height (Cons (Statement statement) rest) =
      max (statement_height statement) (body_height rest)
  body_height (Cons (CaseLabel label) rest) = body_height rest
  body_height (Cons DefaultLabel rest) = body_height rest

-- of an option of a type, or of an element of its list
abbrev pub type_part_height : {R : Type 0} → TypePart R → ℕ
type_part_height (item.OneNumber which c) = cond_height height c
type_part_height (item.OneFormat which c) = cond_height leaf c
type_part_height (item.Element c) = cond_height leaf c

-- of a REQUEST or a REPLY
abbrev pub transaction_part_height : {R : Type 0} → TransactionPart R → ℕ
transaction_part_height (item.Request all) = conds_height leaf all
transaction_part_height (item.Reply all) = conds_height leaf all

-- the greatest of some heights
abbrev pub greatest_of : List ℕ → ℕ
greatest_of [] = 0
greatest_of (n ∷ rest) = max n (greatest_of rest)

-- attributes and transactions themselves don't count
abbrev pub attribute_height : {R : Type 0} → Attribute R → ℕ
attribute_height (item.OneText which c) = cond_height leaf c
attribute_height (item.Handling c) = cond_height leaf c
attribute_height (item.Validity c) = cond_height leaf c
attribute_height (item.TypeOf word parts) = greatest_of (map type_part_height parts)
attribute_height (item.Transaction number parts) = greatest_of (map transaction_part_height parts)
attribute_height (item.Items entries) = conds_height leaf entries
attribute_height (item.Definition body) = body_height body
attribute_height _ = 0

-- of an item
abbrev pub item_height : {R : Type 0} → Item R → ℕ
item_height i = greatest_of (map attribute_height i.attributes)

-- the greatest height that a tree may have
abbrev pub height_limit : ℕ
height_limit = 100
