-- The uses of names in a unit, in the order of the source.
use Rattle.std.specs.Prelude.{ℕ, ◌+◌, List, [], ◌∷◌, ◌++◌, length, Option, Some, None}
use Rattle.std.specs.List.{flat_map}
use Rattle.edd_syntax.specs.declared.numbers.Kind.{Kind}
use Rattle.edd_syntax.specs.Reference.{Path}
use Rattle.edd_syntax.specs.Expression as expr
use Rattle.edd_syntax.specs.Expression.{Expr, Literal, Decimal, Reference, Indexed, Parentheses, Unary, Binary, Compare, LogicalAnd, LogicalOr, Conditional, Assign, CompoundAssign, Increment, Call, Text, Arguments}
use Rattle.edd_syntax.specs.Conditional as cond
use Rattle.edd_syntax.specs.Conditional.{Cond, Value, If, Select, Conds, Arms, NoArms, ConsArm, Case, Default}
use Rattle.edd_syntax.specs.Statement as s
use Rattle.edd_syntax.specs.Statement.{Declarator, Stmt, Body, Nil, Cons, Declare, Statement, CaseLabel, DefaultLabel, slots_of}
use Rattle.edd_syntax.specs.Item as item
use Rattle.edd_syntax.specs.Item.{ItemKind, TypePart, TransactionPart, Attribute, Description}
use Rattle.edd_syntax.specs.Resolution.{Scope, variable_kinds, argument_kinds, entry_kinds, member_kinds, declared, all_declared}

-- a use of a name: a reference, with the locals that can be used there and the kinds of items that
-- may be there, an array before an index, or a call
pub data Use : Type 0 where
  OfItem : Scope → (kinds : List Kind) → Path → Use
  OfArray : Scope → Path → Use
  OfFunction : Path → Use

-- ---- expressions, from left to right

abbrev mutual
  -- where a plain reference names an item of these kinds
  pub uses_among : Scope → (kinds : List Kind) → Expr Path → List Use
  uses_among scope kinds (Literal value) = []
  uses_among scope kinds Decimal = []
  uses_among scope kinds (Reference from) = OfItem scope kinds from ∷ []
  uses_among scope kinds (Indexed array index) = OfArray scope array
      ∷ uses_among scope variable_kinds index
  uses_among scope kinds (Parentheses inner) = uses_among scope variable_kinds inner
  uses_among scope kinds (Unary op operand) = uses_among scope variable_kinds operand
  uses_among scope kinds (Binary op left right) = uses_among scope variable_kinds left
      ++ uses_among scope variable_kinds right
  uses_among scope kinds (Compare by left right) = uses_among scope variable_kinds left
      ++ uses_among scope variable_kinds right
  uses_among scope kinds (LogicalAnd left right) = uses_among scope variable_kinds left
      ++ uses_among scope variable_kinds right
  uses_among scope kinds (LogicalOr left right) = uses_among scope variable_kinds left
      ++ uses_among scope variable_kinds right
  uses_among scope kinds (Conditional test first second) = uses_among scope variable_kinds test
      ++ (uses_among scope variable_kinds first ++ uses_among scope variable_kinds second)
  uses_among scope kinds (Assign to value) = OfItem scope variable_kinds to
      ∷ uses_among scope variable_kinds value
  uses_among scope kinds (CompoundAssign op to value) = OfItem scope variable_kinds to
      ∷ uses_among scope variable_kinds value
  uses_among scope kinds (Increment op to) = OfItem scope variable_kinds to ∷ []
  uses_among scope kinds (Call function arguments) = OfFunction function
      ∷ argument_uses scope (argument_kinds function) arguments

  -- in arguments, where a plain reference names an item of these kinds
  pub argument_uses : Scope → (kinds : List Kind) → Arguments Path → List Use
  argument_uses scope kinds expr.Nil = []
  argument_uses scope kinds (expr.Cons (Text text) rest) = argument_uses scope kinds rest
  argument_uses scope kinds (expr.Cons (expr.Value e) rest) = uses_among scope kinds e
      ++ argument_uses scope kinds rest

-- where a plain reference names a variable
abbrev pub expr_uses : Scope → Expr Path → List Use
expr_uses scope e = uses_among scope variable_kinds e

-- in an expression that may be missing
abbrev pub optional_uses : Scope → Option (Expr Path) → List Use
optional_uses scope None = []
optional_uses scope (Some e) = expr_uses scope e

-- ---- statements: `next` is the slot of the next declarator of the method

-- in the values of declarators, each of which can be used after itself
abbrev pub declarator_uses : Scope → (next : ℕ) → List (Declarator Path) → List Use
declarator_uses scope next [] = []
declarator_uses scope next (d ∷ rest) = optional_uses scope d.value
    ++ declarator_uses (declared d.place next scope) (next + 1) rest

-- in a statement
abbrev mutual
  pub stmt_uses : Stmt Path → Scope → (next : ℕ) → List Use
  stmt_uses (s.Evaluate e) scope next = expr_uses scope e
  stmt_uses (s.Block body) scope next = body_uses body scope next
  stmt_uses (s.If condition first) scope next = expr_uses scope condition
      ++ stmt_uses first scope next
  stmt_uses (s.IfElse condition first otherwise) scope next =
      expr_uses scope condition
      ++ (stmt_uses first scope next ++ stmt_uses otherwise scope (next + slots_of first))
  stmt_uses (s.While condition body) scope next = expr_uses scope condition
      ++ stmt_uses body scope next
  stmt_uses (s.Do body condition) scope next = stmt_uses body scope next
      ++ expr_uses scope condition
  stmt_uses (s.For initial condition update body) scope next =
      optional_uses scope initial
      ++ (optional_uses scope condition
      ++ (optional_uses scope update ++ stmt_uses body scope next))
  stmt_uses (s.Switch on body) scope next = expr_uses scope on ++ body_uses body scope next
  stmt_uses _ scope next = []

  -- in a body
  pub body_uses : Body Path → Scope → (next : ℕ) → List Use
  body_uses Nil scope next = []
  body_uses (Cons (Declare declarators) rest) scope next =
      declarator_uses scope next declarators ++ body_uses rest (all_declared scope next declarators)
      (next + length declarators)
  body_uses (Cons (Statement first) rest) scope next = stmt_uses first scope next
      ++ body_uses rest scope (next + slots_of first)
  body_uses (Cons (CaseLabel label) rest) scope next = body_uses rest scope next
  body_uses (Cons DefaultLabel rest) scope next = body_uses rest scope next

-- ---- attributes, in which no local can be used; `of` gives the uses in a value

-- in an expression of an attribute
abbrev pub attribute_expr_uses : Expr Path → List Use
attribute_expr_uses = expr_uses []

-- in a conditional
abbrev mutual
  pub cond_uses : {V : Type 0} → (of : V → List Use) → Cond Path V → List Use
  cond_uses of (Value v) = of v
  cond_uses of (If condition first otherwise) = attribute_expr_uses condition
      ++ (conds_uses of first ++ conds_uses of otherwise)
  cond_uses of (Select on arms) = attribute_expr_uses on ++ arms_uses of arms

  -- in conditionals one after the other
  pub conds_uses : {V : Type 0} → (of : V → List Use) → Conds Path V → List Use
  conds_uses of cond.Nil = []
  conds_uses of (cond.Cons first rest) = cond_uses of first ++ conds_uses of rest

  -- in the arms of a SELECT
  pub arms_uses : {V : Type 0} → (of : V → List Use) → Arms Path V → List Use
  arms_uses of NoArms = []
  arms_uses of (ConsArm (Case label body) rest) = conds_uses of body ++ arms_uses of rest
  arms_uses of (ConsArm (Default body) rest) = conds_uses of body ++ arms_uses of rest

-- in a value without references
abbrev pub no_uses : {V : Type 0} → V → List Use
no_uses v = []

-- in an entry of a menu
abbrev pub entry_uses : item.MenuEntry Path → List Use
entry_uses (item.Text text) = []
entry_uses (item.Reference to qualifiers) = OfItem [] entry_kinds to ∷ []

-- in a data item
abbrev pub data_uses : item.DataItem Path → List Use
data_uses (item.Constant n) = []
data_uses (item.Variable variable mask qualifiers) = OfItem [] variable_kinds variable ∷ []

-- in an option of a type, or in an element of its list
abbrev pub type_part_uses : TypePart Path → List Use
type_part_uses (item.OneNumber which c) = cond_uses attribute_expr_uses c
type_part_uses (item.OneFormat which c) = cond_uses no_uses c
type_part_uses (item.Element c) = cond_uses no_uses c

-- in a REQUEST or a REPLY
abbrev pub transaction_part_uses : TransactionPart Path → List Use
transaction_part_uses (item.Request all) = conds_uses data_uses all
transaction_part_uses (item.Reply all) = conds_uses data_uses all

-- in an attribute of this kind of item
abbrev pub attribute_uses : ItemKind → Attribute Path → List Use
attribute_uses sort (item.OneText which c) = cond_uses no_uses c
attribute_uses sort (item.Handling c) = cond_uses no_uses c
attribute_uses sort (item.Validity c) = cond_uses no_uses c
attribute_uses sort (item.TypeOf word parts) = flat_map type_part_uses parts
attribute_uses sort (item.Transaction number parts) = flat_map transaction_part_uses parts
attribute_uses sort (item.Items entries) = conds_uses entry_uses entries
attribute_uses sort (item.Members members) =
    flat_map (λ m. OfItem [] (member_kinds sort) m.item ∷ []) members
attribute_uses sort (item.Elements elements) =
    flat_map (λ e. OfItem [] variable_kinds e.variable ∷ []) elements
attribute_uses sort (item.Definition body) = body_uses body [] 0
attribute_uses sort _ = []

-- in an item
abbrev pub item_uses : item.Item Path → List Use
item_uses i = flat_map (attribute_uses i.sort) i.attributes

-- in a description
abbrev pub unit_uses : Description Path → List Use
unit_uses unit = flat_map item_uses unit.items
