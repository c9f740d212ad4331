-- The trees of a unit with the meaning of each name in its place. A tree with a name that means
-- nothing has none.
use Rattle.std.specs.Prelude.{ℕ, ◌+◌, List, [], ◌∷◌, length, Option, Some, None}
use Rattle.edd_syntax.specs.declared.numbers.Kind.{Kind}
use Rattle.edd_syntax.specs.Reference.{Path, Target, Local}
use Rattle.edd_syntax.specs.Expression as expr
use Rattle.edd_syntax.specs.Expression.{Expr, Literal, Decimal, Reference, Indexed, Parentheses, Unary, Binary, Compare, LogicalAnd, LogicalOr, Conditional, Assign, CompoundAssign, Increment, Call, Text, Arguments}
use Rattle.edd_syntax.specs.Conditional as cond
use Rattle.edd_syntax.specs.Conditional.{Cond, Value, If, Select, Conds, Arms, NoArms, ConsArm, Case, Default}
use Rattle.edd_syntax.specs.Statement as s
use Rattle.edd_syntax.specs.Statement.{Declarator, Stmt, Body, Nil, Cons, Declare, Statement, CaseLabel, DefaultLabel, slots_of}
use Rattle.edd_syntax.specs.Item as item
use Rattle.edd_syntax.specs.Item.{ItemKind, TypePart, TransactionPart, Attribute, Description}
use Rattle.edd_syntax.specs.Resolution.{Scope, meaning, array_meant, function_meant, variable_kinds, argument_kinds, entry_kinds, member_kinds, declared, all_declared}

-- one after another, as long as each has a value
infixl 10 ◌>>=◌
-- goes on with the value; None where either step has none
abbrev pub ◌>>=◌ : {A B : Type 0} → Option A → (A → Option B) → Option B
Some x >>= next = next x
None >>= next = None

-- the values of all, if each has one
abbrev pub each : {A B : Type 0} → (A → Option B) → List A → Option (List B)
each of [] = Some []
each of (x ∷ rest) = do y ← of x; others ← each of rest; Some (y ∷ others)

-- what names mean at a place: a reference, a plain reference that is an argument of a function, the
-- name of an array before an index, and the name of a function
pub record Meanings : Type 0 where
  pub reference : Path → Option Target
  pub argument : (function : Path) → Path → Option Target
  pub array : Path → Option Target
  pub function : Path → Option Target

-- what names mean at all places: a reference where items of these kinds may be, the name of an
-- array before an index, and the name of a function
pub record Reading : Type 0 where
  pub reference : Scope → (kinds : List Kind) → Path → Option Target
  pub array : Scope → Path → Option Target
  pub function : Path → Option Target

-- what they mean in a unit
abbrev pub meant_in : Description Path → Reading
meant_in unit = record {
  reference = meaning unit;
  array = array_meant unit;
  function = function_meant;
}

-- ---- expressions, at a place where `at` says what names mean

module _ (at : Meanings) where
  unfoldable mutual
    -- where `plain` says what a plain reference means
    pub resolved_by : (plain : Path → Option Target) → Expr Path → Option (Expr Target)
    resolved_by plain (Literal value) = Some (Literal value)
    resolved_by plain Decimal = Some Decimal
    resolved_by plain (Reference from) = do from' ← plain from; Some (Reference from')
    resolved_by plain (Indexed array index) = do
      array' ← at.array array
      index' ← resolved_by at.reference index
      Some (Indexed array' index')
    resolved_by plain (Parentheses inner) = do
      inner' ← resolved_by at.reference inner
      Some (Parentheses inner')
    resolved_by plain (Unary op operand) = do
      operand' ← resolved_by at.reference operand
      Some (Unary op operand')
    resolved_by plain (Binary op left right) = do
      left' ← resolved_by at.reference left
      right' ← resolved_by at.reference right
      Some (Binary op left' right')
    resolved_by plain (Compare by left right) = do
      left' ← resolved_by at.reference left
      right' ← resolved_by at.reference right
      Some (Compare by left' right')
    resolved_by plain (LogicalAnd left right) = do
      left' ← resolved_by at.reference left
      right' ← resolved_by at.reference right
      Some (LogicalAnd left' right')
    resolved_by plain (LogicalOr left right) = do
      left' ← resolved_by at.reference left
      right' ← resolved_by at.reference right
      Some (LogicalOr left' right')
    resolved_by plain (Conditional test first second) = do
      test' ← resolved_by at.reference test
      first' ← resolved_by at.reference first
      second' ← resolved_by at.reference second
      Some (Conditional test' first' second')
    resolved_by plain (Assign to value) = do
      to' ← at.reference to
      value' ← resolved_by at.reference value
      Some (Assign to' value')
    resolved_by plain (CompoundAssign op to value) = do
      to' ← at.reference to
      value' ← resolved_by at.reference value
      Some (CompoundAssign op to' value')
    resolved_by plain (Increment op to) = do to' ← at.reference to; Some (Increment op to')
    resolved_by plain (Call name arguments) = do
      function ← at.function name
      arguments' ← resolved_arguments (at.argument name) arguments
      Some (Call function arguments')

    -- arguments, in the same way
    pub resolved_arguments : (plain : Path → Option Target) → Arguments Path
        → Option (Arguments Target)
    resolved_arguments plain expr.Nil = Some expr.Nil
    resolved_arguments plain (expr.Cons (Text text) rest) = do
      rest' ← resolved_arguments plain rest
      Some (expr.Cons (Text text) rest')
    resolved_arguments plain (expr.Cons (expr.Value e) rest) = do
      e' ← resolved_by plain e
      rest' ← resolved_arguments plain rest
      Some (expr.Cons (expr.Value e') rest')

  -- an expression that is no argument of a function
  abbrev pub resolved_expr : Expr Path → Option (Expr Target)
  resolved_expr e = resolved_by at.reference e

  -- a part that may be missing
  abbrev pub resolved_optional : Option (Expr Path) → Option (Option (Expr Target))
  resolved_optional None = Some None
  resolved_optional (Some e) = do e' ← resolved_expr e; Some (Some e')

  -- conditionals, whose values are resolved by `of`
  unfoldable mutual
    pub resolved_cond : {V W : Type 0} → (of : V → Option W) → Cond Path V → Option (Cond Target W)
    resolved_cond of (Value v) = do w ← of v; Some (Value w)
    resolved_cond of (If condition first otherwise) = do
      condition' ← resolved_expr condition
      first' ← resolved_conds of first
      otherwise' ← resolved_conds of otherwise
      Some (If condition' first' otherwise')
    resolved_cond of (Select on arms) = do
      on' ← resolved_expr on
      arms' ← resolved_arms of arms
      Some (Select on' arms')

    -- conditionals one after the other
    pub resolved_conds : {V W : Type 0} → (of : V → Option W) → Conds Path V
        → Option (Conds Target W)
    resolved_conds of cond.Nil = Some cond.Nil
    resolved_conds of (cond.Cons first rest) = do
      first' ← resolved_cond of first
      rest' ← resolved_conds of rest
      Some (cond.Cons first' rest')

    -- the arms of a SELECT
    pub resolved_arms : {V W : Type 0} → (of : V → Option W) → Arms Path V → Option (Arms Target W)
    resolved_arms of NoArms = Some NoArms
    resolved_arms of (ConsArm (Case label body) rest) = do
      body' ← resolved_conds of body
      rest' ← resolved_arms of rest
      Some (ConsArm (Case label body') rest')
    resolved_arms of (ConsArm (Default body) rest) = do
      body' ← resolved_conds of body
      rest' ← resolved_arms of rest
      Some (ConsArm (Default body') rest')

-- a value without references
abbrev pub unchanged : {V : Type 0} → V → Option V
unchanged v = Some v

module _ (names : Reading) where
  -- ---- statements: `next` is the slot of the next declarator of the method

  -- what names mean where these locals can be used
  abbrev pub at_scope : Scope → Meanings
  at_scope scope = record {
    reference = names.reference scope variable_kinds;
    argument = λ function. names.reference scope (argument_kinds function);
    array = names.array scope;
    function = names.function;
  }

  -- a local can be used after its own declarator
  abbrev pub resolved_declarators : Scope → (next : ℕ) → List (Declarator Path)
      → Option (List (Declarator Target))
  resolved_declarators scope next [] = Some []
  resolved_declarators scope next (d ∷ rest) = do
    value ← resolved_optional (at_scope scope) d.value
    others ← resolved_declarators (declared d.place next scope) (next + 1) rest
    Some (record { place = Local next; value = value } ∷ others)

  -- a statement, in which the locals of `scope` can be used
  unfoldable mutual
    pub resolved_stmt : Stmt Path → Scope → (next : ℕ) → Option (Stmt Target)
    resolved_stmt s.Empty scope next = Some s.Empty
    resolved_stmt (s.Evaluate e) scope next = do
      e' ← resolved_expr (at_scope scope) e
      Some (s.Evaluate e')
    resolved_stmt (s.Block body) scope next = do
      body' ← resolved_body body scope next
      Some (s.Block body')
    resolved_stmt (s.If condition first) scope next = do
      condition' ← resolved_expr (at_scope scope) condition
      first' ← resolved_stmt first scope next
      Some (s.If condition' first')
    resolved_stmt (s.IfElse condition first otherwise) scope next = do
      condition' ← resolved_expr (at_scope scope) condition
      first' ← resolved_stmt first scope next
      otherwise' ← resolved_stmt otherwise scope (next + slots_of first)
      Some (s.IfElse condition' first' otherwise')
    resolved_stmt (s.While condition body) scope next = do
      condition' ← resolved_expr (at_scope scope) condition
      body' ← resolved_stmt body scope next
      Some (s.While condition' body')
    resolved_stmt (s.Do body condition) scope next = do
      body' ← resolved_stmt body scope next
      condition' ← resolved_expr (at_scope scope) condition
      Some (s.Do body' condition')
    resolved_stmt (s.For initial condition update body) scope next = do
      initial' ← resolved_optional (at_scope scope) initial
      condition' ← resolved_optional (at_scope scope) condition
      update' ← resolved_optional (at_scope scope) update
      body' ← resolved_stmt body scope next
      Some (s.For initial' condition' update' body')
    resolved_stmt (s.Switch on body) scope next = do
      on' ← resolved_expr (at_scope scope) on
      body' ← resolved_body body scope next
      Some (s.Switch on' body')
    resolved_stmt s.Break scope next = Some s.Break
    resolved_stmt s.Continue scope next = Some s.Continue
    resolved_stmt s.Return scope next = Some s.Return

    -- the rest of a block, in which the locals of `scope` can be used
    pub resolved_body : Body Path → Scope → (next : ℕ) → Option (Body Target)
    resolved_body Nil scope next = Some Nil
    resolved_body (Cons (Declare declarators) rest) scope next = do
      declarators' ← resolved_declarators scope next declarators
      rest' ← resolved_body rest (all_declared scope next declarators) (next + length declarators)
      Some (Cons (Declare declarators') rest')
    resolved_body (Cons (Statement first) rest) scope next = do
      first' ← resolved_stmt first scope next
      rest' ← resolved_body rest scope (next + slots_of first)
      Some (Cons (Statement first') rest')
    resolved_body (Cons (CaseLabel label) rest) scope next = do
      rest' ← resolved_body rest scope next
      Some (Cons (CaseLabel label) rest')
    resolved_body (Cons DefaultLabel rest) scope next = do
      rest' ← resolved_body rest scope next
      Some (Cons DefaultLabel rest')

  -- ---- attributes, in which no local can be used

  -- what a path means where an item of these kinds may be
  abbrev pub item_among : List Kind → Path → Option Target
  item_among kinds = names.reference [] kinds

  -- what names mean in an attribute
  abbrev pub at_attribute : Meanings
  at_attribute = at_scope []

  -- an entry of a menu
  abbrev pub resolved_entry : item.MenuEntry Path → Option (item.MenuEntry Target)
  resolved_entry (item.Text text) = Some (item.Text text)
  resolved_entry (item.Reference to qualifiers) = do
    to' ← item_among entry_kinds to
    Some (item.Reference to' qualifiers)

  -- a data item
  abbrev pub resolved_data : item.DataItem Path → Option (item.DataItem Target)
  resolved_data (item.Constant n) = Some (item.Constant n)
  resolved_data (item.Variable variable mask qualifiers) = do
    variable' ← item_among variable_kinds variable
    Some (item.Variable variable' mask qualifiers)

  -- a member of a collection, whose item is of one of these kinds
  abbrev pub resolved_member : (kinds : List Kind) → item.Member Path → Option (item.Member Target)
  resolved_member kinds m = do
    item' ← item_among kinds m.item
    Some (record { name = m.name; item = item'; label = m.label; help = m.help })

  -- an element of an array
  abbrev pub resolved_element : item.ArrayElement Path → Option (item.ArrayElement Target)
  resolved_element e = do
    variable' ← item_among variable_kinds e.variable
    Some (record { number = e.number; variable = variable'; label = e.label; help = e.help })

  -- a conditional whose values have no references
  abbrev resolved_one : {V : Type 0} → Cond Path V → Option (Cond Target V)
  resolved_one = resolved_cond at_attribute unchanged

  -- an option of a type, or an element of its list
  abbrev pub resolved_type_part : TypePart Path → Option (TypePart Target)
  resolved_type_part (item.OneNumber which c) = do
    c' ← resolved_cond at_attribute (resolved_expr at_attribute) c
    Some (item.OneNumber which c')
  resolved_type_part (item.OneFormat which c) = do c' ← resolved_one c; Some (item.OneFormat which c')
  resolved_type_part (item.Element c) = do c' ← resolved_one c; Some (item.Element c')

  -- a REQUEST or a REPLY
  abbrev pub resolved_transaction_part : TransactionPart Path → Option (TransactionPart Target)
  resolved_transaction_part (item.Request all) = do
    all' ← resolved_conds at_attribute resolved_data all
    Some (item.Request all')
  resolved_transaction_part (item.Reply all) = do
    all' ← resolved_conds at_attribute resolved_data all
    Some (item.Reply all')

  -- an attribute of this kind of item
  abbrev pub resolved_attribute : ItemKind → Attribute Path → Option (Attribute Target)
  resolved_attribute sort (item.OneText which c) = do
    c' ← resolved_one c
    Some (item.OneText which c')
  resolved_attribute sort (item.Class words) = Some (item.Class words)
  resolved_attribute sort (item.Handling c) = do c' ← resolved_one c; Some (item.Handling c')
  resolved_attribute sort (item.Validity c) = do c' ← resolved_one c; Some (item.Validity c')
  resolved_attribute sort (item.TypeOf word parts) = do
    parts' ← each resolved_type_part parts
    Some (item.TypeOf word parts')
  resolved_attribute sort (item.Number n) = Some (item.Number n)
  resolved_attribute sort (item.Operation o) = Some (item.Operation o)
  resolved_attribute sort (item.Transaction number parts) = do
    parts' ← each resolved_transaction_part parts
    Some (item.Transaction number parts')
  resolved_attribute sort (item.ResponseCodes responses) = Some (item.ResponseCodes responses)
  resolved_attribute sort (item.Items entries) = do
    entries' ← resolved_conds at_attribute resolved_entry entries
    Some (item.Items entries')
  resolved_attribute sort (item.Members members) = do
    members' ← each (resolved_member (member_kinds sort)) members
    Some (item.Members members')
  resolved_attribute sort (item.Elements elements) = do
    elements' ← each resolved_element elements
    Some (item.Elements elements')
  resolved_attribute sort (item.Definition body) = do
    body' ← resolved_body body [] 0
    Some (item.Definition body')

  -- an item
  abbrev pub resolved_item : item.Item Path → Option (item.Item Target)
  resolved_item i = do
    attributes ← each (resolved_attribute i.sort) i.attributes
    Some (record { sort = i.sort; name = i.name; attributes = attributes })

-- the unit with the meaning of each name in its place
unfoldable pub resolved_unit : Description Path → Option (Description Target)
resolved_unit unit = do
  items ← each (resolved_item (meant_in unit)) unit.items
  Some (record { identification = unit.identification; items = items })
