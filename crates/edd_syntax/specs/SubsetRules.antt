-- The rules of the profile on a description whose names have their meanings, each as the list of
-- its breaches in the order of the source.
use Rattle.std.specs.Prelude.{ℕ, Bool, true, false, not, ◌||◌, ◌&&◌, nat_lt, ◌==◌, if◌then◌else◌, ℤ, List, [], ◌∷◌, ◌++◌, map, Option, Some, None, codes}
use Rattle.std.specs.Str.{bytes_eq}
use Rattle.std.specs.List.{list_any, flat_map}
use Rattle.std.specs.Ordering.{int_eq}
use Rattle.edd_syntax.specs.declared.numbers.NumberOption.TheVariants as number_option
use Rattle.edd_syntax.specs.declared.numbers.ItemNo.TheVariants as item_no
use Rattle.edd_syntax.specs.declared.operators.Builtin.{Builtin}
use Rattle.edd_syntax.specs.declared.operators.Builtin.TheVariants as builtin
use Rattle.edd_syntax.specs.declared.operators.Parameter.{Parameter}
use Rattle.edd_syntax.specs.declared.operators.Parameter.TheVariants as parameter
use Rattle.edd_syntax.specs.declared.types.VarType.{VarType}
use Rattle.edd_syntax.specs.declared.types.VarType.TheVariants as var_type
use Rattle.edd_syntax.specs.Builtins.{parameters}
use Rattle.edd_syntax.specs.Text.{Name}
use Rattle.edd_syntax.specs.Reference.{Target, Local, Item, Function}
use Rattle.edd_syntax.specs.TwosComplement.{wrap}
use Rattle.edd_syntax.specs.Expression as expr
use Rattle.edd_syntax.specs.Expression.{Expr, Literal, Decimal, Reference, Indexed, Parentheses, Unary, Binary, Compare, LogicalAnd, LogicalOr, Conditional, Assign, CompoundAssign, Increment, Call, Argument, Arguments}
use Rattle.edd_syntax.specs.Conditional as cond
use Rattle.edd_syntax.specs.Conditional.{Cond, Value, If, Select, Conds, Arms, NoArms, ConsArm, Case, Default}
use Rattle.edd_syntax.specs.Statement as s
use Rattle.edd_syntax.specs.Statement.{Stmt, Body, Nil, Cons, Declare, Statement, CaseLabel, DefaultLabel}
use Rattle.edd_syntax.specs.Item as item
use Rattle.edd_syntax.specs.Item.{TypePart, TransactionPart, Attribute, Description}
use Rattle.edd_syntax.specs.Refusal.{Refusal, FloatVariable, OtherType, BadSize, Mismatch, FloatValue, BreakOutside, ConstRange, DuplicateCase, DuplicateElement, refused_if}

-- ---- the types of variables: FLOAT and DOUBLE, other words, sizes other than 1 to 4 octets

-- the breach of a type as it is written for a variable
abbrev pub type_breaches : (variable : Name) → item.TypeWord → List Refusal
type_breaches variable (item.Known type None) = []
type_breaches variable (item.Known type (Some size)) = refused_if (size == 0 || nat_lt 4 size)
    (BadSize variable)
type_breaches variable (item.Other word) =
    if bytes_eq word (codes "FLOAT") || bytes_eq word (codes "DOUBLE") then FloatVariable variable
    ∷ [] else OtherType variable word ∷ []

-- the type that a TYPE writes
abbrev pub types_in : {R : Type 0} → Attribute R → List item.TypeWord
types_in (item.TypeOf word parts) = word ∷ []
types_in _ = []

-- the breaches of this rule in a description
abbrev pub wrong_types : {R : Type 0} → Description R → List Refusal
wrong_types unit = flat_map (λ i. flat_map (type_breaches i.name) (flat_map types_in i.attributes))
    unit.items

-- ---- the expressions of an attribute or a method, from left to right

-- an expression, and whether it is a whole statement
pub record Placed (R : Type 0) : Type 0 where
  pub is_statement : Bool
  pub expression : Expr R

-- an expression that is a part of something
abbrev pub part_of : {R : Type 0} → Expr R → List (Placed R)
part_of e = record { is_statement = false; expression = e } ∷ []

-- the same where it may be missing
abbrev pub optional_part : {R : Type 0} → Option (Expr R) → List (Placed R)
optional_part None = []
optional_part (Some e) = part_of e

-- the expressions of a statement
abbrev mutual
  pub stmt_expressions : {R : Type 0} → Stmt R → List (Placed R)
  stmt_expressions (s.Evaluate e) = record { is_statement = true; expression = e } ∷ []
  stmt_expressions (s.Block body) = body_expressions body
  stmt_expressions (s.If condition first) = part_of condition ++ stmt_expressions first
  stmt_expressions (s.IfElse condition first otherwise) = part_of condition
      ++ (stmt_expressions first ++ stmt_expressions otherwise)
  stmt_expressions (s.While condition body) = part_of condition ++ stmt_expressions body
  stmt_expressions (s.Do body condition) = stmt_expressions body ++ part_of condition
  stmt_expressions (s.For initial condition update body) =
      optional_part initial ++ (optional_part condition
      ++ (optional_part update ++ stmt_expressions body))
  stmt_expressions (s.Switch on body) = part_of on ++ body_expressions body
  stmt_expressions _ = []

  -- of a body
  pub body_expressions : {R : Type 0} → Body R → List (Placed R)
  body_expressions Nil = []
  body_expressions (Cons (Declare declarators) rest) = flat_map (λ d. optional_part d.value)
      declarators ++ body_expressions rest
  body_expressions (Cons (Statement first) rest) = stmt_expressions first ++ body_expressions rest
  body_expressions (Cons (CaseLabel label) rest) = body_expressions rest
  body_expressions (Cons DefaultLabel rest) = body_expressions rest

-- of conditionals, where `of` gives the expressions in a value
abbrev mutual
  pub cond_expressions : {R V : Type 0} → (of : V → List (Placed R)) → Cond R V → List (Placed R)
  cond_expressions of (Value v) = of v
  cond_expressions of (If condition first otherwise) = part_of condition
      ++ (conds_expressions of first ++ conds_expressions of otherwise)
  cond_expressions of (Select on arms) = part_of on ++ arms_expressions of arms

  -- of conditionals one after the other
  pub conds_expressions : {R V : Type 0} → (of : V → List (Placed R)) → Conds R V → List (Placed R)
  conds_expressions of cond.Nil = []
  conds_expressions of (cond.Cons first rest) = cond_expressions of first
      ++ conds_expressions of rest

  -- of the arms of a SELECT
  pub arms_expressions : {R V : Type 0} → (of : V → List (Placed R)) → Arms R V → List (Placed R)
  arms_expressions of NoArms = []
  arms_expressions of (ConsArm (Case label body) rest) = conds_expressions of body
      ++ arms_expressions of rest
  arms_expressions of (ConsArm (Default body) rest) = conds_expressions of body
      ++ arms_expressions of rest

-- a value in which there are no expressions
abbrev pub no_expressions : {R V : Type 0} → V → List (Placed R)
no_expressions v = []

-- of an option of a type, or of an element of its list
abbrev pub type_part_expressions : {R : Type 0} → TypePart R → List (Placed R)
type_part_expressions (item.OneNumber which c) = cond_expressions part_of c
type_part_expressions (item.OneFormat which c) = cond_expressions no_expressions c
type_part_expressions (item.Element c) = cond_expressions no_expressions c

-- of a REQUEST or a REPLY
abbrev pub transaction_part_expressions : {R : Type 0} → TransactionPart R → List (Placed R)
transaction_part_expressions (item.Request all) = conds_expressions no_expressions all
transaction_part_expressions (item.Reply all) = conds_expressions no_expressions all

-- of an attribute
abbrev pub attribute_expressions : {R : Type 0} → Attribute R → List (Placed R)
attribute_expressions (item.OneText which c) = cond_expressions no_expressions c
attribute_expressions (item.Handling c) = cond_expressions no_expressions c
attribute_expressions (item.Validity c) = cond_expressions no_expressions c
attribute_expressions (item.TypeOf word parts) = flat_map type_part_expressions parts
attribute_expressions (item.Transaction number parts) = flat_map transaction_part_expressions parts
attribute_expressions (item.Items entries) = conds_expressions no_expressions entries
attribute_expressions (item.Definition body) = body_expressions body
attribute_expressions _ = []

-- the attributes of all items
abbrev pub attributes_of : {R : Type 0} → Description R → List (Attribute R)
attributes_of unit = flat_map (λ i. i.attributes) unit.items

-- ---- arguments that a function can't have, and an abort that isn't a statement of its own

-- a plain reference to a VARIABLE
abbrev pub is_device_variable : Argument Target → Bool
is_device_variable (expr.Value (Reference (Item (item_no.Variable v)))) = true
is_device_variable _ = false

-- a plain reference to a METHOD
abbrev pub is_method : Argument Target → Bool
is_method (expr.Value (Reference (Item (item_no.Method m)))) = true
is_method _ = false

-- a text
abbrev pub is_text : Argument Target → Bool
is_text (expr.Text text) = true
is_text (expr.Value e) = false

-- a function may have the argument for this parameter
abbrev pub fits : Parameter → Argument Target → Bool
fits parameter.Text argument = is_text argument
fits parameter.Number argument = not (is_text argument)
fits parameter.DeviceVariable argument = is_device_variable argument
fits parameter.Method argument = is_method argument

-- there are as many arguments as parameters, and each fits
abbrev pub all_fit : List Parameter → Arguments Target → Bool
all_fit [] expr.Nil = true
all_fit [] (expr.Cons first rest) = false
all_fit (p ∷ parameters) expr.Nil = false
all_fit (p ∷ parameters) (expr.Cons first rest) = fits p first && all_fit parameters rest

-- a function that aborts
abbrev pub is_abort : Builtin → Bool
is_abort builtin.Abort = true
is_abort builtin.ProcessAbort = true
is_abort _ = false

-- the breach of one call: its arguments, an abort inside an expression, or what is no function
abbrev pub call_breaches : (is_statement : Bool) → (function : Target) → Arguments Target
    → List Refusal
call_breaches is_statement (Function f) arguments =
    refused_if (not (all_fit (parameters f) arguments) || (is_abort f && not is_statement)) Mismatch
call_breaches is_statement (Local slot) arguments = Mismatch ∷ []
call_breaches is_statement (Item i) arguments = Mismatch ∷ []

-- the breaches of all calls in an expression, which may be a whole statement
abbrev mutual
  pub call_mismatches : (is_statement : Bool) → Expr Target → List Refusal
  call_mismatches is_statement (Indexed array index) = call_mismatches false index
  call_mismatches is_statement (Parentheses inner) = call_mismatches false inner
  call_mismatches is_statement (Unary op operand) = call_mismatches false operand
  call_mismatches is_statement (Binary op left right) = call_mismatches false left
      ++ call_mismatches false right
  call_mismatches is_statement (Compare by left right) = call_mismatches false left
      ++ call_mismatches false right
  call_mismatches is_statement (LogicalAnd left right) = call_mismatches false left
      ++ call_mismatches false right
  call_mismatches is_statement (LogicalOr left right) = call_mismatches false left
      ++ call_mismatches false right
  call_mismatches is_statement (Conditional test first second) =
      call_mismatches false test ++ (call_mismatches false first ++ call_mismatches false second)
  call_mismatches is_statement (Assign to value) = call_mismatches false value
  call_mismatches is_statement (CompoundAssign op to value) = call_mismatches false value
  call_mismatches is_statement (Call function arguments) =
      call_breaches is_statement function arguments ++ argument_mismatches arguments
  call_mismatches is_statement _ = []

  -- the breaches of all calls in arguments
  pub argument_mismatches : Arguments Target → List Refusal
  argument_mismatches expr.Nil = []
  argument_mismatches (expr.Cons (expr.Text text) rest) = argument_mismatches rest
  argument_mismatches (expr.Cons (expr.Value e) rest) = call_mismatches false e
      ++ argument_mismatches rest

-- ---- options and enumerators that the type of a variable can't have

-- ENUMERATED or BIT_ENUMERATED
abbrev pub is_enumerated : VarType → Bool
is_enumerated var_type.Integer = false
is_enumerated var_type.UnsignedInteger = false
is_enumerated var_type.Enumerated = true
is_enumerated var_type.BitEnumerated = true

-- the values under any conditions
abbrev mutual
  pub values_in : {R V : Type 0} → Cond R V → List V
  values_in (Value v) = v ∷ []
  values_in (If condition first otherwise) = values_of first ++ values_of otherwise
  values_in (Select on arms) = values_under arms

  -- of conditionals one after the other
  pub values_of : {R V : Type 0} → Conds R V → List V
  values_of cond.Nil = []
  values_of (cond.Cons first rest) = values_in first ++ values_of rest

  -- of the arms of a SELECT
  pub values_under : {R V : Type 0} → Arms R V → List V
  values_under NoArms = []
  values_under (ConsArm (Case label body) rest) = values_of body ++ values_under rest
  values_under (ConsArm (Default body) rest) = values_of body ++ values_under rest

-- an enumerated type has DEFAULT_VALUE and enumerators alone, and no other type has enumerators
abbrev pub part_breaches : {R : Type 0} → VarType → TypePart R → List Refusal
part_breaches type (item.OneNumber number_option.DefaultValue c) = []
part_breaches type (item.Element c) = if is_enumerated type then [] else map (λ e. Mismatch)
    (values_in c)
part_breaches type _ = refused_if (is_enumerated type) Mismatch

-- the breaches in the braces of a TYPE
abbrev pub type_option_breaches : {R : Type 0} → Attribute R → List Refusal
type_option_breaches (item.TypeOf (item.Known type size) parts) =
    flat_map (part_breaches type) parts
type_option_breaches _ = []

-- the breaches of this rule and of the one before in a description, attribute by attribute
abbrev pub mismatches : Description Target → List Refusal
mismatches unit =
    flat_map (λ a. type_option_breaches a
    ++ flat_map (λ p. call_mismatches p.is_statement p.expression) (attribute_expressions a))
    (attributes_of unit)

-- ---- a decimal in an expression

-- a breach for each decimal in an expression
abbrev mutual
  pub decimals : {R : Type 0} → Expr R → List Refusal
  decimals (Literal value) = []
  decimals Decimal = FloatValue ∷ []
  decimals (Reference from) = []
  decimals (Indexed array index) = decimals index
  decimals (Parentheses inner) = decimals inner
  decimals (Unary op operand) = decimals operand
  decimals (Binary op left right) = decimals left ++ decimals right
  decimals (Compare by left right) = decimals left ++ decimals right
  decimals (LogicalAnd left right) = decimals left ++ decimals right
  decimals (LogicalOr left right) = decimals left ++ decimals right
  decimals (Conditional test first second) = decimals test ++ (decimals first ++ decimals second)
  decimals (Assign to value) = decimals value
  decimals (CompoundAssign op to value) = decimals value
  decimals (Increment op to) = []
  decimals (Call function arguments) = argument_decimals arguments

  -- a breach for each decimal in arguments
  pub argument_decimals : {R : Type 0} → Arguments R → List Refusal
  argument_decimals expr.Nil = []
  argument_decimals (expr.Cons (expr.Text text) rest) = argument_decimals rest
  argument_decimals (expr.Cons (expr.Value e) rest) = decimals e ++ argument_decimals rest

-- the breaches of this rule in a description
abbrev pub float_values : {R : Type 0} → Description R → List Refusal
float_values unit = flat_map (λ a. flat_map (λ p. decimals p.expression) (attribute_expressions a))
    (attributes_of unit)

-- ---- `break` outside a loop or `switch`, `continue` outside a loop

-- the breaches in a statement, which may be in a loop or in a `switch`
abbrev mutual
  pub breaks_outside : (in_loop in_switch : Bool) → Stmt Target → List Refusal
  breaks_outside in_loop in_switch s.Empty = []
  breaks_outside in_loop in_switch (s.Evaluate e) = []
  breaks_outside in_loop in_switch (s.Block body) = breaks_outside_in in_loop in_switch body
  breaks_outside in_loop in_switch (s.If condition first) = breaks_outside in_loop in_switch first
  breaks_outside in_loop in_switch (s.IfElse condition first otherwise) =
      breaks_outside in_loop in_switch first ++ breaks_outside in_loop in_switch otherwise
  breaks_outside in_loop in_switch (s.While condition body) = breaks_outside true in_switch body
  breaks_outside in_loop in_switch (s.Do body condition) = breaks_outside true in_switch body
  breaks_outside in_loop in_switch (s.For initial condition update body) =
      breaks_outside true in_switch body
  breaks_outside in_loop in_switch (s.Switch on body) = breaks_outside_in in_loop true body
  breaks_outside in_loop in_switch s.Break = refused_if (not (in_loop || in_switch)) BreakOutside
  breaks_outside in_loop in_switch s.Continue = refused_if (not in_loop) BreakOutside
  breaks_outside in_loop in_switch s.Return = []

  -- the breaches in a body, which may be in a loop or in a `switch`
  pub breaks_outside_in : (in_loop in_switch : Bool) → Body Target → List Refusal
  breaks_outside_in in_loop in_switch Nil = []
  breaks_outside_in in_loop in_switch (Cons (Statement first) rest) =
      breaks_outside in_loop in_switch first ++ breaks_outside_in in_loop in_switch rest
  breaks_outside_in in_loop in_switch (Cons _ rest) = breaks_outside_in in_loop in_switch
      rest

-- the body that a DEFINITION is
abbrev pub bodies_in : {R : Type 0} → Attribute R → List (Body R)
bodies_in (item.Definition body) = body ∷ []
bodies_in _ = []

-- the bodies of all methods
abbrev pub bodies_of : {R : Type 0} → Description R → List (Body R)
bodies_of unit = flat_map bodies_in (attributes_of unit)

-- the breaches of this rule in a description
abbrev pub wrong_breaks : Description Target → List Refusal
wrong_breaks unit = flat_map (breaks_outside_in false false) (bodies_of unit)

-- ---- a data constant over 255, a mask of 0

-- the breach of a data item
abbrev pub data_breaches : {R : Type 0} → item.DataItem R → List Refusal
data_breaches (item.Constant n) = refused_if (nat_lt 255 n) ConstRange
data_breaches (item.Variable variable None qualifiers) = []
data_breaches (item.Variable variable (Some mask) qualifiers) = refused_if (mask == 0) ConstRange

-- of a REQUEST or a REPLY
abbrev pub transaction_part_breaches : {R : Type 0} → TransactionPart R → List Refusal
transaction_part_breaches (item.Request all) = flat_map data_breaches (values_of all)
transaction_part_breaches (item.Reply all) = flat_map data_breaches (values_of all)

-- the breaches in an attribute; only a transaction has data items
abbrev pub attribute_data_breaches : {R : Type 0} → Attribute R → List Refusal
attribute_data_breaches (item.Transaction number parts) = flat_map transaction_part_breaches parts
attribute_data_breaches _ = []

-- the breaches of this rule in a description
abbrev pub wrong_constants : {R : Type 0} → Description R → List Refusal
wrong_constants unit = flat_map attribute_data_breaches (attributes_of unit)

-- ---- two equal labels, as 32 bits, or two `default` in one `switch`; two DEFAULT in one SELECT

-- the label is among these
abbrev pub is_label_in : List ℤ → ℤ → Bool
is_label_in labels z = list_any (int_eq z) labels

-- the labels of a `switch` so far, and whether it had its `default`
pub record Labels : Type 0 where
  pub cases : List ℤ
  pub has_default : Bool

-- none so far
abbrev pub no_labels : Labels
no_labels = record { cases = []; has_default = false }

-- outside a `switch` there are no labels
abbrev mutual
  pub repeated_labels : Labels → Body Target → List Refusal
  repeated_labels so_far Nil = []
  repeated_labels so_far (Cons (Declare declarators) rest) = repeated_labels so_far rest
  repeated_labels so_far (Cons (Statement first) rest) = repeated_labels_inside first
      ++ repeated_labels so_far rest
  repeated_labels so_far (Cons (CaseLabel label) rest) =
      refused_if (is_label_in so_far.cases (wrap 32 label)) DuplicateCase ++
      repeated_labels (record so_far { cases = wrap 32 label ∷ so_far.cases }) rest
  repeated_labels so_far (Cons DefaultLabel rest) =
      refused_if so_far.has_default DuplicateCase
      ++ repeated_labels (record so_far { has_default = true }) rest

  -- the breaches in the bodies inside a statement, each with labels of its own
  pub repeated_labels_inside : Stmt Target → List Refusal
  repeated_labels_inside (s.Block body) = repeated_labels no_labels body
  repeated_labels_inside (s.If condition first) = repeated_labels_inside first
  repeated_labels_inside (s.IfElse condition first otherwise) = repeated_labels_inside first
      ++ repeated_labels_inside otherwise
  repeated_labels_inside (s.While condition body) = repeated_labels_inside body
  repeated_labels_inside (s.Do body condition) = repeated_labels_inside body
  repeated_labels_inside (s.For initial condition update body) = repeated_labels_inside body
  repeated_labels_inside (s.Switch on body) = repeated_labels no_labels body
  repeated_labels_inside _ = []

-- `had` says whether the SELECT had its DEFAULT
abbrev mutual
  pub cond_defaults : {R V : Type 0} → Cond R V → List Refusal
  cond_defaults (Value v) = []
  cond_defaults (If condition first otherwise) = conds_defaults first ++ conds_defaults otherwise
  cond_defaults (Select on arms) = arms_defaults false arms

  -- of conditionals one after the other
  pub conds_defaults : {R V : Type 0} → Conds R V → List Refusal
  conds_defaults cond.Nil = []
  conds_defaults (cond.Cons first rest) = cond_defaults first ++ conds_defaults rest

  -- of the arms of a SELECT
  pub arms_defaults : {R V : Type 0} → (had : Bool) → Arms R V → List Refusal
  arms_defaults had NoArms = []
  arms_defaults had (ConsArm (Case label body) rest) = conds_defaults body ++ arms_defaults had rest
  arms_defaults had (ConsArm (Default body) rest) = refused_if had DuplicateCase
      ++ (conds_defaults body ++ arms_defaults true rest)

-- of an option of a type, or of an element of its list
abbrev pub type_part_defaults : {R : Type 0} → TypePart R → List Refusal
type_part_defaults (item.OneNumber which c) = cond_defaults c
type_part_defaults (item.OneFormat which c) = cond_defaults c
type_part_defaults (item.Element c) = cond_defaults c

-- of a REQUEST or a REPLY
abbrev pub transaction_part_defaults : {R : Type 0} → TransactionPart R → List Refusal
transaction_part_defaults (item.Request all) = conds_defaults all
transaction_part_defaults (item.Reply all) = conds_defaults all

-- the breaches in an attribute: in its conditionals, or in its body
abbrev pub repeated_cases : Attribute Target → List Refusal
repeated_cases (item.OneText which c) = cond_defaults c
repeated_cases (item.Handling c) = cond_defaults c
repeated_cases (item.Validity c) = cond_defaults c
repeated_cases (item.TypeOf word parts) = flat_map type_part_defaults parts
repeated_cases (item.Transaction number parts) = flat_map transaction_part_defaults parts
repeated_cases (item.Items entries) = conds_defaults entries
repeated_cases (item.Definition body) = repeated_labels no_labels body
repeated_cases _ = []

-- the breaches of these rules in a description
abbrev pub duplicate_cases : Description Target → List Refusal
duplicate_cases unit = flat_map repeated_cases (attributes_of unit)

-- ---- two elements of an array with one number

-- the number is among these
abbrev pub is_number_in : List ℕ → ℕ → Bool
is_number_in numbers n = list_any (λ m. n == m) numbers

-- `before` are the numbers of the elements so far
abbrev pub repeated_numbers : {R : Type 0} → (before : List ℕ) → List (item.ArrayElement R)
    → List Refusal
repeated_numbers before [] = []
repeated_numbers before (e ∷ rest) =
    refused_if (is_number_in before e.number) DuplicateElement
    ++ repeated_numbers (e.number ∷ before) rest

-- the breaches in an attribute, if it lists the elements of an array
abbrev pub repeated_elements : {R : Type 0} → Attribute R → List Refusal
repeated_elements (item.Elements elements) = repeated_numbers [] elements
repeated_elements _ = []

-- the breaches of this rule in a description
abbrev pub duplicate_elements : {R : Type 0} → Description R → List Refusal
duplicate_elements unit = flat_map repeated_elements (attributes_of unit)

-- ---- all rules of this part, in their order

-- the breaches of all rules of the profile, rule after rule
abbrev pub subset_breaches : Description Target → List Refusal
subset_breaches unit =
    wrong_types unit ++ (mismatches unit
    ++ (float_values unit ++ (wrong_breaks unit
    ++ (wrong_constants unit ++ (duplicate_cases unit ++ duplicate_elements unit)))))
