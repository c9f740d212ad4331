-- What the trees of a unit keep. `good` tests a reference, and `plain` a reference that has to be a
-- plain name: that of a called function, of a declared local, of an array, and of the item of a
-- member or an element.
use Rattle.std.specs.Prelude.{ℕ, ◌^◌, Bool, true, false, not, ◌&&◌, nat_le, nat_lt, ℤ, unsigned_abs, List, [], ◌∷◌, Option, Some, None}
use Rattle.std.specs.List.{list_all}
use Rattle.edd_syntax.specs.declared.numbers.Kind.{Kind}
use Rattle.edd_syntax.specs.declared.numbers.Kind.TheVariants as kind
use Rattle.edd_syntax.specs.Text as texts
use Rattle.edd_syntax.specs.Text.{Quoted, Key}
use Rattle.edd_syntax.specs.Names.{is_name}
use Rattle.edd_syntax.specs.Reference.{Path}
use Rattle.edd_syntax.specs.Expression as expr
use Rattle.edd_syntax.specs.Expression.{Expr, Literal, Decimal, Reference, Indexed, Parentheses, Unary, Binary, Compare, LogicalAnd, LogicalOr, Conditional, Assign, CompoundAssign, Increment, Call, Text, Arguments}
use Rattle.edd_syntax.specs.Conditional as cond
use Rattle.edd_syntax.specs.Conditional.{Cond, Value, If, Select, Conds, Arms, NoArms, ConsArm, Case, Default}
use Rattle.edd_syntax.specs.Statement as s
use Rattle.edd_syntax.specs.Statement.{Declarator, Stmt, Body, Nil, Cons, Declare, Statement, CaseLabel, DefaultLabel}
use Rattle.edd_syntax.specs.Item as item
use Rattle.edd_syntax.specs.Item.{attr_of, ItemKind, CollectionItem, kind_of_item, TypePart, TransactionPart, Attribute, Item}
use Rattle.edd_syntax.specs.Numbers.{has_attr, same_kind}
use Rattle.edd_syntax.specs.Words.{has_escapes}
use Rattle.edd_syntax.specs.Size.{attribute_height, height_limit}

-- ---- names, numbers and texts that are tokens

-- 0 to 4294967295
abbrev pub is_number : ℕ → Bool
is_number n = nat_lt n (2 ^ 32)

-- a number, or its negative
abbrev pub is_label : ℤ → Bool
is_label z = is_number (unsigned_abs z)

-- in a raw text each backslash begins an escape
abbrev pub is_text : texts.Text → Bool
is_text (Quoted raw) = has_escapes raw
is_text (Key name) = is_name name

-- what passes the test, or is missing
abbrev pub if_some : {A : Type 0} → (A → Bool) → Option A → Bool
if_some test None = true
if_some test (Some x) = test x

-- there is one at least
abbrev pub is_not_empty : {A : Type 0} → List A → Bool
is_not_empty [] = false
is_not_empty (x ∷ rest) = true

-- each part of a path is a name
abbrev pub is_path : Path → Bool
is_path p = is_name p.base && list_all is_name p.members

-- a name without members
abbrev pub is_plain : Path → Bool
is_plain p = is_name p.base && not (is_not_empty p.members)

-- an attribute of this kind of item
abbrev pub belongs_to : {R : Type 0} → Kind → Attribute R → Bool
belongs_to k (item.TypeOf word parts) = same_kind k kind.Variable
belongs_to k a = has_attr k (attr_of a)

-- each attribute of an item is one that its kind may have
abbrev pub has_own_attributes : {R : Type 0} → Item R → Bool
has_own_attributes i = list_all (belongs_to (kind_of_item i.sort)) i.attributes

-- no member of a collection is an array
abbrev pub may_list : ItemKind → Bool
may_list (CollectionItem of) = not (same_kind of kind.Array)
may_list _ = true

-- ---- trees

module _ {R : Type 0} (good plain : R → Bool) where
  -- an expression of a method
  abbrev mutual
    pub is_expr : Expr R → Bool
    is_expr (Literal value) = is_number value
    is_expr Decimal = true
    is_expr (Reference from) = good from
    is_expr (Indexed array index) = good array && plain array && is_expr index
    is_expr (Parentheses inner) = is_expr inner
    is_expr (Unary op operand) = is_expr operand
    is_expr (Binary op left right) = is_expr left && is_expr right
    is_expr (Compare by left right) = is_expr left && is_expr right
    is_expr (LogicalAnd left right) = is_expr left && is_expr right
    is_expr (LogicalOr left right) = is_expr left && is_expr right
    is_expr (Conditional test first second) = is_expr test && is_expr first && is_expr second
    is_expr (Assign to value) = good to && is_expr value
    is_expr (CompoundAssign op to value) = good to && is_expr value
    is_expr (Increment op to) = good to
    is_expr (Call function arguments) = plain function && are_arguments arguments

    -- arguments, each a text or an expression of a method
    pub are_arguments : Arguments R → Bool
    are_arguments expr.Nil = true
    are_arguments (expr.Cons (Text text) rest) = is_text text && are_arguments rest
    are_arguments (expr.Cons (expr.Value e) rest) = is_expr e && are_arguments rest

  -- an expression of an attribute, which has no assignment, increment or call
  abbrev pub is_pure_expr : Expr R → Bool
  is_pure_expr (Literal value) = is_number value
  is_pure_expr Decimal = true
  is_pure_expr (Reference from) = good from
  is_pure_expr (Indexed array index) = good array && plain array && is_pure_expr index
  is_pure_expr (Parentheses inner) = is_pure_expr inner
  is_pure_expr (Unary op operand) = is_pure_expr operand
  is_pure_expr (Binary op left right) = is_pure_expr left && is_pure_expr right
  is_pure_expr (Compare by left right) = is_pure_expr left && is_pure_expr right
  is_pure_expr (LogicalAnd left right) = is_pure_expr left && is_pure_expr right
  is_pure_expr (LogicalOr left right) = is_pure_expr left && is_pure_expr right
  is_pure_expr (Conditional test first second) = is_pure_expr test && is_pure_expr first
      && is_pure_expr second
  is_pure_expr _ = false

  -- a conditional, whose values pass `of`
  abbrev mutual
    pub is_cond : {V : Type 0} → (V → Bool) → Cond R V → Bool
    is_cond of (Value v) = of v
    is_cond of (If condition first otherwise) = is_pure_expr condition && are_conds of first
        && are_conds of otherwise
    is_cond of (Select on arms) = is_pure_expr on && are_arms of arms

    -- conditionals, whose values pass `of`
    pub are_conds : {V : Type 0} → (V → Bool) → Conds R V → Bool
    are_conds of cond.Nil = true
    are_conds of (cond.Cons first rest) = is_cond of first && are_conds of rest

    -- arms, whose values pass `of`
    pub are_arms : {V : Type 0} → (V → Bool) → Arms R V → Bool
    are_arms of NoArms = true
    are_arms of (ConsArm (Case label body) rest) = is_label label && are_conds of body
        && are_arms of rest
    are_arms of (ConsArm (Default body) rest) = are_conds of body && are_arms of rest

  -- exactly one value in each branch; ELSE may be missing
  abbrev mutual
    pub is_single : {V : Type 0} → Cond R V → Bool
    is_single (Value v) = true
    is_single (If condition first otherwise) = is_one first && is_at_most_one otherwise
    is_single (Select on arms) = are_single_arms arms

    -- exactly one, and this is single
    pub is_one : {V : Type 0} → Conds R V → Bool
    is_one cond.Nil = false
    is_one (cond.Cons first cond.Nil) = is_single first
    is_one (cond.Cons first (cond.Cons second rest)) = false

    -- none, or one that is single
    pub is_at_most_one : {V : Type 0} → Conds R V → Bool
    is_at_most_one cond.Nil = true
    is_at_most_one (cond.Cons first cond.Nil) = is_single first
    is_at_most_one (cond.Cons first (cond.Cons second rest)) = false

    -- each arm has exactly one
    pub are_single_arms : {V : Type 0} → Arms R V → Bool
    are_single_arms NoArms = true
    are_single_arms (ConsArm (Case label body) rest) = is_one body && are_single_arms rest
    are_single_arms (ConsArm (Default body) rest) = is_one body && are_single_arms rest

  -- the plain name of a local, with its value if one is written
  abbrev pub is_declarator : Declarator R → Bool
  is_declarator d = plain d.place && if_some is_expr d.value

  -- labels are directly in a `switch` alone
  abbrev mutual
    pub is_stmt : Stmt R → Bool
    is_stmt (s.Evaluate e) = is_expr e
    is_stmt (s.Block body) = is_body false body
    is_stmt (s.If condition first) = is_expr condition && is_stmt first
    is_stmt (s.IfElse condition first otherwise) = is_expr condition && is_stmt first
        && is_stmt otherwise
    is_stmt (s.While condition body) = is_expr condition && is_stmt body
    is_stmt (s.Do body condition) = is_stmt body && is_expr condition
    is_stmt (s.For initial condition update body) =
        if_some is_expr initial && if_some is_expr condition && if_some is_expr update
        && is_stmt body
    is_stmt (s.Switch on body) = is_expr on && is_body true body
    is_stmt _ = true

    -- what is between braces, where `labels` says whether labels may be
    pub is_body : (labels : Bool) → Body R → Bool
    is_body labels Nil = true
    is_body labels (Cons (Declare declarators) rest) = is_not_empty declarators
        && list_all is_declarator declarators && is_body labels rest
    is_body labels (Cons (Statement statement) rest) = is_stmt statement && is_body labels rest
    is_body labels (Cons (CaseLabel label) rest) = labels && is_label label && is_body labels rest
    is_body labels (Cons DefaultLabel rest) = labels && is_body labels rest

  -- ---- attributes

  -- a single value
  abbrev one : {V : Type 0} → (V → Bool) → Cond R V → Bool
  one of c = is_cond of c && is_single c

  -- each value passes
  abbrev any_value : {V : Type 0} → V → Bool
  any_value v = true

  -- value, text and help of an enumerator
  abbrev pub is_enumerator : item.Enumerator → Bool
  is_enumerator e = is_label e.value && is_text e.text && if_some is_text e.help

  -- an entry of a menu
  abbrev pub is_entry : item.MenuEntry R → Bool
  is_entry (item.Text text) = is_text text
  is_entry (item.Reference to qualifiers) = good to

  -- a data item
  abbrev pub is_data_item : item.DataItem R → Bool
  is_data_item (item.Constant n) = is_number n
  is_data_item (item.Variable variable mask qualifiers) = good variable && if_some is_number mask

  -- a response code
  abbrev pub is_response_code : item.ResponseCode → Bool
  is_response_code r = is_number r.number && is_text r.text

  -- a member of a collection
  abbrev pub is_member : item.Member R → Bool
  is_member m = is_name m.name && plain m.item && if_some is_text m.label && if_some is_text m.help

  -- an element of an array
  abbrev pub is_array_element : item.ArrayElement R → Bool
  is_array_element e = is_number e.number && plain e.variable && if_some is_text e.label
      && if_some is_text e.help

  -- an option of a type with a single value, or an element of its list
  abbrev pub is_type_part : TypePart R → Bool
  is_type_part (item.OneNumber which c) = one is_pure_expr c
  is_type_part (item.OneFormat which c) = one is_text c
  is_type_part (item.Element c) = is_cond is_enumerator c

  -- of a type of another word nothing but the word is kept
  abbrev pub is_type : item.TypeWord → List (TypePart R) → Bool
  is_type (item.Known type size) parts = if_some is_number size && list_all is_type_part parts
  is_type (item.Other word) parts = is_name word && not (is_not_empty parts)

  -- a REQUEST or a REPLY
  abbrev pub is_transaction_part : TransactionPart R → Bool
  is_transaction_part (item.Request all) = are_conds is_data_item all
  is_transaction_part (item.Reply all) = are_conds is_data_item all

  -- an attribute, of whatever kind of item
  abbrev pub is_attribute : Attribute R → Bool
  is_attribute (item.OneText which c) = one is_text c
  is_attribute (item.Class words) = is_not_empty words && list_all is_name words
  is_attribute (item.Handling c) = one any_value c
  is_attribute (item.Validity c) = one any_value c
  is_attribute (item.TypeOf word parts) = is_type word parts
  is_attribute (item.Number n) = is_number n
  is_attribute (item.Operation o) = true
  is_attribute (item.Transaction number parts) = if_some is_number number
      && list_all is_transaction_part parts
  is_attribute (item.ResponseCodes responses) = list_all is_response_code responses
  is_attribute (item.Items entries) = are_conds is_entry entries
  is_attribute (item.Members members) = list_all is_member members
  is_attribute (item.Elements elements) = list_all is_array_element elements
  is_attribute (item.Definition body) = is_body false body

  -- an attribute that may be in this kind of item, of a height within the limit
  abbrev pub stands_in : Kind → Attribute R → Bool
  stands_in k a = belongs_to k a && is_attribute a && nat_le (attribute_height a) height_limit

  -- an item with its name and its attributes
  abbrev pub is_item : Item R → Bool
  is_item i = is_name i.name && may_list i.sort
      && list_all (stands_in (kind_of_item i.sort)) i.attributes

-- the items of a unit as the parser makes it
unfoldable pub are_items : List (Item Path) → Bool
are_items all = list_all (is_item is_path is_plain) all
