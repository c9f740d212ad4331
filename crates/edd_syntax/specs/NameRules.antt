-- The rules of a description on counts, names and attributes, each as the list of its breaches in
-- the order of the source. Of two things that clash the later one is the breach.
use Rattle.std.specs.Prelude.{ℕ, Bool, true, false, not, nat_lt, if◌then◌else◌, List, [], ◌∷◌, ◌++◌, length, map, filter, sum, Option, Some, None}
use Rattle.std.specs.List.{list_any, flat_map}
use Rattle.edd_syntax.specs.declared.limits.Limit.TheVariants as limit
use Rattle.edd_syntax.specs.declared.numbers.Kind.{Kind}
use Rattle.edd_syntax.specs.declared.numbers.Kind.TheVariants as kind
use Rattle.edd_syntax.specs.declared.numbers.ItemNo.{ItemNo}
use Rattle.edd_syntax.specs.declared.numbers.Attr.TheVariants as attr
use Rattle.edd_syntax.specs.declared.symbols.Keyword.TheVariants as keyword
use Rattle.edd_syntax.specs.Text.{Name}
use Rattle.edd_syntax.specs.Reference.{Path}
use Rattle.edd_syntax.specs.Token.{spelling}
use Rattle.edd_syntax.specs.Numbers.{same_kind, kind_of, attr_word}
use Rattle.edd_syntax.specs.Statement as s
use Rattle.edd_syntax.specs.Statement.{Declarator, Stmt, Body, Nil, Cons, Declare, Statement, CaseLabel, DefaultLabel, slots_in}
use Rattle.edd_syntax.specs.Item as item
use Rattle.edd_syntax.specs.Item.{attr_of, kind_of_item, TypePart, TransactionPart, Attribute, Item, Description}
use Rattle.edd_syntax.specs.Rows.{part_attr}
use Rattle.edd_syntax.specs.Size.{unit_nodes}
use Rattle.edd_syntax.specs.Resolution.{look_up, count_of, item_named, member_at, item_of_member, array_kinds, builtins, kinds}
use Rattle.edd_syntax.specs.NameUses.{Use, OfItem, OfArray, OfFunction, unit_uses}
use Rattle.edd_syntax.specs.Refusal.{Refusal, TooMany, DuplicateName, DuplicateAttribute, MissingAttribute, UnknownName, WrongKind, is_name_in, refused_if, repeated}

-- ---- too many items, transactions, locals or nodes

-- how many items of a kind there may be
abbrev pub item_limit : ℕ
item_limit = 4096

-- how many transactions an item may have
abbrev pub transaction_limit : ℕ
transaction_limit = 4096

-- how many locals a method may declare
abbrev pub local_limit : ℕ
local_limit = 64

-- how many nodes the trees of a description may have
abbrev pub node_limit : ℕ
node_limit = 524288

-- the attribute is a transaction
abbrev pub is_transaction : {R : Type 0} → Attribute R → Bool
is_transaction (item.Transaction number parts) = true
is_transaction _ = false

-- the declarators of a DEFINITION; another attribute has none
abbrev locals_of_attribute : {R : Type 0} → Attribute R → ℕ
locals_of_attribute (item.Definition body) = slots_in body
locals_of_attribute _ = 0

-- the declarators of all definitions of a method
abbrev pub locals_of : {R : Type 0} → Item R → ℕ
locals_of i = sum (map locals_of_attribute i.attributes)

-- how many transactions an item has
abbrev pub transaction_count : {R : Type 0} → Item R → ℕ
transaction_count i = length (filter is_transaction i.attributes)

-- a breach for each limit that is exceeded
abbrev pub too_many : {R : Type 0} → Description R → List Refusal
too_many unit =
    refused_if (list_any (λ k. nat_lt item_limit (count_of k unit.items)) kinds)
    (TooMany limit.Items) ++
    (refused_if (list_any (λ i. nat_lt transaction_limit (transaction_count i)) unit.items)
    (TooMany limit.Transactions) ++
    (refused_if (list_any (λ i. nat_lt local_limit (locals_of i)) unit.items) (TooMany limit.Locals)
    ++
    refused_if (nat_lt node_limit (unit_nodes unit)) (TooMany limit.Nodes)))

-- ---- two items, two members of a collection or two locals of a block with one name

-- the names of the locals that are declared
abbrev pub names_declared : List (Declarator Path) → List Name
names_declared = map (λ d. d.place.base)

-- `block` are the locals of the block so far
abbrev mutual
  pub repeated_locals : (block : List Name) → Body Path → List Name
  repeated_locals block Nil = []
  repeated_locals block (Cons (Declare declarators) rest) =
      repeated block (names_declared declarators)
      ++ repeated_locals (names_declared declarators ++ block) rest
  repeated_locals block (Cons (Statement first) rest) = repeated_inside first
      ++ repeated_locals block rest
  repeated_locals block (Cons (CaseLabel label) rest) = repeated_locals block rest
  repeated_locals block (Cons DefaultLabel rest) = repeated_locals block rest

  -- braces are blocks of their own
  pub repeated_inside : Stmt Path → List Name
  repeated_inside (s.Block body) = repeated_locals [] body
  repeated_inside (s.If condition first) = repeated_inside first
  repeated_inside (s.IfElse condition first otherwise) = repeated_inside first
      ++ repeated_inside otherwise
  repeated_inside (s.While condition body) = repeated_inside body
  repeated_inside (s.Do body condition) = repeated_inside body
  repeated_inside (s.For initial condition update body) = repeated_inside body
  repeated_inside (s.Switch on body) = repeated_locals [] body
  repeated_inside _ = []

-- `before` are the members of the collection so far
abbrev pub repeated_in_attributes : (before : List Name) → List (Attribute Path) → List Name
repeated_in_attributes before [] = []
repeated_in_attributes before (item.Members members ∷ rest) =
    let names = map (λ m. m.name) members in
    repeated before names ++ repeated_in_attributes (names ++ before) rest
repeated_in_attributes before (item.Definition body ∷ rest) = repeated_locals [] body
    ++ repeated_in_attributes before rest
repeated_in_attributes before (_ ∷ rest) = repeated_in_attributes before rest

-- `before` are the names of the items so far
abbrev pub repeated_in_items : (before : List Name) → List (Item Path) → List Name
repeated_in_items before [] = []
repeated_in_items before (i ∷ rest) =
    (if is_name_in before i.name then i.name ∷ [] else []) ++
    (repeated_in_attributes [] i.attributes ++ repeated_in_items (i.name ∷ before) rest)

-- a breach for each name that is there already
abbrev pub duplicate_names : Description Path → List Refusal
duplicate_names unit = map DuplicateName (repeated_in_items [] unit.items)

-- ---- an attribute of an item, of a transaction or of a type's braces that is there already

-- the word with which the attribute is written
abbrev pub attribute_word : {R : Type 0} → Attribute R → Name
attribute_word (item.TypeOf word parts) = spelling keyword.Type
attribute_word a = attr_word (attr_of a)

-- the options of a type; the elements of its list may be many
abbrev pub type_part_words : {R : Type 0} → TypePart R → List Name
type_part_words (item.Element c) = []
type_part_words p = attr_word (part_attr p) ∷ []

-- REQUEST or REPLY
abbrev pub transaction_part_word : {R : Type 0} → TransactionPart R → Name
transaction_part_word (item.Request all) = attr_word attr.Request
transaction_part_word (item.Reply all) = attr_word attr.Reply

-- the repeated words in the braces of an attribute
abbrev pub repeated_words_inside : {R : Type 0} → Attribute R → List Name
repeated_words_inside (item.TypeOf word parts) = repeated [] (flat_map type_part_words parts)
repeated_words_inside (item.Transaction number parts) =
    repeated [] (map transaction_part_word parts)
repeated_words_inside _ = []

-- there may be any number of transactions
abbrev pub repeated_words : {R : Type 0} → (before : List Name) → List (Attribute R) → List Name
repeated_words before [] = []
repeated_words before (a ∷ rest) =
    let word = attribute_word a in
    (if is_transaction a then [] else repeated before (word ∷ []))
    ++ (repeated_words_inside a ++ repeated_words (word ∷ before) rest)

-- a breach for each attribute that is there already
abbrev pub duplicate_attributes : {R : Type 0} → Description R → List Refusal
duplicate_attributes unit =
    map DuplicateAttribute (flat_map (λ i. repeated_words [] i.attributes) unit.items)

-- ---- a missing attribute

-- the words of the attributes that an item of this kind must have
abbrev pub required_words : Kind → List Name
required_words kind.Variable = spelling keyword.Type ∷ []
required_words kind.Command = attr_word attr.Number ∷ attr_word attr.Operation
    ∷ attr_word attr.Transaction ∷ []
required_words kind.Menu = attr_word attr.Items ∷ []
required_words kind.Collection = attr_word attr.Members ∷ []
required_words kind.Method = attr_word attr.Definition ∷ []
required_words kind.Array = attr_word attr.Elements ∷ []

-- those of them with which no attribute of the item is written
abbrev pub missing_words : {R : Type 0} → Item R → List Name
missing_words i = filter (λ word. not (is_name_in (map attribute_word i.attributes) word))
    (required_words (kind_of_item i.sort))

-- a breach for each of them, item after item
abbrev pub missing_attributes : {R : Type 0} → Description R → List Refusal
missing_attributes unit = flat_map (λ i. map (MissingAttribute i.name) (missing_words i)) unit.items

-- ---- a name that nothing has, or an item of a kind that may not be there

-- the kind is one of those that are allowed
abbrev pub is_kind_among : List Kind → Kind → Bool
is_kind_among allowed k = list_any (same_kind k) allowed

-- After the name of something of kind k, which is the item i where that is known. A member has the
-- kind after OF; what it names is judged where the member is, and not here.
abbrev pub faults_along : Description Path → (allowed : List Kind) → Name → Kind → Option ItemNo
    → (members : List Name) → List Refusal
faults_along unit allowed name k i [] = refused_if (not (is_kind_among allowed k)) (WrongKind name)
faults_along unit allowed name k None (m ∷ rest) = refused_if (not (same_kind k kind.Collection))
    (WrongKind name)
faults_along unit allowed name k (Some i) (m ∷ rest) =
    if not (same_kind k kind.Collection) then WrongKind name ∷ []
    else elim (member_at unit i m) [
      | Some found ↦ faults_along unit allowed m found.1 (item_of_member unit found) rest
      | None ↦ UnknownName m ∷ []
    ]

-- a local has no members
abbrev pub faults_of_local : Path → (members : List Name) → List Refusal
faults_of_local path [] = []
faults_of_local path (m ∷ rest) = WrongKind path.base ∷ []

-- the faults of a path whose first name is not a local's
abbrev pub faults_of_item : Description Path → (allowed : List Kind) → Path → List Refusal
faults_of_item unit allowed path =
    elim (item_named unit path.base) [
      | Some i ↦ faults_along unit allowed path.base (kind_of i) (Some i) path.members
      | None ↦ UnknownName path.base ∷ []
    ]

-- the faults of one use of a name
abbrev pub faults_of_use : Description Path → Use → List Refusal
faults_of_use unit (OfItem scope allowed path) =
    elim (look_up path.base scope) [
      | Some slot ↦ faults_of_local path path.members
      | None ↦ faults_of_item unit allowed path
    ]
faults_of_use unit (OfArray scope path) =
    elim (look_up path.base scope) [
      | Some slot ↦ WrongKind path.base ∷ []
      | None ↦ faults_of_item unit array_kinds path
    ]
faults_of_use unit (OfFunction path) =
    elim (look_up path.base builtins) [ Some f ↦ [] | None ↦ UnknownName path.base ∷ [] ]

-- the faults of all uses of names
abbrev pub wrong_uses : Description Path → List Refusal
wrong_uses unit = flat_map (faults_of_use unit) (unit_uses unit)
