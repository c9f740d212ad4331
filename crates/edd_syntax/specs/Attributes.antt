-- What the attributes of an item give under the values of a device.
use Rattle.std.specs.Prelude.{ℕ, ◌+◌, ◌*◌, Bool, true, false, not, ◌&&◌, if◌then◌else◌, ◌==◌, ℤ, pos, List, [], ◌∷◌, ◌++◌, map, slice_get, Option, Some, None, option_map, Ok, Err}
use Rattle.edd_syntax.specs.declared.numbers.Kind.{Kind}
use Rattle.edd_syntax.specs.declared.numbers.VarNo.{VarNo}
use Rattle.edd_syntax.specs.declared.numbers.ItemNo.{ItemNo}
use Rattle.edd_syntax.specs.declared.numbers.Attr.{Attr}
use Rattle.edd_syntax.specs.declared.numbers.Attr.TheVariants as attr
use Rattle.edd_syntax.specs.declared.numbers.AttrRef.{AttrRef}
use Rattle.edd_syntax.specs.declared.numbers.Home.{Home}
use Rattle.edd_syntax.specs.declared.numbers.Home.TheVariants as home
use Rattle.edd_syntax.specs.declared.types.ResponseClass.{ResponseClass}
use Rattle.edd_syntax.specs.declared.types.Handling.{Handling}
use Rattle.edd_syntax.specs.declared.types.Handling.TheVariants as handling
use Rattle.edd_syntax.specs.declared.types.Operation.{Operation}
use Rattle.edd_syntax.specs.declared.types.Operation.TheVariants as operation
use Rattle.edd_syntax.specs.declared.item.MenuQualifiers.{MenuQualifiers}
use Rattle.edd_syntax.specs.declared.item.DataQualifiers.{DataQualifiers}
use Rattle.edd_syntax.specs.Text.{Text}
use Rattle.edd_syntax.specs.Reference.{Target}
use Rattle.edd_syntax.specs.Expression.{Expr}
use Rattle.edd_syntax.specs.Conditional.{Cond, Conds, Nil, Cons}
use Rattle.edd_syntax.specs.Item as item
use Rattle.edd_syntax.specs.Item.{kind_of_item, MenuEntry, DataItem, TypePart, TransactionPart, Attribute, Description}
use Rattle.edd_syntax.specs.Words as words
use Rattle.edd_syntax.specs.Words.{words_of, name_words}
use Rattle.edd_syntax.specs.Numbers.{has_attr, same_attr, shape_of, text_attr, number_attr, format_attr}
use Rattle.edd_syntax.specs.Targets.{item_of, variable_of}
use Rattle.edd_syntax.specs.Device.{Environment, environment, item_at}
use Rattle.edd_syntax.specs.AttributeValue.{Trapping, ◌>>=◌, value, chosen, all_chosen}

-- one element of what an attribute gives
pub data Record : Type 0 where
  Words : words.Words → Record
  Number : ℤ → Record
  Entry : ItemNo → MenuQualifiers → Record
  DataConst : ℕ → Record
  DataVar : VarNo → (mask : Option ℕ) → DataQualifiers → Record
  Enumerator : (value : ℤ) → (text : words.Words) → (help : Option words.Words) → Record
  Response : (number : ℕ) → ResponseClass → (text : words.Words) → Record
  Member : (name : words.Words) → ItemNo → (label help : Option words.Words) → Record
  Element : (number : ℕ) → VarNo → (label help : Option words.Words) → Record

-- the number that READ, WRITE or both give
abbrev pub handling_number : Handling → ℕ
handling_number handling.Read = 1
handling_number handling.Write = 2
handling_number handling.ReadWrite = 3

-- the number that READ, WRITE or COMMAND gives
abbrev pub operation_number : Operation → ℕ
operation_number operation.Read = 1
operation_number operation.Write = 2
operation_number operation.Command = 3

-- a truth as a number
abbrev pub bit : Bool → ℕ
bit true = 1
bit false = 0

-- the qualifiers as the bits of a number
abbrev pub menu_bits : MenuQualifiers → ℕ
menu_bits q = bit q.display_value + 2 * bit q.read_only + 4 * bit q.hidden + 8 * bit q.review

-- INFO is 1 and INDEX is 2
abbrev pub data_bits : DataQualifiers → ℕ
data_bits q = bit q.info + 2 * bit q.index

-- ---- what a written attribute gives

-- the records under the values of a device, or the first trap
abbrev pub Meaning : Type 0
Meaning = List ℤ → Trapping (List Record)

-- the record that `f` makes of each value; a trap is passed on
abbrev pub each : {V : Type 0} → (V → Record) → Trapping (List V) → Trapping (List Record)
each f (Ok vs) = Ok (map f vs)
each f (Err why) = Err why

-- these records, whatever the values of the device are
abbrev pub constant : List Record → Meaning
constant rs = λ d. Ok rs

-- the record of an entry of a menu
abbrev pub entry : MenuEntry Target → Record
entry (item.Text text) = Words (words_of text)
entry (item.Reference to qualifiers) = Entry (item_of to) qualifiers

-- the record of a data item
abbrev pub data_item : DataItem Target → Record
data_item (item.Constant n) = DataConst n
data_item (item.Variable variable mask qualifiers) = DataVar (variable_of variable) mask qualifiers

-- the record of an enumerator
abbrev pub enumerator : item.Enumerator → Record
enumerator e = Enumerator e.value (words_of e.text) (option_map words_of e.help)

-- the record of a response code
abbrev pub response : item.ResponseCode → Record
response r = Response r.number r.class (words_of r.text)

-- the record of a member of a collection
abbrev pub member : item.Member Target → Record
member m = Member (name_words m.name) (item_of m.item) (option_map words_of m.label)
    (option_map words_of m.help)

-- the record of an element of an array
abbrev pub element : item.ArrayElement Target → Record
element e = Element e.number (variable_of e.variable) (option_map words_of e.label)
    (option_map words_of e.help)

-- the record of a number, if one is written
abbrev pub written_number : Option ℕ → List Record
written_number (Some n) = Number (pos n) ∷ []
written_number None = []

-- a meaning under its attribute
abbrev pub Named : Type 0
Named = Attr × Meaning

module _ (env : Environment) where
  -- the values of a conditional, each as a record
  abbrev pub one : {V : Type 0} → (V → Record) → Cond Target V → Meaning
  one f c = λ d. each f (chosen env d c)

  -- the values of a list of conditionals, each as a record
  abbrev pub list : {V : Type 0} → (V → Record) → Conds Target V → Meaning
  list f all = λ d. each f (all_chosen env d all)

  -- the string of the text that is chosen
  abbrev pub texts : Cond Target Text → Meaning
  texts = one (λ t. Words (words_of t))

  -- the values of expressions, each as a record, or the first trap
  abbrev pub all_values : List ℤ → List (Expr Target) → Trapping (List Record)
  all_values d [] = Ok []
  all_values d (e ∷ rest) = do
    z ← value env d e
    others ← all_values d rest
    Ok (Number z ∷ others)

  -- the value of the chosen expression
  abbrev pub expressions : Cond Target (Expr Target) → Meaning
  expressions c = λ d. chosen env d c >>= all_values d

  -- ---- attributes by number

  -- the elements of a type's list, in all of its parts
  abbrev pub elements : List (TypePart Target) → Conds Target item.Enumerator
  elements [] = Nil
  elements (item.Element first ∷ rest) = Cons first (elements rest)
  elements (_ ∷ rest) = elements rest

  -- the attribute that an option of a type is; an element of its list is none by itself
  abbrev pub of_part : TypePart Target → List Named
  of_part (item.OneNumber which c) = (number_attr which, expressions c) ∷ []
  of_part (item.OneFormat which c) = (format_attr which, texts c) ∷ []
  of_part (item.Element c) = []

  -- the attributes that the options of a type are
  abbrev pub of_parts : List (TypePart Target) → List Named
  of_parts [] = []
  of_parts (p ∷ rest) = of_part p ++ of_parts rest

  -- the attributes that one written attribute stands for; transactions go by their position
  abbrev pub of_attribute : Attribute Target → List Named
  of_attribute (item.OneText which c) = (text_attr which, texts c) ∷ []
  of_attribute (item.Class names) = (attr.Class, constant (map (λ n. Words (name_words n)) names))
      ∷ []
  of_attribute (item.Handling c) = (attr.Handling, one (λ h. Number (pos (handling_number h))) c)
      ∷ []
  of_attribute (item.Validity c) = (attr.Validity, one (λ valid. Number (pos (bit valid))) c) ∷ []
  of_attribute (item.TypeOf word parts) = (attr.Enumerators, list enumerator (elements parts))
      ∷ of_parts parts
  of_attribute (item.Number n) = (attr.Number, constant (Number (pos n) ∷ [])) ∷ []
  of_attribute (item.Operation o) =
      (attr.Operation, constant (Number (pos (operation_number o)) ∷ [])) ∷ []
  of_attribute (item.Transaction number parts) = []
  of_attribute (item.ResponseCodes responses) =
      (attr.ResponseCodes, constant (map response responses)) ∷ []
  of_attribute (item.Items entries) = (attr.Items, list entry entries) ∷ []
  of_attribute (item.Members members) = (attr.Members, constant (map member members)) ∷ []
  of_attribute (item.Elements elements) = (attr.Elements, constant (map element elements)) ∷ []
  of_attribute (item.Definition body) = []

  -- the attributes that all written ones of an item stand for
  abbrev pub of_attributes : List (Attribute Target) → List Named
  of_attributes [] = []
  of_attributes (a ∷ rest) = of_attribute a ++ of_attributes rest

  -- a REQUEST or a REPLY
  abbrev pub of_transaction_part : TransactionPart Target → Named
  of_transaction_part (item.Request all) = (attr.Request, list data_item all)
  of_transaction_part (item.Reply all) = (attr.Reply, list data_item all)

  -- the attributes of each transaction, in the order of the source
  abbrev pub transactions : List (Attribute Target) → List (List Named)
  transactions [] = []
  transactions (item.Transaction number parts ∷ rest) =
      ((attr.Transaction, constant (written_number number)) ∷ map of_transaction_part parts)
      ∷ transactions rest
  transactions (_ ∷ rest) = transactions rest

-- the meaning of an attribute; one that isn't written gives nothing
abbrev pub meaning_of : Attr → List Named → Meaning
meaning_of a [] = constant []
meaning_of a (m ∷ rest) = elim (same_attr m.0 a) [ true ↦ m.1 | false ↦ meaning_of a rest ]

-- ---- reading

-- HANDLING is both, and VALIDITY is true, where nothing is given
abbrev pub or_default : Attr → List Record → List Record
or_default attr.Handling [] = Number (pos 3) ∷ []
or_default attr.Validity [] = Number (pos 1) ∷ []
or_default _ rs = rs

-- what a read of an attribute results in
pub data Reading : Type 0 where
  -- there is no such item, it can't have the attribute, or it has no such transaction
  NoItem : Reading
  Gives : Trapping (List Record) → Reading

-- a read that gives the records of the meaning, or the default of the attribute
abbrev pub gives : Attr → Meaning → List ℤ → Reading
gives a meaning d = Gives (meaning d >>= λ rs. Ok (or_default a rs))

-- the same of an attribute of a transaction, if there is such a transaction
abbrev pub gives_in : Attr → Option (List Named) → List ℤ → Reading
gives_in a None d = NoItem
gives_in a (Some transaction) d = gives a (meaning_of a transaction) d

-- a DEFINITION is no attribute to be read
abbrev pub is_readable : Kind → Attr → Bool
is_readable kind a = has_attr kind a && not (same_attr a attr.Definition)

-- each transaction has it for itself
abbrev pub is_in_transaction : Home → Bool
is_in_transaction home.Transaction = true
is_in_transaction _ = false

-- each transaction has this attribute for itself
abbrev pub is_of_transaction : Attr → Bool
is_of_transaction a = is_in_transaction (shape_of a).home

-- `sub` is the position of a transaction for its attributes, and else 0
abbrev pub read_item : Environment → item.Item Target → Attr → (sub : ℕ) → List ℤ → Reading
read_item env i a sub d =
    if not (is_readable (kind_of_item i.sort) a) then NoItem
    else (if is_of_transaction a then gives_in a (slice_get (transactions env i.attributes) sub) d
    else (if sub == 0 then gives a (meaning_of a (of_attributes env i.attributes)) d else NoItem))

-- the meaning of an attribute under the values of a device
unfoldable pub read_attribute : Description Target → AttrRef → List ℤ → Reading
read_attribute unit at d =
    elim (item_at unit at.item) [
      | Some i ↦ read_item (environment unit) i at.attr at.sub d
      | None ↦ NoItem
    ]
