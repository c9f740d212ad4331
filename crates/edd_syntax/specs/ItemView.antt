-- What conditionals, items and their attributes in the code stand for.
use Rattle.std.specs.Prelude.{List, [], ◌∷◌, map, option_map}
use Rattle.edd_syntax.specs.declared.cond.Cond.{Cond, Row_of-Cond, end_of-Cond, more_of-Cond, Row_of-Arm, end_of-Arm, more_of-Arm}
use Rattle.edd_syntax.specs.declared.cond.Cond.TheVariants.{Value, If', Select'}
use Rattle.edd_syntax.specs.declared.cond.Arm.{Arm}
use Rattle.edd_syntax.specs.declared.cond.Arm.TheVariants.{Case', Default'}
use Rattle.edd_syntax.specs.declared.item.Item.{Item}
use Rattle.edd_syntax.specs.declared.item.ItemKind.{ItemKind}
use Rattle.edd_syntax.specs.declared.item.ItemKind.TheVariants as item_kind
use Rattle.edd_syntax.specs.declared.item.Attribute.{Attribute}
use Rattle.edd_syntax.specs.declared.item.Attribute.TheVariants as attribute
use Rattle.edd_syntax.specs.declared.item.TypeWord.{TypeWord}
use Rattle.edd_syntax.specs.declared.item.TypeWord.TheVariants as word
use Rattle.edd_syntax.specs.declared.item.TypePart.{TypePart}
use Rattle.edd_syntax.specs.declared.item.TypePart.TheVariants as part
use Rattle.edd_syntax.specs.declared.item.TransactionPart.{TransactionPart}
use Rattle.edd_syntax.specs.declared.item.TransactionPart.TheVariants as transaction
use Rattle.edd_syntax.specs.declared.item.MenuEntry.{MenuEntry}
use Rattle.edd_syntax.specs.declared.item.MenuEntry.TheVariants as entry
use Rattle.edd_syntax.specs.declared.item.DataItem.{DataItem}
use Rattle.edd_syntax.specs.declared.item.DataItem.TheVariants as data_item
use Rattle.edd_syntax.specs.declared.item.Enumerator.{Enumerator}
use Rattle.edd_syntax.specs.declared.item.ResponseCode.{ResponseCode}
use Rattle.edd_syntax.specs.declared.item.Member.{Member}
use Rattle.edd_syntax.specs.declared.item.ArrayElement.{ArrayElement}
use Rattle.edd_syntax.specs.declared.item.Identification.{Identification}
use Rattle.edd_syntax.specs.declared.reference.Path.{Path}
use Rattle.edd_syntax.specs.declared.reference.Target.{Target}
use Rattle.edd_syntax.specs.Reference as references
use Rattle.edd_syntax.specs.Conditional as pure
use Rattle.edd_syntax.specs.Item as items
use Rattle.edd_syntax.specs.Statement as statement
use Rattle.edd_syntax.specs.Text.{Name}
use Rattle.edd_syntax.specs.WordsView.{text_of, text_bytes}
use Rattle.edd_syntax.specs.TreeView.{path_of, expr_of, part_of}

-- ---- conditionals: g says what a value stands for

-- a conditional
unfoldable mutual
  pub cond_of : {R S V W : Type 0} → (R → S) → (V → W) → Cond R V → pure.Cond S W
  cond_of f g (Value v) = pure.Value (g v)
  cond_of f g (If' test shape first shape' otherwise) =
      pure.If (expr_of f test) (pure.conds_from (conds_in f g first))
      (pure.conds_from (conds_in f g otherwise))
  cond_of f g (Select' on shape arms) =
      pure.Select (expr_of f on) (pure.arms_from (arms_in f g arms))

  -- an arm
  pub arm_of : {R S V W : Type 0} → (R → S) → (V → W) → Arm R V → pure.Arm S W
  arm_of f g (Case' label shape body) = pure.Case label (pure.conds_from (conds_in f g body))
  arm_of f g (Default' at shape body) = pure.Default (pure.conds_from (conds_in f g body))

  -- the conditionals that a vector holds
  pub conds_in : {R S V W : Type 0} {n : _} → (R → S) → (V → W) → Row_of-Cond R V n
      → List (pure.Cond S W)
  conds_in f g end_of-Cond = []
  conds_in f g (more_of-Cond first rest) = cond_of f g first ∷ conds_in f g rest

  -- the arms that a vector holds
  pub arms_in : {R S V W : Type 0} {n : _} → (R → S) → (V → W) → Row_of-Arm R V n
      → List (pure.Arm S W)
  arms_in f g end_of-Arm = []
  arms_in f g (more_of-Arm first rest) = arm_of f g first ∷ arms_in f g rest

-- the list of conditionals that a vector holds
abbrev pub conds_of : {R S V W : Type 0} → (R → S) → (V → W) → List (Cond R V) → pure.Conds S W
conds_of f g conds = pure.conds_from (map (cond_of f g) conds)

-- ---- attributes

-- an enumerator
abbrev pub enumerator_of : Enumerator → items.Enumerator
enumerator_of e = record {
  value = e.value;
  text = text_of e.text;
  help = option_map text_of e.help;
}

-- an entry of a menu
abbrev pub entry_of : {R S : Type 0} → (R → S) → MenuEntry R → items.MenuEntry S
entry_of f (entry.Text text) = items.Text (text_of text)
entry_of f (entry.Reference to qualifiers) = items.Reference (f to) qualifiers

-- a data item
abbrev pub data_item_of : {R S : Type 0} → (R → S) → DataItem R → items.DataItem S
data_item_of f (data_item.Constant at value) = items.Constant value
data_item_of f (data_item.Variable at variable mask qualifiers) =
    items.Variable (f variable) mask qualifiers

-- a response code
abbrev pub response_code_of : ResponseCode → items.ResponseCode
response_code_of r = record { number = r.number; class = r.class; text = text_of r.text }

-- a member of a collection
abbrev pub member_of : {R S : Type 0} → (R → S) → Member R → items.Member S
member_of f m = record {
  name = text_bytes m.name;
  item = f m.item;
  label = option_map text_of
      m.label;
  help = option_map text_of m.help;
}

-- an element of an array
abbrev pub array_element_of : {R S : Type 0} → (R → S) → ArrayElement R → items.ArrayElement S
array_element_of f e = record {
  number = e.number;
  variable = f e.variable;
  label = option_map text_of e.label;
  help = option_map text_of e.help;
}

-- a type as it is written
abbrev pub type_word_of : TypeWord → items.TypeWord
type_word_of (word.Known type size) = items.Known type size
type_word_of (word.Other text) = items.Other (text_bytes text)

-- what is in the braces of a type
abbrev pub type_part_of : {R S : Type 0} → (R → S) → TypePart R → items.TypePart S
type_part_of f (part.OneNumber at which value) = items.OneNumber which (cond_of f (expr_of f) value)
type_part_of f (part.OneFormat at which format) = items.OneFormat which (cond_of f text_of format)
type_part_of f (part.Element element) = items.Element (cond_of f enumerator_of element)

-- a REQUEST or a REPLY
abbrev pub transaction_part_of : {R S : Type 0} → (R → S) → TransactionPart R
    → items.TransactionPart S
transaction_part_of f (transaction.Request at all) =
    items.Request (conds_of f (data_item_of f) all.items)
transaction_part_of f (transaction.Reply at all) = items.Reply (conds_of f (data_item_of f) all.items)

-- an attribute
abbrev pub attribute_of : {R S : Type 0} → (R → S) → Attribute R → items.Attribute S
attribute_of f (attribute.OneText at which c) = items.OneText which (cond_of f text_of c)
attribute_of f (attribute.Class at words) = items.Class (map text_bytes words.items)
attribute_of f (attribute.Handling at c) = items.Handling (cond_of f (λ h. h) c)
attribute_of f (attribute.Validity at c) = items.Validity (cond_of f (λ b. b) c)
attribute_of f (attribute.TypeOf at word parts) =
    items.TypeOf (type_word_of word) (map (type_part_of f) parts.items)
attribute_of f (attribute.Number at n) = items.Number n
attribute_of f (attribute.Operation at operation) = items.Operation operation
attribute_of f (attribute.Transaction at number parts) =
    items.Transaction number (map (transaction_part_of f) parts.items)
attribute_of f (attribute.ResponseCodes at codes) =
    items.ResponseCodes (map response_code_of codes.items)
attribute_of f (attribute.Items at entries) = items.Items (conds_of f (entry_of f) entries.items)
attribute_of f (attribute.Members at members) = items.Members (map (member_of f) members.items)
attribute_of f (attribute.Elements at elements) =
    items.Elements (map (array_element_of f) elements.items)
attribute_of f (attribute.Definition at parts) =
    items.Definition (statement.body_from (map (part_of f) parts.items))

-- ---- items

-- what an item is
abbrev pub item_kind_of : ItemKind → items.ItemKind
item_kind_of item_kind.Variable = items.VariableItem
item_kind_of item_kind.Command = items.CommandItem
item_kind_of item_kind.Menu = items.MenuItem
item_kind_of (item_kind.Collection of) = items.CollectionItem of
item_kind_of item_kind.Method = items.MethodItem
item_kind_of item_kind.Array = items.ArrayItem

-- what this item is
abbrev pub sort_of : {R : Type 0} → Item R → items.ItemKind
sort_of i = item_kind_of i.sort

-- the name of an item
abbrev pub name_of : {R : Type 0} → Item R → Name
name_of i = text_bytes i.name

-- the attributes of an item, still as the code has them
abbrev pub attributes_of : {R : Type 0} → Item R → List (Attribute R)
attributes_of i = i.attributes.items

-- an item
abbrev pub item_of : {R S : Type 0} → (R → S) → Item R → items.Item S
item_of f i = record {
  sort = sort_of i;
  name = name_of i;
  attributes = map (attribute_of f) (attributes_of i);
}

-- an identification
abbrev pub identification_of : Identification → items.Identification
identification_of i = record {
  manufacturer = i.manufacturer;
  device_type = i.device_type;
  device_revision = i.device_revision;
  dd_revision = i.dd_revision;
}

-- the items of a unit, whose references are names
abbrev pub named_items : List (Item Path) → List (items.Item references.Path)
named_items all = map (item_of path_of) all

-- ---- trees whose references are numbers already

-- a conditional
abbrev pub numbered_cond : {V W : Type 0} → (V → W) → Cond Target V → pure.Cond Target W
numbered_cond = cond_of (λ r. r)

-- an arm
abbrev pub numbered_arm : {V W : Type 0} → (V → W) → Arm Target V → pure.Arm Target W
numbered_arm = arm_of (λ r. r)

-- conditionals
abbrev pub numbered_conds : {V W : Type 0} → (V → W) → List (Cond Target V) → pure.Conds Target W
numbered_conds = conds_of (λ r. r)

-- an entry of a menu
abbrev pub numbered_entry : MenuEntry Target → items.MenuEntry Target
numbered_entry = entry_of (λ r. r)

-- a data item
abbrev pub numbered_data_item : DataItem Target → items.DataItem Target
numbered_data_item = data_item_of (λ r. r)

-- a member of a collection
abbrev pub numbered_member : Member Target → items.Member Target
numbered_member = member_of (λ r. r)

-- an element of an array
abbrev pub numbered_array_element : ArrayElement Target → items.ArrayElement Target
numbered_array_element = array_element_of (λ r. r)

-- what is in the braces of a type
abbrev pub numbered_type_part : TypePart Target → items.TypePart Target
numbered_type_part = type_part_of (λ r. r)

-- a REQUEST or a REPLY
abbrev pub numbered_transaction_part : TransactionPart Target → items.TransactionPart Target
numbered_transaction_part = transaction_part_of (λ r. r)

-- an attribute
abbrev pub numbered_attribute : Attribute Target → items.Attribute Target
numbered_attribute = attribute_of (λ r. r)

-- an item
abbrev pub numbered_item : Item Target → items.Item Target
numbered_item = item_of (λ r. r)

-- the items of a resolved unit
abbrev pub numbered_items : List (Item Target) → List (items.Item Target)
numbered_items all = map numbered_item all
