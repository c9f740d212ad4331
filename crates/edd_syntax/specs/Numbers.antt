-- The numbers and the words of kinds, and the table of attributes.
use Rattle.std.specs.Prelude.{ℕ, zero, suc, Bool, ◌==◌, if◌then◌else◌, List, [], ◌∷◌, slice_get, Option, Some, None, codes}
use Rattle.std.specs.List.{list_any}
use Rattle.edd_syntax.specs.declared.symbols.Keyword.{Keyword}
use Rattle.edd_syntax.specs.declared.symbols.Keyword.TheVariants as keyword
use Rattle.edd_syntax.specs.declared.numbers.Kind.{Kind}
use Rattle.edd_syntax.specs.declared.numbers.Kind.TheVariants.{Variable, Command, Menu, Collection, Method, Array}
use Rattle.edd_syntax.specs.declared.numbers.ItemNo.{ItemNo}
use Rattle.edd_syntax.specs.declared.numbers.ItemNo.TheVariants as item_no
use Rattle.edd_syntax.specs.declared.numbers.Attr.{Attr}
use Rattle.edd_syntax.specs.declared.numbers.Attr.TheVariants as attr
use Rattle.edd_syntax.specs.declared.numbers.ValueKind.{ValueKind}
use Rattle.edd_syntax.specs.declared.numbers.ValueKind.TheVariants as value
use Rattle.edd_syntax.specs.declared.numbers.Home.{Home}
use Rattle.edd_syntax.specs.declared.numbers.Home.TheVariants as home
use Rattle.edd_syntax.specs.declared.numbers.FormatOption.{FormatOption}
use Rattle.edd_syntax.specs.declared.numbers.FormatOption.TheVariants as format
use Rattle.edd_syntax.specs.declared.numbers.NumberOption.{NumberOption}
use Rattle.edd_syntax.specs.declared.numbers.NumberOption.TheVariants as number
use Rattle.edd_syntax.specs.declared.numbers.TextAttribute.{TextAttribute}
use Rattle.edd_syntax.specs.declared.numbers.TextAttribute.TheVariants as text
use Rattle.edd_syntax.specs.declared.numbers.TheConstants.{ATTRIBUTES}
use Rattle.edd_syntax.specs.Text.{Name}
use Rattle.edd_syntax.specs.Token.{spelling}

-- ---- kinds

-- the number of a kind
abbrev pub kind_number : Kind → ℕ
kind_number Variable = 1
kind_number Command = 2
kind_number Menu = 3
kind_number Collection = 4
kind_number Method = 5
kind_number Array = 6

-- the kinds are the same
abbrev pub same_kind : Kind → Kind → Bool
same_kind a b = kind_number a == kind_number b

-- the word with which an item of a kind begins where an image is shown
abbrev pub kind_name : Kind → Name
kind_name Variable = codes "variable"
kind_name Command = codes "command"
kind_name Menu = codes "menu"
kind_name Collection = codes "collection"
kind_name Method = codes "method"
kind_name Array = codes "array"

-- the item of a kind by its number among the items of that kind
abbrev pub item_number : Kind → ℕ → ItemNo
item_number Variable n = item_no.Variable (record { 0 = n })
item_number Command n = item_no.Command (record { 0 = n })
item_number Menu n = item_no.Menu (record { 0 = n })
item_number Collection n = item_no.Collection (record { 0 = n })
item_number Method n = item_no.Method (record { 0 = n })
item_number Array n = item_no.Array (record { 0 = n })

-- the item by the number of its kind and its own, where there is such a kind
abbrev pub item_from_numbers : ℕ → ℕ → Option ItemNo
item_from_numbers kind n =
    if kind == 1 then Some (item_no.Variable (record { 0 = n })) else
    if kind == 2 then Some (item_no.Command (record { 0 = n })) else
    if kind == 3 then Some (item_no.Menu (record { 0 = n })) else
    if kind == 4 then Some (item_no.Collection (record { 0 = n })) else
    if kind == 5 then Some (item_no.Method (record { 0 = n })) else
    if kind == 6 then Some (item_no.Array (record { 0 = n })) else
    None

-- the kind of an item
abbrev pub kind_of : ItemNo → Kind
kind_of (item_no.Variable n) = Variable
kind_of (item_no.Command n) = Command
kind_of (item_no.Menu n) = Menu
kind_of (item_no.Collection n) = Collection
kind_of (item_no.Method n) = Method
kind_of (item_no.Array n) = Array

-- the number of an item among the items of its kind
abbrev pub index_of : ItemNo → ℕ
index_of (item_no.Variable n) = n.0
index_of (item_no.Command n) = n.0
index_of (item_no.Menu n) = n.0
index_of (item_no.Collection n) = n.0
index_of (item_no.Method n) = n.0
index_of (item_no.Array n) = n.0

-- ---- attributes

-- the number of an attribute
abbrev pub attr_number : Attr → ℕ
attr_number attr.Label = 1
attr_number attr.Help = 2
attr_number attr.Class = 3
attr_number attr.Handling = 4
attr_number attr.ConstantUnit = 5
attr_number attr.Validity = 6
attr_number attr.DefaultValue = 7
attr_number attr.MinValue = 8
attr_number attr.MaxValue = 9
attr_number attr.DisplayFormat = 10
attr_number attr.EditFormat = 11
attr_number attr.Enumerators = 12
attr_number attr.Number = 13
attr_number attr.Operation = 14
attr_number attr.Transaction = 15
attr_number attr.Request = 16
attr_number attr.Reply = 17
attr_number attr.ResponseCodes = 18
attr_number attr.Items = 19
attr_number attr.Members = 20
attr_number attr.Definition = 21
attr_number attr.Elements = 22

-- the one of a list by its number, which counts from 1
abbrev pub numbered : {A : Type 0} → List A → ℕ → Option A
numbered all zero = None
numbered all (suc n) = slice_get all n

-- the attribute of a number
abbrev pub attr_from_number : ℕ → Option Attr
attr_from_number n = numbered ATTRIBUTES n

-- the attributes are the same
abbrev pub same_attr : Attr → Attr → Bool
same_attr a b = attr_number a == attr_number b

-- A line of the table of attributes: the word with which it is written, which the list of a type has
-- not; whether an item, its TYPE or its transactions have it; what it gives; and which kinds of items
-- it may belong to.
pub record Shape : Type 0 where
  pub word : Option Keyword
  pub home : Home
  pub value : ValueKind
  pub kinds : List Kind

-- a line with a word
abbrev pub line : Keyword → Home → ValueKind → List Kind → Shape
line word home value kinds = record { word = Some word; home = home; value = value; kinds = kinds }

-- the kinds of items that a technician is shown
abbrev pub labelled : List Kind
labelled = Variable ∷ Menu ∷ Collection ∷ Method ∷ Array ∷ []

-- the table
abbrev pub shape_of : Attr → Shape
shape_of attr.Label = line keyword.Label home.Item value.Text labelled
shape_of attr.Help = line keyword.Help home.Item value.Text labelled
shape_of attr.Class = line keyword.Class home.Item value.ClassWord (Variable ∷ Method ∷ [])
shape_of attr.Handling = line keyword.Handling home.Item value.Handling (Variable ∷ [])
shape_of attr.ConstantUnit = line keyword.ConstantUnit home.Item value.Text (Variable ∷ [])
shape_of attr.Validity = line keyword.Validity home.Item value.Truth (Variable ∷ Menu ∷ Method ∷ [])
shape_of attr.DefaultValue = line keyword.DefaultValue home.Type value.Expression (Variable ∷ [])
shape_of attr.MinValue = line keyword.MinValue home.Type value.Expression (Variable ∷ [])
shape_of attr.MaxValue = line keyword.MaxValue home.Type value.Expression (Variable ∷ [])
shape_of attr.DisplayFormat = line keyword.DisplayFormat home.Type value.Text (Variable ∷ [])
shape_of attr.EditFormat = line keyword.EditFormat home.Type value.Text (Variable ∷ [])
shape_of attr.Enumerators = record { word = None; home = home.Type; value = value.Enumerator; kinds = Variable ∷ [] }
shape_of attr.Number = line keyword.Number home.Item value.Number (Command ∷ [])
shape_of attr.Operation = line keyword.Operation home.Item value.Operation (Command ∷ [])
shape_of attr.Transaction = line keyword.Transaction home.Transaction value.Number (Command ∷ [])
shape_of attr.Request = line keyword.Request home.Transaction value.DataItem (Command ∷ [])
shape_of attr.Reply = line keyword.Reply home.Transaction value.DataItem (Command ∷ [])
shape_of attr.ResponseCodes = line keyword.ResponseCodes home.Item value.ResponseCode (Command ∷ [])
shape_of attr.Items = line keyword.Items home.Item value.MenuEntry (Menu ∷ [])
shape_of attr.Members = line keyword.Members home.Item value.Member (Collection ∷ [])
shape_of attr.Definition = line keyword.Definition home.Item value.Statement (Method ∷ [])
shape_of attr.Elements = line keyword.Elements home.Item value.Element (Array ∷ [])

-- how the word of an attribute is written; ENUMERATORS is none that is reserved
abbrev pub attr_word : Attr → Name
attr_word a = elim (shape_of a).word [ Some word ↦ spelling word | None ↦ codes "ENUMERATORS" ]

-- the attribute that a text is
abbrev pub text_attr : TextAttribute → Attr
text_attr text.Label = attr.Label
text_attr text.Help = attr.Help
text_attr text.ConstantUnit = attr.ConstantUnit

-- the attribute with this word, where it is one text
abbrev pub text_of_word : Keyword → Option TextAttribute
text_of_word keyword.Label = Some text.Label
text_of_word keyword.Help = Some text.Help
text_of_word keyword.ConstantUnit = Some text.ConstantUnit
text_of_word _ = None

-- the attribute that a number of a type is
abbrev pub number_attr : NumberOption → Attr
number_attr number.DefaultValue = attr.DefaultValue
number_attr number.MinValue = attr.MinValue
number_attr number.MaxValue = attr.MaxValue

-- the number of a type with this word
abbrev pub number_of_word : Keyword → Option NumberOption
number_of_word keyword.DefaultValue = Some number.DefaultValue
number_of_word keyword.MinValue = Some number.MinValue
number_of_word keyword.MaxValue = Some number.MaxValue
number_of_word _ = None

-- the attribute that a format of a type is
abbrev pub format_attr : FormatOption → Attr
format_attr format.DisplayFormat = attr.DisplayFormat
format_attr format.EditFormat = attr.EditFormat

-- the format of a type with this word
abbrev pub format_of_word : Keyword → Option FormatOption
format_of_word keyword.DisplayFormat = Some format.DisplayFormat
format_of_word keyword.EditFormat = Some format.EditFormat
format_of_word _ = None

-- whether items of the kind may have the attribute
abbrev pub has_attr : Kind → Attr → Bool
has_attr kind a = list_any (same_kind kind) (shape_of a).kinds
