-- Items, their attributes, and the whole description.
use Rattle.std.specs.Prelude.{ℕ, ℤ, Bool, List, Option}
use Rattle.edd_syntax.specs.declared.numbers.Attr.{Attr}
use Rattle.edd_syntax.specs.declared.numbers.Attr.TheVariants as attr
use Rattle.edd_syntax.specs.declared.numbers.FormatOption.{FormatOption}
use Rattle.edd_syntax.specs.declared.numbers.Kind.{Kind}
use Rattle.edd_syntax.specs.declared.numbers.Kind.TheVariants as kind
use Rattle.edd_syntax.specs.declared.numbers.NumberOption.{NumberOption}
use Rattle.edd_syntax.specs.declared.numbers.TextAttribute.{TextAttribute}
use Rattle.edd_syntax.specs.declared.types.VarType.{VarType}
use Rattle.edd_syntax.specs.declared.types.Handling as handling
use Rattle.edd_syntax.specs.declared.types.Operation as operation
use Rattle.edd_syntax.specs.declared.types.ResponseClass.{ResponseClass}
use Rattle.edd_syntax.specs.declared.item.MenuQualifiers.{MenuQualifiers}
use Rattle.edd_syntax.specs.declared.item.DataQualifiers.{DataQualifiers}
use Rattle.edd_syntax.specs.Numbers.{text_attr}
use Rattle.edd_syntax.specs.Text as texts
use Rattle.edd_syntax.specs.Text.{Name}
use Rattle.edd_syntax.specs.Expression.{Expr}
use Rattle.edd_syntax.specs.Conditional.{Cond, Conds}
use Rattle.edd_syntax.specs.Statement.{Body}

-- `{ value, text, help }`
pub record Enumerator : Type 0 where
  pub value : ℤ
  pub text : texts.Text
  pub help : Option texts.Text

-- an entry of a menu
pub data MenuEntry (R : Type 0) : Type 0 where
  Text : texts.Text → MenuEntry R
  Reference : (to : R) → MenuQualifiers → MenuEntry R

-- a data item of a request or a reply: a constant octet, or a variable's octets
pub data DataItem (R : Type 0) : Type 0 where
  Constant : ℕ → DataItem R
  Variable : (variable : R) → (mask : Option ℕ) → DataQualifiers → DataItem R

-- `number, class, text`
pub record ResponseCode : Type 0 where
  pub number : ℕ
  pub class : ResponseClass
  pub text : texts.Text

-- `name, item, label, help;`
pub record Member (R : Type 0) : Type 0 where
  pub name : Name
  pub item : R
  pub label : Option texts.Text
  pub help : Option texts.Text

-- `number, variable, label, help;`
pub record ArrayElement (R : Type 0) : Type 0 where
  pub number : ℕ
  pub variable : R
  pub label : Option texts.Text
  pub help : Option texts.Text

-- the type as written, with its size in octets; a type of another word is kept by its word alone
pub data TypeWord : Type 0 where
  Known : VarType → (size : Option ℕ) → TypeWord
  Other : (word : Name) → TypeWord

-- what is in the braces of a type
pub data TypePart (R : Type 0) : Type 0 where
  OneNumber : NumberOption → Cond R (Expr R) → TypePart R
  OneFormat : FormatOption → Cond R texts.Text → TypePart R
  -- an element of the list of enumerators
  Element : Cond R Enumerator → TypePart R

-- what is in the braces of a transaction
pub data TransactionPart (R : Type 0) : Type 0 where
  Request : Conds R (DataItem R) → TransactionPart R
  Reply : Conds R (DataItem R) → TransactionPart R

-- an attribute as written
pub data Attribute (R : Type 0) : Type 0 where
  OneText : TextAttribute → Cond R texts.Text → Attribute R
  Class : List Name → Attribute R
  Handling : Cond R handling.Handling → Attribute R
  Validity : Cond R Bool → Attribute R
  TypeOf : TypeWord → List (TypePart R) → Attribute R
  Number : ℕ → Attribute R
  Operation : operation.Operation → Attribute R
  Transaction : (number : Option ℕ) → List (TransactionPart R) → Attribute R
  ResponseCodes : List ResponseCode → Attribute R
  Items : Conds R (MenuEntry R) → Attribute R
  Members : List (Member R) → Attribute R
  Definition : Body R → Attribute R
  -- of an array
  Elements : List (ArrayElement R) → Attribute R

-- which attribute it is; of a type it is the list in its braces
abbrev pub attr_of : {R : Type 0} → Attribute R → Attr
attr_of (OneText which c) = text_attr which
attr_of (Class words) = attr.Class
attr_of (Handling c) = attr.Handling
attr_of (Validity c) = attr.Validity
attr_of (TypeOf word parts) = attr.Enumerators
attr_of (Number n) = attr.Number
attr_of (Operation o) = attr.Operation
attr_of (Transaction number parts) = attr.Transaction
attr_of (ResponseCodes responses) = attr.ResponseCodes
attr_of (Items entries) = attr.Items
attr_of (Members members) = attr.Members
attr_of (Definition body) = attr.Definition
attr_of (Elements elements) = attr.Elements

-- what an item is; a collection has the kind of its members
pub data ItemKind : Type 0 where
  VariableItem : ItemKind
  CommandItem : ItemKind
  MenuItem : ItemKind
  CollectionItem : (of : Kind) → ItemKind
  MethodItem : ItemKind
  -- an array of variables
  ArrayItem : ItemKind

-- the kind of an item
abbrev pub kind_of_item : ItemKind → Kind
kind_of_item VariableItem = kind.Variable
kind_of_item CommandItem = kind.Command
kind_of_item MenuItem = kind.Menu
kind_of_item (CollectionItem of) = kind.Collection
kind_of_item MethodItem = kind.Method
kind_of_item ArrayItem = kind.Array

-- an item, whose references are of the type R
pub record Item (R : Type 0) : Type 0 where
  pub sort : ItemKind
  pub name : Name
  pub attributes : List (Attribute R)

-- manufacturer, device type, device revision and revision of the description
pub record Identification : Type 0 where
  pub manufacturer : ℕ
  pub device_type : ℕ
  pub device_revision : ℕ
  pub dd_revision : ℕ

-- a description, whose references are of the type R; the order of its items counts
pub record Description (R : Type 0) : Type 0 where
  pub identification : Identification
  pub items : List (Item R)
