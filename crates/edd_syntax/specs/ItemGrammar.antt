-- The grammar of attributes, items and the whole unit. Words such as READ and INTEGER aren't
-- reserved: they are names that mean something in their places.
use Rattle.std.specs.Prelude.{◌≡◌, ◌⊎◌, ℕ, zero, suc, nat_le, Bool, true, false, not, IsTrue, List, [], ◌∷◌, Option, Some, None, codes}
use Rattle.std.specs.List.{list_all}
use Rattle.edd_syntax.specs.declared.numbers.Kind.{Kind}
use Rattle.edd_syntax.specs.declared.numbers.Kind.TheVariants as kind
use Rattle.edd_syntax.specs.declared.types.VarType.{VarType}
use Rattle.edd_syntax.specs.declared.types.VarType.TheVariants as var_type
use Rattle.edd_syntax.specs.declared.types.Handling.{Handling}
use Rattle.edd_syntax.specs.declared.types.Handling.TheVariants as handling
use Rattle.edd_syntax.specs.declared.types.Operation.{Operation}
use Rattle.edd_syntax.specs.declared.types.Operation.TheVariants as operation
use Rattle.edd_syntax.specs.declared.types.ResponseClass.{ResponseClass}
use Rattle.edd_syntax.specs.declared.types.ResponseClass.TheVariants as class
use Rattle.edd_syntax.specs.declared.item.MenuQualifiers.{MenuQualifiers}
use Rattle.edd_syntax.specs.declared.item.DataQualifiers.{DataQualifiers}
use Rattle.edd_syntax.specs.declared.operators.Operator.TheVariants as operator
use Rattle.edd_syntax.specs.declared.operators.Comparison.TheVariants as comparison
use Rattle.edd_syntax.specs.declared.symbols.Keyword.{Keyword}
use Rattle.edd_syntax.specs.declared.symbols.Keyword.TheVariants as word
use Rattle.edd_syntax.specs.declared.symbols.Symbol.{Symbol}
use Rattle.edd_syntax.specs.declared.symbols.Symbol.TheVariants as sign
use Rattle.edd_syntax.specs.Text as texts
use Rattle.edd_syntax.specs.Text.{Name}
use Rattle.edd_syntax.specs.Token.{Token, Reserved, Identifier, Integer, Sign}
use Rattle.edd_syntax.specs.Reference.{Path}
use Rattle.edd_syntax.specs.Expression.{Expr}
use Rattle.edd_syntax.specs.Item as item
use Rattle.edd_syntax.specs.Item.{ItemKind, VariableItem, CommandItem, MenuItem, CollectionItem, MethodItem, ArrayItem, kind_of_item, TypePart, TransactionPart, Attribute, Item, Identification, Description}
use Rattle.edd_syntax.specs.Size.{item_height, height_limit}
use Rattle.edd_syntax.specs.WellFormed.{belongs_to}
use Rattle.edd_syntax.specs.Numbers.{format_of_word, number_of_word, text_of_word}
use Rattle.edd_syntax.specs.Refusal.{is_name_in}
use Rattle.edd_syntax.specs.Grammar.{Next, NextSign, NextWord, OptionalSign, PathHere, PlainHere, TextHere, InAttribute, ExprHere}
use Rattle.edd_syntax.specs.StatementGrammar.{LabelHere, OneHere, ListHere, ElementHere, BodyHere}

-- the next token is this name
abbrev pub NextName : Name → List Token → List Token → Type 0
NextName name here rest = Next (Identifier name) here rest

-- a word that stands for this by a table
abbrev pub WordHere : {A : Type 0} → (Keyword → Option A) → A → List Token → List Token → Type 0
WordHere table x here rest = (k : Keyword) × (table k ≡ Some x) × NextWord k here rest

-- ---- repetitions

-- any number of things, with nothing between them
abbrev pub RowHere : {A : Type 0} → (A → List Token → List Token → Type 0) → List A → List Token
    → List Token → Type 0
RowHere Here [] here rest = here ≡ rest
RowHere Here (x ∷ xs) here rest = (behind : List Token) × Here x here behind
    × RowHere Here xs behind rest

-- n times the sign
abbrev pub TimesHere : ℕ → Symbol → List Token → List Token → Type 0
TimesHere zero s here rest = here ≡ rest
TimesHere (suc n) s here rest = (behind : List Token) × NextSign s here behind
    × TimesHere n s behind rest

-- any number of things, each with any number of semicolons after it
abbrev pub ClosedHere : {A : Type 0} → (A → List Token → List Token → Type 0) → List A → List Token
    → List Token → Type 0
ClosedHere Here [] here rest = here ≡ rest
ClosedHere Here (x ∷ xs) here rest =
    (behind from : List Token) × Here x here behind × (n : ℕ) × TimesHere n sign.Semicolon behind
    from × ClosedHere Here xs from rest

-- one or more names, each further one after a sign
abbrev pub MoreNamesHere : Symbol → List Name → List Token → List Token → Type 0
MoreNamesHere s [] here rest = here ≡ rest
MoreNamesHere s (n ∷ more) here rest =
    (from behind : List Token) × NextSign s here from × NextName n from behind
    × MoreNamesHere s more behind rest

-- a name, and the further ones
abbrev pub NamesHere : Symbol → List Name → List Token → List Token → Type 0
NamesHere s [] here rest = ⊥
NamesHere s (n ∷ more) here rest = (behind : List Token) × NextName n here behind
    × MoreNamesHere s more behind rest

-- ---- qualifiers: one or more names in parentheses, with a comma between two of them or none

-- the names after the first
abbrev pub MoreQualifiersHere : List Name → List Token → List Token → Type 0
MoreQualifiersHere [] here rest = here ≡ rest
MoreQualifiersHere (n ∷ more) here rest =
    (from behind : List Token) × OptionalSign sign.Comma here from × NextName n from behind
    × MoreQualifiersHere more behind rest

-- these names, each of which is allowed there; without parentheses there are none
abbrev pub QualifiersHere : (allowed : List Name) → List Name → List Token → List Token → Type 0
QualifiersHere allowed [] here rest = here ≡ rest
QualifiersHere allowed (n ∷ more) here rest =
    IsTrue (list_all (is_name_in allowed) (n ∷ more)) × (inside behind : List Token)
    × NextSign sign.OpenParenthesis here inside
    × NextName n inside behind × MoreQualifiersHere more behind (Sign sign.CloseParenthesis ∷ rest)

-- the qualifiers that an entry of a menu may have
abbrev pub menu_qualifier_names : List Name
menu_qualifier_names = codes "DISPLAY_VALUE" ∷ codes "READ_ONLY" ∷ codes "HIDDEN" ∷ codes "REVIEW"
    ∷ []

-- which of those are among the names
abbrev pub menu_qualifiers : List Name → MenuQualifiers
menu_qualifiers names = record {
  display_value = is_name_in names (codes "DISPLAY_VALUE");
  read_only = is_name_in names (codes "READ_ONLY");
  hidden = is_name_in names (codes "HIDDEN");
  review = is_name_in names (codes "REVIEW");
}

-- the qualifiers that a variable of a REQUEST or a REPLY may have
abbrev pub data_qualifier_names : List Name
data_qualifier_names = codes "INFO" ∷ codes "INDEX" ∷ []

-- which of those are among the names
abbrev pub data_qualifiers : List Name → DataQualifiers
data_qualifiers names = record {
  info = is_name_in names (codes "INFO");
  index = is_name_in names (codes "INDEX");
}

-- ---- values of attributes

-- an expression of an attribute
abbrev pub ValueExprHere : Expr Path → List Token → List Token → Type 0
ValueExprHere = ExprHere InAttribute 2

-- READ, WRITE, or both in either order
abbrev pub HandlingHere : Handling → List Token → List Token → Type 0
HandlingHere handling.Read here rest = NextName (codes "READ") here rest
HandlingHere handling.Write here rest = NextName (codes "WRITE") here rest
HandlingHere handling.ReadWrite here rest =
    (here ≡ Identifier (codes "READ") ∷ Sign (sign.Operator operator.And)
    ∷ Identifier (codes "WRITE") ∷ rest)
    ⊎ (here ≡ Identifier (codes "WRITE") ∷ Sign (sign.Operator operator.And)
    ∷ Identifier (codes "READ") ∷ rest)

-- TRUE or FALSE
abbrev pub TruthHere : Bool → List Token → List Token → Type 0
TruthHere true here rest = NextName (codes "TRUE") here rest
TruthHere false here rest = NextName (codes "FALSE") here rest

-- READ, WRITE or COMMAND
abbrev pub OperationHere : Operation → List Token → List Token → Type 0
OperationHere operation.Read here rest = NextName (codes "READ") here rest
OperationHere operation.Write here rest = NextName (codes "WRITE") here rest
OperationHere operation.Command here rest = NextWord word.Command here rest

-- a comma and a text, or nothing
abbrev pub OptionalTextHere : Option texts.Text → List Token → List Token → Type 0
OptionalTextHere None here rest = here ≡ rest
OptionalTextHere (Some text) here rest = (behind : List Token) × NextSign sign.Comma here behind
    × TextHere text behind rest

-- `{ label, text, help }`
abbrev pub EnumeratorHere : item.Enumerator → List Token → List Token → Type 0
EnumeratorHere e here rest =
    (inside comma from behind : List Token) × NextSign sign.OpenBrace here inside
    × LabelHere e.value inside comma
    × NextSign sign.Comma comma from × TextHere e.text from behind
    × OptionalTextHere e.help behind (Sign sign.CloseBrace ∷ rest)

-- `<mask>` or nothing
abbrev pub MaskHere : Option ℕ → List Token → List Token → Type 0
MaskHere None here rest = here ≡ rest
MaskHere (Some mask) here rest =
    here ≡ Sign (sign.Comparison comparison.Less) ∷ Integer mask
    ∷ Sign (sign.Comparison comparison.Greater) ∷ rest

-- an integer, or a reference with a mask and qualifiers that may be missing
abbrev pub DataItemHere : item.DataItem Path → List Token → List Token → Type 0
DataItemHere (item.Constant n) here rest = Next (Integer n) here rest
DataItemHere (item.Variable variable mask qualifiers) here rest =
    (from behind : List Token) × PathHere variable here from × MaskHere mask from behind
    × (names : List Name) × (qualifiers ≡ data_qualifiers names)
    × QualifiersHere data_qualifier_names names behind rest

-- a text, or a reference with qualifiers that may be missing
abbrev pub MenuEntryHere : item.MenuEntry Path → List Token → List Token → Type 0
MenuEntryHere (item.Text text) here rest = TextHere text here rest
MenuEntryHere (item.Reference to qualifiers) here rest =
    (behind : List Token) × PathHere to here behind
    × (names : List Name) × (qualifiers ≡ menu_qualifiers names)
    × QualifiersHere menu_qualifier_names names behind rest

-- the name of a response class
abbrev pub class_name : ResponseClass → Name
class_name class.Success = codes "SUCCESS"
class_name class.MiscWarning = codes "MISC_WARNING"
class_name class.DataEntryWarning = codes "DATA_ENTRY_WARNING"
class_name class.DataEntryError = codes "DATA_ENTRY_ERROR"
class_name class.ModeError = codes "MODE_ERROR"
class_name class.ProcessError = codes "PROCESS_ERROR"
class_name class.MiscError = codes "MISC_ERROR"

-- nothing, a semicolon or a comma
abbrev pub ResponseEndHere : List Token → List Token → Type 0
ResponseEndHere here rest = (here ≡ rest)
    ⊎ (NextSign sign.Semicolon here rest ⊎ NextSign sign.Comma here rest)

-- `number, class, text`
abbrev pub ResponseCodeHere : item.ResponseCode → List Token → List Token → Type 0
ResponseCodeHere r here rest =
    (from behind : List Token)
    × (here ≡ Integer r.number ∷ Sign sign.Comma ∷ Identifier (class_name r.class) ∷ Sign sign.Comma
    ∷ from)
    × TextHere r.text from behind × ResponseEndHere behind rest

-- `, label` and `, label, help`; a help comes after a label alone
abbrev pub MemberTextsHere : (label help : Option texts.Text) → List Token → List Token → Type 0
MemberTextsHere None None here rest = here ≡ rest
MemberTextsHere None (Some help) here rest = ⊥
MemberTextsHere (Some label) help here rest =
    (behind : List Token) × OptionalTextHere (Some label) here behind × OptionalTextHere help behind
    rest

-- `name, item, label, help;`
abbrev pub MemberHere : item.Member Path → List Token → List Token → Type 0
MemberHere m here rest =
    (from behind : List Token) × (here ≡ Identifier m.name ∷ Sign sign.Comma ∷ from)
    × PlainHere m.item from behind
    × MemberTextsHere m.label m.help behind (Sign sign.Semicolon ∷ rest)

-- `number, variable, label, help;`
abbrev pub ArrayElementHere : item.ArrayElement Path → List Token → List Token → Type 0
ArrayElementHere e here rest =
    (from behind : List Token) × (here ≡ Integer e.number ∷ Sign sign.Comma ∷ from)
    × PlainHere e.variable from behind
    × MemberTextsHere e.label e.help behind (Sign sign.Semicolon ∷ rest)

-- ---- types

-- the name of a type of the profile
abbrev pub type_name : VarType → Name
type_name var_type.Integer = codes "INTEGER"
type_name var_type.UnsignedInteger = codes "UNSIGNED_INTEGER"
type_name var_type.Enumerated = codes "ENUMERATED"
type_name var_type.BitEnumerated = codes "BIT_ENUMERATED"

-- the names of all types of the profile
abbrev pub type_names : List Name
type_names = codes "INTEGER" ∷ codes "UNSIGNED_INTEGER" ∷ codes "ENUMERATED"
    ∷ codes "BIT_ENUMERATED" ∷ []

-- `(size)` or nothing
abbrev pub SizeHere : Option ℕ → List Token → List Token → Type 0
SizeHere None here rest = here ≡ rest
SizeHere (Some size) here rest = here ≡ Sign sign.OpenParenthesis ∷ Integer size
    ∷ Sign sign.CloseParenthesis ∷ rest

-- an option of a type, or an element of its list with a comma after it or none
abbrev pub TypePartHere : TypePart Path → List Token → List Token → Type 0
TypePartHere (item.OneNumber which c) here rest = (behind : List Token)
    × WordHere number_of_word which here behind × OneHere ValueExprHere c behind rest
TypePartHere (item.OneFormat which c) here rest = (behind : List Token)
    × WordHere format_of_word which here behind × OneHere TextHere c behind rest
TypePartHere (item.Element c) here rest =
    (behind : List Token) × ElementHere EnumeratorHere c here behind
    × OptionalSign sign.Comma behind rest

-- a semicolon, or braces
abbrev pub TypePartsHere : List (TypePart Path) → List Token → List Token → Type 0
TypePartsHere parts here rest =
    ((parts ≡ []) × NextSign sign.Semicolon here rest)
    ⊎ ((inside : List Token) × NextSign sign.OpenBrace here inside
    × RowHere TypePartHere parts inside (Sign sign.CloseBrace ∷ rest))

-- neither `;` nor a brace
abbrev pub is_inside_type : Token → Bool
is_inside_type (Sign sign.Semicolon) = false
is_inside_type (Sign sign.OpenBrace) = false
is_inside_type (Sign sign.CloseBrace) = false
is_inside_type _ = true

-- what comes after the brace that closes the outermost of `depth` open braces
abbrev pub behind_braces : (depth : ℕ) → List Token → Option (List Token)
behind_braces zero here = Some here
behind_braces (suc depth) [] = None
behind_braces (suc depth) (Sign sign.OpenBrace ∷ rest) = behind_braces (suc (suc depth)) rest
behind_braces (suc depth) (Sign sign.CloseBrace ∷ rest) = behind_braces depth rest
behind_braces (suc depth) (_ ∷ rest) = behind_braces (suc depth) rest

-- what comes after another word: it ends at its first semicolon, or at the brace that closes a
-- brace before one
abbrev pub OtherEndHere : List Token → List Token → Type 0
OtherEndHere here rest =
    NextSign sign.Semicolon here rest
    ⊎ ((inside : List Token) × NextSign sign.OpenBrace here inside
    × (behind_braces 1 inside ≡ Some rest))

-- these tokens, each of which is neither `;` nor a brace
abbrev pub SkippedHere : List Token → List Token → List Token → Type 0
SkippedHere [] here rest = here ≡ rest
SkippedHere (t ∷ ts) here rest = IsTrue (is_inside_type t) × (behind : List Token)
    × Next t here behind × SkippedHere ts behind rest

-- what comes after a word that is no type of the profile
abbrev pub OtherTypeHere : List Token → List Token → Type 0
OtherTypeHere here rest = (skipped from : List Token) × SkippedHere skipped here from
    × OtherEndHere from rest

-- a type of the profile with its size and its parts, or another word
abbrev pub TypeHere : item.TypeWord → List (TypePart Path) → List Token → List Token → Type 0
TypeHere (item.Known type size) parts here rest =
    (from behind : List Token) × NextName (type_name type) here from × SizeHere size from behind
    × TypePartsHere parts behind rest
TypeHere (item.Other name) parts here rest =
    (parts ≡ []) × IsTrue (not (is_name_in type_names name)) × (from : List Token)
    × NextName name here from × OtherTypeHere from rest

-- ---- transactions

-- REQUEST or REPLY with data items in braces
abbrev pub TransactionPartHere : TransactionPart Path → List Token → List Token → Type 0
TransactionPartHere (item.Request all) here rest =
    (inside : List Token) × (here ≡ Reserved word.Request ∷ Sign sign.OpenBrace ∷ inside)
    × ListHere DataItemHere all inside (Sign sign.CloseBrace ∷ rest)
TransactionPartHere (item.Reply all) here rest =
    (inside : List Token) × (here ≡ Reserved word.Reply ∷ Sign sign.OpenBrace ∷ inside)
    × ListHere DataItemHere all inside (Sign sign.CloseBrace ∷ rest)

-- a number or nothing
abbrev pub NumberHere : Option ℕ → List Token → List Token → Type 0
NumberHere None here rest = here ≡ rest
NumberHere (Some n) here rest = Next (Integer n) here rest

-- ---- attributes

-- an attribute with its word
abbrev pub AttributeHere : Attribute Path → List Token → List Token → Type 0
AttributeHere (item.OneText which c) here rest = (behind : List Token)
    × WordHere text_of_word which here behind × OneHere TextHere c behind rest
AttributeHere (item.Class names) here rest =
    (behind : List Token) × NextWord word.Class here behind × NamesHere (sign.Operator operator.And)
    names behind (Sign sign.Semicolon ∷ rest)
AttributeHere (item.Handling c) here rest = (behind : List Token)
    × NextWord word.Handling here behind × OneHere HandlingHere c behind rest
AttributeHere (item.Validity c) here rest = (behind : List Token)
    × NextWord word.Validity here behind × OneHere TruthHere c behind rest
AttributeHere (item.TypeOf type parts) here rest = (behind : List Token)
    × NextWord word.Type here behind × TypeHere type parts behind rest
AttributeHere (item.Number n) here rest = here ≡ Reserved word.Number ∷ Integer n
    ∷ Sign sign.Semicolon ∷ rest
AttributeHere (item.Operation o) here rest =
    (behind : List Token) × NextWord word.Operation here behind
    × OperationHere o behind (Sign sign.Semicolon ∷ rest)
AttributeHere (item.Transaction number parts) here rest =
    (from brace inside : List Token) × NextWord word.Transaction here from
    × NumberHere number from brace
    × NextSign sign.OpenBrace brace inside × ClosedHere TransactionPartHere parts inside
    (Sign sign.CloseBrace ∷ rest)
AttributeHere (item.ResponseCodes responses) here rest =
    (inside : List Token) × (here ≡ Reserved word.ResponseCodes ∷ Sign sign.OpenBrace ∷ inside)
    × RowHere ResponseCodeHere responses inside (Sign sign.CloseBrace ∷ rest)
AttributeHere (item.Items entries) here rest =
    (inside : List Token) × (here ≡ Reserved word.Items ∷ Sign sign.OpenBrace ∷ inside)
    × ListHere MenuEntryHere entries inside (Sign sign.CloseBrace ∷ rest)
AttributeHere (item.Members members) here rest =
    (inside : List Token) × (here ≡ Reserved word.Members ∷ Sign sign.OpenBrace ∷ inside)
    × RowHere MemberHere members inside (Sign sign.CloseBrace ∷ rest)
AttributeHere (item.Elements elements) here rest =
    (inside : List Token) × (here ≡ Reserved word.Elements ∷ Sign sign.OpenBrace ∷ inside)
    × RowHere ArrayElementHere elements inside (Sign sign.CloseBrace ∷ rest)
AttributeHere (item.Definition body) here rest =
    (inside : List Token) × (here ≡ Reserved word.Definition ∷ Sign sign.OpenBrace ∷ inside)
    × BodyHere false body inside (Sign sign.CloseBrace ∷ rest)

-- ---- items

-- the word of a kind that members of a collection may have
abbrev pub KindHere : Kind → List Token → List Token → Type 0
KindHere kind.Variable here rest = NextWord word.Variable here rest
KindHere kind.Command here rest = NextWord word.Command here rest
KindHere kind.Menu here rest = NextWord word.Menu here rest
KindHere kind.Collection here rest = NextWord word.Collection here rest
KindHere kind.Method here rest = NextWord word.Method here rest
KindHere kind.Array here rest = ⊥

-- the word of an item, for a collection with the kind of its members
abbrev pub ItemWordHere : ItemKind → List Token → List Token → Type 0
ItemWordHere VariableItem here rest = NextWord word.Variable here rest
ItemWordHere CommandItem here rest = NextWord word.Command here rest
ItemWordHere MenuItem here rest = NextWord word.Menu here rest
ItemWordHere (CollectionItem of) here rest =
    (behind : List Token) × (here ≡ Reserved word.Collection ∷ Reserved word.Of ∷ behind)
    × KindHere of behind rest
ItemWordHere MethodItem here rest = NextWord word.Method here rest
ItemWordHere ArrayItem here rest = here ≡ Reserved word.Array ∷ Reserved word.Of
    ∷ Reserved word.Variable ∷ rest

-- an attribute that this kind of item may have
abbrev pub OwnAttributeHere : Kind → Attribute Path → List Token → List Token → Type 0
OwnAttributeHere k a here rest = IsTrue (belongs_to k a) × AttributeHere a here rest

-- an item: its word, its name, and its attributes in braces
abbrev pub ItemHere : Item Path → List Token → List Token → Type 0
ItemHere i here rest =
    (from inside : List Token) × ItemWordHere i.sort here from
    × (from ≡ Identifier i.name ∷ Sign sign.OpenBrace ∷ inside)
    × ClosedHere (OwnAttributeHere (kind_of_item i.sort)) i.attributes inside (Sign sign.CloseBrace
    ∷ rest)

-- ---- the unit

-- `WORD number`
abbrev pub NumberedWordHere : Keyword → ℕ → List Token → List Token → Type 0
NumberedWordHere k n here rest = here ≡ Reserved k ∷ Integer n ∷ rest

-- the four numbers, with a comma between two of them or none, and perhaps one after the last
abbrev pub IdentificationHere : Identification → List Token → List Token → Type 0
IdentificationHere i here rest =
    (a b c d e f g : List Token)
    × NumberedWordHere word.Manufacturer i.manufacturer here a × OptionalSign sign.Comma a b
    × NumberedWordHere word.DeviceType i.device_type b c × OptionalSign sign.Comma c d
    × NumberedWordHere word.DeviceRevision i.device_revision d e × OptionalSign sign.Comma e f
    × NumberedWordHere word.DdRevision i.dd_revision f g × OptionalSign sign.Comma g rest

-- The tokens spell the unit: all of them, in order, and no tree is higher than the limit.
pub record Spells (tokens : List Token) (unit : Description Path) : Type 0 where
  pub items_from : List Token
  pub identification : IdentificationHere unit.identification tokens items_from
  pub items : ClosedHere ItemHere unit.items items_from []
  pub heights : IsTrue (list_all (λ i. nat_le (item_height i) height_limit) unit.items)
