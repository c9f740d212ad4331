-- Reading attributes from left to right.
use Rattle.std.specs.Prelude.{ℕ, Bool, false, List, [], ◌∷◌, drop, Option, Some, None, codes, if◌then◌else◌}
use Rattle.std.specs.Str.{bytes_eq}
use Rattle.edd_syntax.specs.declared.numbers.Kind.{Kind}
use Rattle.edd_syntax.specs.declared.numbers.Kind.TheVariants as kind
use Rattle.edd_syntax.specs.declared.numbers.Attr.TheVariants as attr
use Rattle.edd_syntax.specs.declared.numbers.TextAttribute.{TextAttribute}
use Rattle.edd_syntax.specs.declared.types.ResponseClass.{ResponseClass}
use Rattle.edd_syntax.specs.declared.types.ResponseClass.TheVariants as class
use Rattle.edd_syntax.specs.declared.symbols.Keyword.{Keyword}
use Rattle.edd_syntax.specs.declared.symbols.Keyword.TheVariants as word
use Rattle.edd_syntax.specs.declared.symbols.Symbol.TheVariants as sign
use Rattle.edd_syntax.specs.Text.{Name}
use Rattle.edd_syntax.specs.Token.{Token, Reserved}
use Rattle.edd_syntax.specs.Reference.{Path}
use Rattle.edd_syntax.specs.Item as item
use Rattle.edd_syntax.specs.Item.{TransactionPart, Attribute}
use Rattle.edd_syntax.specs.Numbers.{has_attr, same_kind, text_attr, text_of_word}
use Rattle.edd_grammar.specs.Reading.{◌>>=◌, on_option, Read, at, expect, at_word, name_at, word_by}
use Rattle.edd_grammar.specs.ConditionalReading.{one_at, list_at, text_value}
use Rattle.edd_grammar.specs.StatementReading.{definition_at}
use Rattle.edd_grammar.specs.WordReading.{integer_at, number_at, names_at, closed, braced, row_inside}
use Rattle.edd_grammar.specs.ValueReading.{operation_at, some_text_at, optional_text_at, handling_value, truth_value, data_item_value, menu_entry_value}
use Rattle.edd_grammar.specs.TypeReading.{type_at}

-- ---- response codes, members and elements

-- the class with this name
abbrev pub class_of : Name → Option ResponseClass
class_of name =
    if bytes_eq name (codes "SUCCESS") then Some class.Success
    else if bytes_eq name (codes "MISC_WARNING") then Some class.MiscWarning
    else if bytes_eq name (codes "DATA_ENTRY_WARNING") then Some class.DataEntryWarning
    else if bytes_eq name (codes "DATA_ENTRY_ERROR") then Some class.DataEntryError
    else if bytes_eq name (codes "MODE_ERROR") then Some class.ModeError
    else if bytes_eq name (codes "PROCESS_ERROR") then Some class.ProcessError
    else if bytes_eq name (codes "MISC_ERROR") then Some class.MiscError
    else None

-- a response class, by its name
unfoldable pub class_at : List Token → Read ResponseClass
class_at here = name_at here >>= λ n. class_of n.0 >>= λ c. Some (c, n.1)

-- after a semicolon or a comma, if one is next
abbrev pub behind_response : List Token → List Token
behind_response here = if at sign.Semicolon here then drop 1 here else if at sign.Comma here then
    drop 1 here else here

-- `number, class, text`
unfoldable pub response_code_at : List Token → Read item.ResponseCode
response_code_at here = do
  (number, first) ← integer_at here
  second ← expect sign.Comma first
  (class, third) ← class_at second
  from ← expect sign.Comma third
  (text, behind) ← some_text_at from
  Some (record { number = number; class = class; text = text }, behind_response behind)

-- `name, item, label, help;`
unfoldable pub member_at : List Token → Read (item.Member Path)
member_at here = do
  (name, comma) ← name_at here
  from ← expect sign.Comma comma
  (base, first) ← name_at from
  (label, second) ← optional_text_at first
  (help, behind) ← optional_text_at second
  rest ← expect sign.Semicolon behind
  Some (
    record {
      name = name;
      item = record { base = base; members = [] };
      label = label;
      help = help;
    },
    rest,
  )

-- `number, variable, label, help;`
unfoldable pub array_element_at : List Token → Read (item.ArrayElement Path)
array_element_at here = do
  (number, comma) ← integer_at here
  from ← expect sign.Comma comma
  (base, first) ← name_at from
  (label, second) ← optional_text_at first
  (help, behind) ← optional_text_at second
  rest ← expect sign.Semicolon behind
  Some (
    record {
      number = number;
      variable = record { base = base; members = [] };
      label = label;
      help = help;
    },
    rest,
  )

-- ---- transactions

-- a part of at most this height of what is in the braces of a transaction
unfoldable pub transaction_part_at : ℕ → List Token → Read (TransactionPart Path)
transaction_part_at height_left here =
    if at_word word.Request here then (braced (list_at data_item_value height_left) (drop 1 here)
    >>= λ all. Some (item.Request all.0, all.1))
    else if at_word word.Reply here then (braced (list_at data_item_value height_left) (drop 1 here)
    >>= λ all. Some (item.Reply all.0, all.1))
    else None

-- after TRANSACTION
unfoldable pub transaction_at : ℕ → List Token → Read (Attribute Path)
transaction_at height_left here = do
  (number, brace) ← number_at here
  (parts, rest) ← braced (row_inside (closed (transaction_part_at height_left))) brace
  Some (item.Transaction number parts, rest)

-- ---- attributes

-- after CLASS
unfoldable pub class_words_at : List Token → Read (Attribute Path)
class_words_at here = do
  (names, behind) ← names_at here
  rest ← expect sign.Semicolon behind
  Some (item.Class names, rest)

-- after NUMBER
unfoldable pub command_number_at : List Token → Read (Attribute Path)
command_number_at here = do
  (n, behind) ← integer_at here
  rest ← expect sign.Semicolon behind
  Some (item.Number n, rest)

-- after OPERATION
unfoldable pub command_operation_at : List Token → Read (Attribute Path)
command_operation_at here = do
  (o, behind) ← operation_at here
  rest ← expect sign.Semicolon behind
  Some (item.Operation o, rest)

-- the attribute that is one text and of which the word is next
abbrev pub text_here : List Token → Option TextAttribute
text_here = word_by text_of_word

-- the attributes that hold what an item is made of
unfoldable pub list_attribute_at : ℕ → List Token → Read (Attribute Path)
list_attribute_at height_left here =
    if at_word word.Items here then (braced (list_at menu_entry_value height_left) (drop 1 here)
    >>= λ all. Some (item.Items all.0, all.1))
    else if at_word word.Members here then (braced (row_inside member_at) (drop 1 here)
    >>= λ all. Some (item.Members all.0, all.1))
    else if at_word word.Definition here
    then (expect sign.OpenBrace (drop 1 here) >>= λ inside. definition_at height_left inside
    >>= λ b. Some (item.Definition b.0, b.1))
    else if at_word word.Elements here then (braced (row_inside array_element_at) (drop 1 here)
    >>= λ all. Some (item.Elements all.0, all.1))
    else None

-- the attributes of commands, and those above
unfoldable pub command_attribute_at : ℕ → List Token → Read (Attribute Path)
command_attribute_at height_left here =
    if at_word word.Number here then command_number_at (drop 1 here)
    else if at_word word.Operation here then command_operation_at (drop 1 here)
    else if at_word word.Transaction here then transaction_at height_left (drop 1 here)
    else if at_word word.ResponseCodes here
    then (braced (row_inside response_code_at) (drop 1 here)
    >>= λ all. Some (item.ResponseCodes all.0, all.1))
    else list_attribute_at height_left here

-- an attribute of at most this height that isn't one text
unfoldable pub other_attribute_at : ℕ → List Token → Read (Attribute Path)
other_attribute_at height_left here =
    if at_word word.Class here then class_words_at (drop 1 here)
    else if at_word word.Handling here then (one_at handling_value height_left (drop 1 here)
    >>= λ c. Some (item.Handling c.0, c.1))
    else if at_word word.Validity here then (one_at truth_value height_left (drop 1 here)
    >>= λ c. Some (item.Validity c.0, c.1))
    else if at_word word.Type here then (type_at height_left (drop 1 here)
    >>= λ t. Some (item.TypeOf t.0.0 t.0.1, t.1))
    else command_attribute_at height_left here

-- an attribute of at most this height
unfoldable pub attribute_at : ℕ → List Token → Read (Attribute Path)
attribute_at height_left here =
    on_option (text_here here) (other_attribute_at height_left here)
    (λ which. one_at text_value height_left (drop 1 here)
    >>= λ c. Some (item.OneText which c.0, c.1))

-- whether an item of this kind may have the attribute with this word, which isn't one text
abbrev pub other_word_belongs : Kind → Keyword → Bool
other_word_belongs k word.Class = has_attr k attr.Class
other_word_belongs k word.Handling = has_attr k attr.Handling
other_word_belongs k word.Validity = has_attr k attr.Validity
other_word_belongs k word.Type = same_kind k kind.Variable
other_word_belongs k word.Number = has_attr k attr.Number
other_word_belongs k word.Operation = has_attr k attr.Operation
other_word_belongs k word.Transaction = has_attr k attr.Transaction
other_word_belongs k word.ResponseCodes = has_attr k attr.ResponseCodes
other_word_belongs k word.Items = has_attr k attr.Items
other_word_belongs k word.Members = has_attr k attr.Members
other_word_belongs k word.Definition = has_attr k attr.Definition
other_word_belongs k word.Elements = has_attr k attr.Elements
other_word_belongs k _ = false

-- whether an item of this kind may have the attribute with this word
abbrev pub word_belongs : Kind → Keyword → Bool
word_belongs k w = on_option (text_of_word w) (other_word_belongs k w)
    (λ which. has_attr k (text_attr which))

-- whether the word of such an attribute is next
abbrev pub begins_own : Kind → List Token → Bool
begins_own k (Reserved w ∷ rest) = word_belongs k w
begins_own k _ = false

-- an attribute of at most this height that this kind of item may have
unfoldable pub own_attribute_at : Kind → ℕ → List Token → Read (Attribute Path)
own_attribute_at k height_left here = if begins_own k here then attribute_at height_left here else
    None
