-- Attributes that are there twice, each at its token. `before` are the words so far.
use Rattle.std.specs.Prelude.{if◌then◌else◌, List, [], ◌∷◌, ◌++◌}
use Rattle.std.specs.List.{flat_map}
use Rattle.edd_breaches.specs.Told.{Told}
use Rattle.edd_duplicates.specs.Names.{word_told}
use Rattle.edd_syntax.specs.declared.item.Item.{Item}
use Rattle.edd_syntax.specs.declared.item.Attribute.{Attribute}
use Rattle.edd_syntax.specs.declared.item.Attribute.TheVariants.{TypeOf, Transaction}
use Rattle.edd_syntax.specs.declared.item.TypePart.{TypePart}
use Rattle.edd_syntax.specs.declared.item.TypePart.TheVariants as part
use Rattle.edd_syntax.specs.declared.item.TransactionPart.{TransactionPart}
use Rattle.edd_syntax.specs.declared.item.TransactionPart.TheVariants as transaction
use Rattle.edd_syntax.specs.declared.numbers.Attr.TheVariants as attr
use Rattle.edd_syntax.specs.declared.reference.Path.{Path}
use Rattle.edd_syntax.specs.ItemView.{attribute_of, attributes_of, transaction_part_of, type_part_of}
use Rattle.edd_syntax.specs.NameRules.{is_transaction, attribute_word, transaction_part_word, type_part_words}
use Rattle.edd_syntax.specs.Numbers.{attr_word, number_attr, format_attr}
use Rattle.edd_syntax.specs.Text.{Name}
use Rattle.edd_syntax.specs.TreeView.{path_of}
use Rattle.edd_breaches.specs.Along.{told_along}
use Rattle.edd_syntax.specs.Places.{word_at}

-- an option of a type; an element of the type's list is none
abbrev pub option_told : (before : List Name) → TypePart Path → List Told
option_told before (part.OneNumber at which value) = word_told before (attr_word (number_attr which)) at
option_told before (part.OneFormat at which format) =
    word_told before (attr_word (format_attr which)) at
option_told before (part.Element element) = []

-- the words after it
abbrev pub with_option : (before : List Name) → TypePart Path → List Name
with_option before p = type_part_words (type_part_of path_of p) ++ before

-- a REQUEST or a REPLY
abbrev pub part_told : (before : List Name) → TransactionPart Path → List Told
part_told before (transaction.Request at all) = word_told before (attr_word attr.Request) at
part_told before (transaction.Reply at all) = word_told before (attr_word attr.Reply) at

-- the words after it
abbrev pub with_part : (before : List Name) → TransactionPart Path → List Name
with_part before p = transaction_part_word (transaction_part_of path_of p) ∷ before

-- what is in the braces of an attribute
abbrev pub braces_told : Attribute Path → List Told
braces_told (TypeOf at word parts) = told_along option_told with_option [] parts.items
braces_told (Transaction at number parts) = told_along part_told with_part [] parts.items
braces_told _ = []

-- the word of an attribute, of which only that of a transaction may be there twice
abbrev pub own_word_told : (before : List Name) → Attribute Path → List Told
own_word_told before a = if is_transaction (attribute_of path_of a) then [] else
    word_told before (attribute_word (attribute_of path_of a)) (word_at a)

-- an attribute, and what is in its braces
abbrev pub attribute_told : (before : List Name) → Attribute Path → List Told
attribute_told before a = own_word_told before a ++ braces_told a

-- the words after it
abbrev pub with_attribute : (before : List Name) → Attribute Path → List Name
with_attribute before a = attribute_word (attribute_of path_of a) ∷ before

-- the attributes of an item
abbrev pub words_told_in : Item Path → List Told
words_told_in i = told_along attribute_told with_attribute [] (attributes_of i)

-- those of all items
abbrev pub words_told : List (Item Path) → List Told
words_told items = flat_map words_told_in items
