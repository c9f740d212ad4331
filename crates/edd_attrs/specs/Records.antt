-- The records of elements, their strings, and what those of a checked description keep.
use Rattle.std.specs.Prelude.{◌^◌, ℤ, pos, negsuc, unsigned_abs, nat_lt, ◌&&◌, Bool, true, false, not, List, [], ◌∷◌, ◌++◌}
use Rattle.std.specs.List.{flat_map}
use Rattle.std.specs.Option.{option_to_list}
use Rattle.edd_syntax.specs.declared.numbers.ItemNo.{ItemNo}
use Rattle.edd_syntax.specs.declared.numbers.Kind.TheVariants as kind
use Rattle.edd_syntax.specs.declared.reference.Target.{Target}
use Rattle.edd_syntax.specs.declared.types.Handling as handling
use Rattle.edd_syntax.specs.Item as item
use Rattle.edd_syntax.specs.Item.{DataItem, MenuEntry, Description}
use Rattle.edd_image.specs.declared.parts.Counts.{Counts}
use Rattle.edd_image.specs.Existing.{item_exists, variable_exists}
use Rattle.edd_instructions.specs.Agreement.{mask_number, counts_of}
use Rattle.edd_syntax.specs.Text.{Text, Name}
use Rattle.edd_syntax.specs.Words as words
use Rattle.edd_syntax.specs.Words.{words_of, name_words}
use Rattle.edd_syntax.specs.Numbers.{kind_of, same_kind}
use Rattle.edd_syntax.specs.WellFormed.{is_text, if_some}
use Rattle.edd_syntax.specs.Attributes.{Record, Words, Number, Entry, DataConst, DataVar, Enumerator, Response, Member, Element, bit, handling_number}

-- ---- records

-- of a text: its string
abbrev pub text_record : Text → Record
text_record t = Words (words_of t)

-- of a word of CLASS: the word as a string
abbrev pub class_record : Name → Record
class_record n = Words (name_words n)

-- of HANDLING: the number of READ, WRITE or both
abbrev pub handling_record : handling.Handling → Record
handling_record h = Number (pos (handling_number h))

-- of VALIDITY: 1 for TRUE, 0 for FALSE
abbrev pub validity_record : Bool → Record
validity_record valid = Number (pos (bit valid))

-- ---- the strings of records

-- the strings that a record names, in their order
abbrev pub strings_of_record : Record → List words.Words
strings_of_record (Words w) = w ∷ []
strings_of_record (Enumerator value text help) = text ∷ option_to_list help
strings_of_record (Response number class text) = text ∷ []
strings_of_record (Member name item label help) = name
    ∷ (option_to_list label ++ option_to_list help)
strings_of_record (Element number variable label help) = option_to_list label ++ option_to_list help
strings_of_record _ = []

-- the strings of records one after the other
abbrev pub strings_of : List Record → List words.Words
strings_of rs = flat_map strings_of_record rs

-- ---- what the records of a checked description keep

-- a number of 32 bits, and one with a sign
abbrev pub is_number : ℤ → Bool
is_number (pos n) = nat_lt n (2 ^ 32)
is_number (negsuc n) = false

-- an integer that is within 32 bits without its sign
abbrev pub is_label : ℤ → Bool
is_label z = nat_lt (unsigned_abs z) (2 ^ 32)

-- the counts of a description, with no strings counted
abbrev pub counts_in : Description Target → Counts
counts_in unit = counts_of unit.identification unit.items 0

-- no entry and no member is an array
abbrev pub is_listed : ItemNo → Bool
is_listed i = not (same_kind (kind_of i) kind.Array)

-- items exist, and numbers fit the operands of instructions; an element is that of an array
abbrev pub is_fine : Description Target → Record → Bool
is_fine unit (Words w) = true
is_fine unit (Number z) = is_number z
is_fine unit (Entry item quals) = is_listed item && item_exists (counts_in unit) item
is_fine unit (DataConst n) = nat_lt n 256
is_fine unit (DataVar v mask quals) = variable_exists (counts_in unit) v
    && nat_lt (mask_number mask) (2 ^ 32)
is_fine unit (Enumerator value text help) = is_label value
is_fine unit (Response number class text) = nat_lt number (2 ^ 32)
is_fine unit (Member name item label help) = is_listed item && item_exists (counts_in unit) item
is_fine unit (Element number variable label help) = (nat_lt number (2 ^ 32)
    && variable_exists (counts_in unit) variable) && nat_lt 0 (counts_in unit).arrays

-- ---- what the elements of a checked description keep

-- lowering can take its text, and its help if it has one
abbrev pub kept_enumerator : item.Enumerator → Bool
kept_enumerator e = is_text e.text && if_some is_text e.help

-- lowering can take the text that it may be
abbrev pub kept_entry : MenuEntry Target → Bool
kept_entry (item.Text text) = is_text text
kept_entry (item.Reference to qualifiers) = true

-- the constant that it may be is an octet
abbrev pub kept_data : DataItem Target → Bool
kept_data (item.Constant n) = nat_lt n 256
kept_data (item.Variable variable mask qualifiers) = true

-- lowering can take its text
abbrev pub kept_response : item.ResponseCode → Bool
kept_response r = is_text r.text

-- lowering can take the label and the help that it may have
abbrev pub kept_member : item.Member Target → Bool
kept_member m = if_some is_text m.label && if_some is_text m.help

-- lowering can take the label and the help that it may have
abbrev pub kept_array_element : item.ArrayElement Target → Bool
kept_array_element e = if_some is_text e.label && if_some is_text e.help
