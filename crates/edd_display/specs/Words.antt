-- The words of a line, and the names and texts of an image on it.
use Rattle.std.specs.Prelude.{ℕ, ◌==◌, Bool, true, false, not, if◌then◌else◌, List, [], ◌∷◌, ◌++◌, map, bit_and, Option, Some, None, option_map, unwrap_or, codes}
use Rattle.std.specs.List.{filter, flat_map}
use Rattle.edd_syntax.specs.declared.answer.Trap.{Trap}
use Rattle.edd_syntax.specs.declared.answer.Trap.TheVariants as trap
use Rattle.edd_syntax.specs.declared.types.VarType.{VarType}
use Rattle.edd_syntax.specs.declared.types.VarType.TheVariants as var_type
use Rattle.edd_syntax.specs.declared.numbers.ItemNo.{ItemNo}
use Rattle.edd_syntax.specs.declared.numbers.StrNo.{StrNo}
use Rattle.edd_image.specs.Contents.{Contents}
use Rattle.edd_instructions.specs.Agreement.{name_numbered, string_numbered}
use Rattle.edd_loader.specs.Texts.{given}

-- ---- words

-- the word of a type
abbrev pub type_word : VarType → List ℕ
type_word var_type.Integer = codes "INTEGER"
type_word var_type.UnsignedInteger = codes "UNSIGNED_INTEGER"
type_word var_type.Enumerated = codes "ENUMERATED"
type_word var_type.BitEnumerated = codes "BIT_ENUMERATED"

-- the word of a trap
abbrev pub trap_word : Trap → List ℕ
trap_word trap.DivZero = codes "DIV_ZERO"
trap_word trap.DivOverflow = codes "DIV_OVERFLOW"
trap_word trap.BadShift = codes "BAD_SHIFT"
trap_word trap.NoElement = codes "NO_ELEMENT"

-- the word of a response code's class, by its number
abbrev pub class_word : ℕ → List ℕ
class_word n =
    if n == 0 then codes "SUCCESS" else
    if n == 1 then codes "MISC_WARNING" else
    if n == 2 then codes "DATA_ENTRY_WARNING" else
    if n == 3 then codes "DATA_ENTRY_ERROR" else
    if n == 4 then codes "MODE_ERROR" else
    if n == 5 then codes "PROCESS_ERROR" else
    codes "MISC_ERROR"

-- ---- qualifiers

-- the bits and the words of the qualifiers of a menu's entry
abbrev pub menu_qualifiers : List (ℕ × List ℕ)
menu_qualifiers =
    (1, codes "DISPLAY_VALUE") ∷ (2, codes "READ_ONLY") ∷ (4, codes "HIDDEN") ∷ (8, codes "REVIEW")
    ∷ []

-- the bits and the words of the qualifiers of a data item
abbrev pub data_qualifiers : List (ℕ × List ℕ)
data_qualifiers = (1, codes "INFO") ∷ (2, codes "INDEX") ∷ []

-- the words of the bits that are set
abbrev pub words_set : (bits : ℕ) → List (ℕ × List ℕ) → List (List ℕ)
words_set bits words = map (λ w. w.1) (filter (λ w. not (bit_and bits w.0 == 0)) words)

-- words between parentheses, with a blank between two of them; nothing where there is none
abbrev pub in_parentheses : List (List ℕ) → List ℕ
in_parentheses [] = []
in_parentheses (w ∷ ws) = 40 ∷ w ++ flat_map (λ v. 32 ∷ v) ws ++ 41 ∷ []

-- the words of the bits that are set, between parentheses
unfoldable pub qualifiers_shown : (bits : ℕ) → List (ℕ × List ℕ) → List ℕ
qualifiers_shown bits words = in_parentheses (words_set bits words)

-- ---- texts

-- a byte between quotes: `"` and `\` after a `\`, LF as `\n`, TAB as `\t`, any other as it is
abbrev pub escape : ℕ → List ℕ
escape c =
    if c == 34 then 92 ∷ 34 ∷ [] else
    if c == 92 then 92 ∷ 92 ∷ [] else
    if c == 10 then 92 ∷ 110 ∷ [] else
    if c == 9 then 92 ∷ 116 ∷ [] else
    c ∷ []

-- a text between quotes, with its escapes
unfoldable pub quoted : List ℕ → List ℕ
quoted text = 34 ∷ flat_map escape text ++ 34 ∷ []

-- a key of the dictionary, between brackets
unfoldable pub key_shown : List ℕ → List ℕ
key_shown key = 91 ∷ key ++ 93 ∷ []

-- a text between quotes, or a key
abbrev pub text_shown : Option (Bool × List ℕ) → List ℕ
text_shown None = []
text_shown (Some (false, text)) = quoted text
text_shown (Some (true, key)) = key_shown key

-- a name, which is a text without quotes, or a key
abbrev pub name_shown : Option (Bool × List ℕ) → List ℕ
name_shown None = []
name_shown (Some (false, name)) = name
name_shown (Some (true, key)) = key_shown key

-- the string of a number, as its text for a language or as its key
unfoldable pub string_shown : Contents → (code : List ℕ) → StrNo → List ℕ
string_shown c code n = text_shown (option_map (λ w. given w code) (string_numbered c n))

-- the name of a member, which is a string without quotes
unfoldable pub member_shown : Contents → (code : List ℕ) → StrNo → List ℕ
member_shown c code n = name_shown (option_map (λ w. given w code) (string_numbered c n))

-- a blank and the string, where there is one
abbrev pub optional_shown : Contents → (code : List ℕ) → Option StrNo → List ℕ
optional_shown c code None = []
optional_shown c code (Some n) = 32 ∷ string_shown c code n

-- the name of an item; an image has one for each item that it names
unfoldable pub name_of : Contents → ItemNo → List ℕ
name_of c item = unwrap_or (name_numbered c item) []
