-- Reading the types of variables from left to right.
use Rattle.std.specs.Prelude.{ℕ, List, [], ◌∷◌, drop, Option, Some, None, codes, if◌then◌else◌}
use Rattle.std.specs.Str.{bytes_eq}
use Rattle.edd_syntax.specs.declared.types.VarType.{VarType}
use Rattle.edd_syntax.specs.declared.types.VarType.TheVariants as var_type
use Rattle.edd_syntax.specs.declared.symbols.Symbol.TheVariants as sign
use Rattle.edd_syntax.specs.Text.{Name}
use Rattle.edd_syntax.specs.Token.{Token, Sign}
use Rattle.edd_syntax.specs.Reference.{Path}
use Rattle.edd_syntax.specs.Item as item
use Rattle.edd_syntax.specs.Item.{TypeWord, TypePart}
use Rattle.edd_syntax.specs.ItemGrammar.{behind_braces}
use Rattle.edd_syntax.specs.Numbers.{format_of_word, number_of_word}
use Rattle.edd_grammar.specs.Reading.{◌>>=◌, on_option, Read, at, expect, name_at, word_by}
use Rattle.edd_grammar.specs.ConditionalReading.{one_at, element_at, text_value, expr_value, skip_comma}
use Rattle.edd_grammar.specs.WordReading.{integer_at, braced, row_inside}
use Rattle.edd_grammar.specs.ValueReading.{enumerator_value}

-- the type with this name
abbrev pub type_of : Name → Option VarType
type_of name =
    if bytes_eq name (codes "INTEGER") then Some var_type.Integer
    else if bytes_eq name (codes "UNSIGNED_INTEGER") then Some var_type.UnsignedInteger
    else if bytes_eq name (codes "ENUMERATED") then Some var_type.Enumerated
    else if bytes_eq name (codes "BIT_ENUMERATED") then Some var_type.BitEnumerated
    else None

-- `(size)`, or none
unfoldable pub size_at : List Token → Read (Option ℕ)
size_at here =
    if at sign.OpenParenthesis here
    then (integer_at (drop 1 here) >>= λ n. expect sign.CloseParenthesis n.1
    >>= λ rest. Some (Some n.0, rest))
    else Some (None, here)

-- a format or an enumerator of at most this height
unfoldable pub format_or_element_at : ℕ → List Token → Read (TypePart Path)
format_or_element_at height_left here =
    on_option (word_by format_of_word here)
    (element_at enumerator_value height_left here
    >>= λ c. Some (item.Element c.0, skip_comma c.1))
    (λ which. one_at text_value height_left (drop 1 here)
    >>= λ c. Some (item.OneFormat which c.0, c.1))

-- a part of at most this height of what is in the braces of a type
unfoldable pub type_part_at : ℕ → List Token → Read (TypePart Path)
type_part_at height_left here =
    on_option (word_by number_of_word here) (format_or_element_at height_left here)
    (λ which. one_at expr_value height_left (drop 1 here)
    >>= λ c. Some (item.OneNumber which c.0, c.1))

-- a semicolon, or braces
unfoldable pub type_parts_at : ℕ → List Token → Read (List (TypePart Path))
type_parts_at height_left here =
    if at sign.Semicolon here then Some ([], drop 1 here) else braced
    (row_inside (type_part_at height_left)) here

-- What comes after a type whose word is another one: it ends at its first semicolon or, where a
-- brace is before one, at the brace that closes that.
unfoldable pub behind_other : List Token → Option (List Token)
behind_other [] = None
behind_other (Sign sign.Semicolon ∷ rest) = Some rest
behind_other (Sign sign.OpenBrace ∷ rest) = behind_braces 1 rest
behind_other (Sign sign.CloseBrace ∷ rest) = None
behind_other (_ ∷ rest) = behind_other rest

-- a type as it is written, and its parts
abbrev pub WrittenType : Type 0
WrittenType = TypeWord × List (TypePart Path)

-- after the name of a type
unfoldable pub known_type_at : ℕ → VarType → List Token → Read WrittenType
known_type_at height_left type here = do
  (size, from) ← size_at here
  (parts, rest) ← type_parts_at height_left from
  Some ((item.Known type size, parts), rest)

-- after another word
unfoldable pub other_type_at : Name → List Token → Read WrittenType
other_type_at name here = behind_other here >>= λ rest. Some ((item.Other name, []), rest)

-- after TYPE
unfoldable pub type_at : ℕ → List Token → Read WrittenType
type_at height_left here = name_at here >>= λ n. on_option (type_of n.0) (other_type_at n.0 n.1)
    (λ type. known_type_at height_left type n.1)
