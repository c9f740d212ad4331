-- The bytes of a string: 0 and its variants, at least one, or 1 and its key.
use Rattle.std.specs.Prelude.{ℕ, zero, suc, ◌==◌, Bool, false, ◌&&◌, List, [], ◌∷◌, ◌++◌, length, take, drop, Option, Some, None, nat_lt, if◌then◌else◌, ◌<◌, ◌^◌, ⊤}
use Rattle.std.specs.List.{AllByRecursion, list_all, flat_map}
use Rattle.std.specs.Int.{w32}
use Rattle.std.specs.Option.{option_map_or}
use Rattle.std.specs.Str.{is_utf8}
use Rattle.edd_syntax.specs.Names.{is_name}
use Rattle.edd_syntax.specs.Words.{Words, Variants, Key, Variant, is_code}
use Rattle.edd_image.specs.Layout.{u32}
use Rattle.edd_image.specs.Front.{◌>>=◌, byte_from, number_from}

-- ---- written

-- the length of the code in one byte, the code, the length of the text, the text
abbrev pub variant_bytes : Variant → List ℕ
variant_bytes v = length v.code ∷ (v.code ++ (u32 (length v.text) ++ v.text))

-- the bytes of a string: 0 and its variants, or 1 and its key
abbrev pub string_bytes : Words → List ℕ
string_bytes (Variants first rest) = 0 ∷ flat_map variant_bytes (first ∷ rest)
string_bytes (Key name) = 1 ∷ name

-- the lengths fit their fields
abbrev pub VariantFits : Variant → Type 0
VariantFits v = (length v.code < 2 ^ 8) × (length v.text < 2 ^ 32)

-- The lengths of each variant fit their fields; a key has no such fields.
abbrev pub WordsFit : Words → Type 0
WordsFit (Variants first rest) = AllByRecursion VariantFits (first ∷ rest)
WordsFit (Key name) = ⊤

-- ---- read

-- the first n bytes and those after them, where there are so many
abbrev pub front_of : ℕ → List ℕ → Option (List ℕ × List ℕ)
front_of n bytes = if nat_lt (length bytes) n then None else Some (take n bytes, drop n bytes)

-- a variant and the bytes after it
abbrev pub variant_from : List ℕ → Option (Variant × List ℕ)
variant_from bytes = do
  code_size ← byte_from bytes
  code ← front_of code_size.0 code_size.1
  text_size ← number_from w32 code.1
  text ← front_of text_size.0 text_size.1
  Some (record { code = code.0; text = text.0 }, text.1)

-- the variants that fill the bytes, at most n
unfoldable pub variants_from : (n : ℕ) → List ℕ → Option (List Variant)
variants_from n [] = Some []
variants_from zero (b ∷ bytes) = None
variants_from (suc n) (b ∷ bytes) = do
  first ← variant_from (b ∷ bytes)
  rest ← variants_from n first.1
  Some (first.0 ∷ rest)

-- the string of these variants; None where there are none
abbrev pub as_words : List Variant → Option Words
as_words [] = None
as_words (first ∷ rest) = Some (Variants first rest)

-- the string that fills the bytes
unfoldable pub string_in : List ℕ → Option Words
string_in [] = None
string_in (tag ∷ bytes) =
    if tag == 0 then variants_from (length bytes) bytes >>= as_words else
    if tag == 1 then Some (Key bytes) else
    None

-- ---- which strings an image may have

-- its code is a code, and its text UTF-8
abbrev pub is_variant : Variant → Bool
is_variant v = is_code v.code && is_utf8 v.text

-- its codes are codes and its texts UTF-8, or its key is a name
abbrev pub is_words : Words → Bool
is_words (Variants first rest) = list_all is_variant (first ∷ rest)
is_words (Key name) = is_name name

-- the bytes are those of a string that an image may have
abbrev pub is_string : List ℕ → Bool
is_string bytes = option_map_or is_words (string_in bytes) false
