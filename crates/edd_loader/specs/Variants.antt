-- The variants of a string, piece by piece.
use Rattle.std.specs.Prelude.{ℕ, Bool, false, List, Option, length, option_and_then}
use Rattle.std.specs.Option.{option_map_or}
use Rattle.std.specs.List.{list_all}
use Rattle.edd_syntax.specs.Words.{Variant, text_in}
use Rattle.edd_image.specs.Front.{◌>>=◌}
use Rattle.edd_image.specs.Strings.{variants_from, as_words, is_words, is_variant}
use Rattle.edd_loader.specs.declared.words.Piece.{Piece}

-- the variant and the bytes after it
abbrev pub piece_of : Piece → Variant × List ℕ
piece_of p = (record { code = p.code.now; text = p.text.now }, p.behind.now)

-- the bytes are variants, at least one, of which each is a code and UTF-8
abbrev pub are_variants : List ℕ → Bool
are_variants bytes = option_map_or is_words (variants_from (length bytes) bytes >>= as_words) false

-- the bytes are at most n variants, of which each is a code and UTF-8
abbrev pub all_variants : ℕ → List ℕ → Bool
all_variants n bytes = option_map_or (list_all is_variant) (variants_from n bytes) false

-- the first text of a code among at most n variants
abbrev pub text_from : ℕ → (code : List ℕ) → List ℕ → Option (List ℕ)
text_from n code bytes = option_and_then (text_in code) (variants_from n bytes)
