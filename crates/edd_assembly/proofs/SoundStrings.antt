-- The strings that the rows cut are the strings that were written, and valid.
use Rattle.std.proofs.Common.{◌≡◌, refl, sym, ap, ◌∙◌, ℕ, ◌<◌, ◌^◌, true, false, List, [], ◌∷◌, ◌++◌, length, map, Some, arith}
use Rattle.std.specs.Prelude.{string_bytes as bytes_of_text}
use Rattle.std.specs.List.{AllByRecursion, flat_map, list_all}
use Rattle.std.specs.Option.{option_map_or}
use Rattle.std.specs.Str.{is_utf8}
use Rattle.std.proofs.lemmas.Bool.{false≢true, and_parts, and_from}
use Rattle.std.proofs.lemmas.List.{length-append}
use Rattle.std.proofs.lemmas.List.Folds.{list_all-map}
use Rattle.std.proofs.lemmas.Str.{is_utf8-from_IsUtf8}
use Rattle.std.proofs.Math.Logic.{∥∥₁_elim}
use Rattle.std.proofs.Math.Bool.{Bool-set}
use Rattle.edd_syntax.specs.declared.words.Variant as code_variant
use Rattle.edd_syntax.specs.declared.text.CompactString as code_text
use Rattle.edd_syntax.specs.declared.text.CompactString.TheVariants as text_in_code
use Rattle.edd_syntax.specs.declared.words.Words as code_words
use Rattle.edd_syntax.specs.declared.words.Words.TheVariants as in_code
use Rattle.edd_syntax.specs.Words.{Words, Variants, Key, Variant, is_code}
use Rattle.edd_syntax.specs.WordsView.{variant_of, string_of, text_bytes}
use Rattle.edd_image.specs.Contents.{part, fields_of_string}
use Rattle.edd_image.specs.Layout.{u32}
use Rattle.edd_image.specs.Strings.{variant_bytes, string_bytes, VariantFits, WordsFit, string_in, is_variant, is_words, is_string}
use Rattle.edd_image.proofs.StringsRead.{string_again}
use Rattle.edd_assembly.specs.Assembly.{string_rows}
use Rattle.edd_assembly.proofs.Cutting.{strings_cut}

-- ---- codes are codes, and texts UTF-8

text_valid : (t : code_text.CompactString) → is_utf8 (text_bytes t) ≡ true
text_valid (text_in_code.Short short) = short.valid
text_valid (text_in_code.Long text) = ∥∥₁_elim text.ok (Bool-set _ _)
    (is_utf8-from_IsUtf8 (bytes_of_text text))

variant_valid : (v : code_variant.Variant) → is_variant (variant_of v) ≡ true
variant_valid v = and_from (is_code v.code.bytes) (is_utf8 (text_bytes v.text)) v.coded
    (text_valid v.text)

variants_valid : (vs : List code_variant.Variant) → list_all is_variant (map variant_of vs) ≡ true
variants_valid [] = refl
variants_valid (v ∷ vs) = and_from (is_variant (variant_of v))
    (list_all is_variant (map variant_of vs)) (variant_valid v) (variants_valid vs)

string_valid : (w : code_words.Words) → is_words (string_of w) ≡ true
string_valid (in_code.Variants first rest) = variants_valid (first ∷ rest.items)
string_valid (in_code.Key key) = key.named

pub strings_valid : (ws : List code_words.Words) → list_all is_words (map string_of ws) ≡ true
strings_valid [] = refl
strings_valid (w ∷ ws) = and_from (is_words (string_of w)) (list_all is_words (map string_of ws))
    (string_valid w) (strings_valid ws)

-- ---- lengths fit their fields

code_fits : (code : List ℕ) → is_code code ≡ true → length code < 2 ^ 8
code_fits [] h = absurd (false≢true h)
code_fits (a ∷ []) h = absurd (false≢true h)
code_fits (a ∷ b ∷ []) h = omega arith
code_fits (a ∷ b ∷ c ∷ []) h = omega arith
code_fits (a ∷ b ∷ c ∷ d ∷ []) h = absurd (false≢true h)
code_fits (a ∷ b ∷ c ∷ d ∷ e ∷ []) h = omega arith
code_fits (a ∷ b ∷ c ∷ d ∷ e ∷ f ∷ rest) h = absurd (false≢true h)

variants_fit : (vs : List Variant) → list_all is_variant vs ≡ true
    → length (flat_map variant_bytes vs) < 2 ^ 32 → AllByRecursion VariantFits vs
variants_fit [] valid few = record {}
variants_fit (v ∷ vs) valid few =
    let parts = and_parts (is_variant v) (list_all is_variant vs) valid in
    let total = length-append (variant_bytes v) (flat_map variant_bytes vs) in (
      (
        code_fits v.code (and_parts (is_code v.code) (is_utf8 v.text) parts.0).0,
        omega (
          arith,
          few,
          total,
          length-append v.code (u32 (length v.text) ++ v.text),
          length-append (u32 (length v.text)) v.text,
        ),
      ),
      variants_fit vs parts.1 (omega (arith, few, total)),
    )

words_fit : (w : Words) → is_words w ≡ true → length (string_bytes w) < 2 ^ 32 → WordsFit w
words_fit (Variants first rest) valid few = variants_fit (first ∷ rest) valid (omega (arith, few))
words_fit (Key name) valid few = record {}

-- ---- they are read again

abbrev pub IsReadAgain : Words → Type 0
IsReadAgain w = string_in (string_bytes w) ≡ Some w

pub strings_again : (ws : List Words) → list_all is_words ws ≡ true
    → length (flat_map string_bytes ws) < 2 ^ 32 → AllByRecursion IsReadAgain ws
strings_again [] valid few = record {}
strings_again (w ∷ ws) valid few =
    let parts = and_parts (is_words w) (list_all is_words ws) valid in
    let total = length-append (string_bytes w) (flat_map string_bytes ws) in (
      string_again w (words_fit w parts.0 (omega (arith, few, total))),
      strings_again ws parts.1 (omega (arith, few, total)),
    )

all_strings : (ws : List Words) → list_all is_words ws ≡ true → AllByRecursion IsReadAgain ws
    → list_all is_string (map string_bytes ws) ≡ true
all_strings [] valid read = refl
all_strings (w ∷ ws) valid read =
    let parts = and_parts (is_words w) (list_all is_words ws) valid in
    and_from (is_string (string_bytes w)) (list_all is_string (map string_bytes ws))
    (ap (λ o. option_map_or is_words o false) read.0 ∙ parts.0) (all_strings ws parts.1 read.1)

pub strings_sound : (ws : List Words) → list_all is_words ws ≡ true
    → length (flat_map string_bytes ws) < 2 ^ 32
    → list_all (λ span. is_string (part span (flat_map string_bytes ws)))
    (map fields_of_string (string_rows 0 ws)) ≡ true
strings_sound ws valid few =
    sym (list_all-map is_string (λ span. part span (flat_map string_bytes ws))
    (map fields_of_string (string_rows 0 ws)))
    ∙ ap (list_all is_string) (strings_cut ws)
    ∙ all_strings ws valid (strings_again ws valid few)
