-- What texts, strings and answers in the code stand for.
use Rattle.std.specs.Prelude.{ℕ, List, map, string_bytes}
use Rattle.edd_syntax.specs.declared.text.Text.{Text}
use Rattle.edd_syntax.specs.declared.text.Text.TheVariants as written
use Rattle.edd_syntax.specs.declared.words.Variant.{Variant}
use Rattle.edd_syntax.specs.declared.text.CompactString.{CompactString}
use Rattle.edd_syntax.specs.declared.text.CompactString.TheVariants as compact
use Rattle.edd_syntax.specs.declared.words.Words.{Words}
use Rattle.edd_syntax.specs.declared.words.Words.TheVariants as words
use Rattle.edd_syntax.specs.Text as texts
use Rattle.edd_syntax.specs.Words as strings

-- the bytes of a text
abbrev pub text_bytes : CompactString → List ℕ
text_bytes (compact.Short short) = short.text.bytes
text_bytes (compact.Long text) = string_bytes text

-- a text of the source
abbrev pub text_of : Text → texts.Text
text_of (written.Quoted raw) = texts.Quoted (text_bytes raw)
text_of (written.Key name) = texts.Key (text_bytes name)

-- a variant of a string
abbrev pub variant_of : Variant → strings.Variant
variant_of v = record { code = v.code.bytes; text = text_bytes v.text }

-- a string
abbrev pub string_of : Words → strings.Words
string_of (words.Variants first rest) = strings.Variants (variant_of first)
    (map variant_of rest.items)
string_of (words.Key key) = strings.Key (string_bytes key.name)
