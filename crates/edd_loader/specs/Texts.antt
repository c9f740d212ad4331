-- The texts of the strings of an image.
use Rattle.std.specs.Prelude.{ℕ, Bool, true, false, List}
use Rattle.edd_syntax.specs.Words.{Words, Variants, Key, text_for}
use Rattle.edd_loader.specs.declared.texts.Text.{Text}
use Rattle.edd_loader.specs.declared.texts.Text.TheVariants as text

-- whether it is a key, and the text
abbrev pub seen : Text → Bool × List ℕ
seen (text.Words s) = (false, s.now)
seen (text.Key s) = (true, s.now)

-- whether a string is a key, and its text for a language
abbrev pub given : Words → (code : List ℕ) → Bool × List ℕ
given (Variants first rest) code = (false, text_for (Variants first rest) code)
given (Key name) code = (true, text_for (Key name) code)
