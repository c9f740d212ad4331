-- Worked examples of texts in several languages, computed.
use Rattle.std.proofs.Common.{◌≡◌, refl, ℕ, pos, negsuc, List, [], ◌∷◌, ◌++◌}
use Rattle.std.specs.Prelude.{codes}
use Rattle.edd_syntax.specs.declared.types.VarType.TheVariants as var_type
use Rattle.edd_syntax.specs.Text.{Quoted}
use Rattle.edd_syntax.specs.TwosComplement.{wrap, store}
use Rattle.edd_syntax.specs.Words.{Words, Variants, words_of, text_for, pieces, unescape, english}

abbrev says : List ℕ → Words
says t = Variants (record { code = english; text = t }) []

-- ---- texts

-- `|en|Pressure|de|Druck`
abbrev pressure : Words
pressure = words_of (Quoted (codes "|en|Pressure|de|Druck"))

in_german : text_for pressure (codes "de") ≡ codes "Druck"
unfolding words_of text_for pieces unescape
in_german = refl

in_french : text_for pressure (codes "fr") ≡ codes "Pressure"
unfolding words_of text_for pieces unescape
in_french = refl

-- `x\|de|y` has no code, and its escape is replaced last
escapes_bar : words_of (Quoted (codes "x" ++ (92 ∷ codes "|de|y"))) ≡ says (codes "x|de|y")
unfolding words_of pieces unescape
escapes_bar = refl

-- `a |de|b`
two_variants : words_of (Quoted (codes "a |de|b"))
    ≡ Variants (record { code = codes "en"; text = codes "a " })
    (record { code = codes "de"; text = codes "b" } ∷ [])
unfolding words_of pieces unescape
two_variants = refl

empty_text : words_of (Quoted []) ≡ says []
unfolding words_of pieces unescape
empty_text = refl

-- `"a" " |b"`: the insides are joined, and the bar opens no code
bar_without_code_is_text : words_of (Quoted (codes "a " ++ codes "|b")) ≡ says (codes "a |b")
unfolding words_of pieces unescape
bar_without_code_is_text = refl

-- `|de|en|x`: the bar that closes a code opens none
closing_bar_opens_nothing : words_of (Quoted (codes "|de|en|x"))
    ≡ Variants (record { code = codes "de"; text = codes "en|x" }) []
unfolding words_of pieces unescape
closing_bar_opens_nothing = refl

-- `|en|` is the empty text
english_code_alone : words_of (Quoted (codes "|en|")) ≡ says []
unfolding words_of pieces unescape
english_code_alone = refl

-- three digits, and two pairs of letters
other_codes : words_of (Quoted (codes "|001|a|en us|b"))
    ≡ Variants (record { code = codes "001"; text = codes "a" })
    (record { code = codes "en us"; text = codes "b" } ∷ [])
unfolding words_of pieces unescape
other_codes = refl

-- ---- kept values

-- an UNSIGNED_INTEGER (4) keeps -1 as 4294967295, which a method reads as -1
keeps_all_bits : store var_type.UnsignedInteger 4 (negsuc 0) ≡ pos 4294967295
unfolding store
keeps_all_bits = refl

reads_as_minus_one : wrap 32 (pos 4294967295) ≡ negsuc 0
unfolding wrap
reads_as_minus_one = refl
