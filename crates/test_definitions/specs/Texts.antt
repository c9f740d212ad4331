-- Texts of this crate.
use Rattle.std.specs.Prelude.{ℕ, List, [], ◌∷◌, ◌++◌, codes}
use Rattle.edd_syntax.specs.Text as texts
use Rattle.edd_syntax.specs.Text.{Text, Quoted}
use Rattle.edd_syntax.specs.Words.{Words, Variants, english}

-- ---- languages

-- the code of German
abbrev pub german : List ℕ
german = codes "de"

-- the code of French
abbrev pub french : List ℕ
french = codes "fr"

-- ---- letters, and the string of a text in English alone

-- `a`
abbrev pub a : List ℕ
a = codes "a"

-- `b`
abbrev pub b : List ℕ
b = codes "b"

-- `l`
abbrev pub l : List ℕ
l = codes "l"

-- `h`
abbrev pub h : List ℕ
h = codes "h"

-- the string of this text in English alone
abbrev pub says : List ℕ → Words
says text = Variants (record { code = english; text = text }) []

-- ---- sources

-- `|de|b|en|a`
abbrev pub english_second : Text
english_second = Quoted (codes "|de|b|en|a")

-- `|de|b|it|c`
abbrev pub no_english : Text
no_english = Quoted (codes "|de|b|it|c")

-- `a|de|b`
abbrev pub before_a_code : Text
before_a_code = Quoted (codes "a|de|b")

-- `|de|b|de|c`
abbrev pub twice_german : Text
twice_german = Quoted (codes "|de|b|de|c")

-- `[k]`
abbrev pub key : Text
key = texts.Key (codes "k")

-- the name in that key
abbrev pub name_of_key : List ℕ
name_of_key = codes "k"

-- `a\tb\nc`
abbrev pub tab_and_line_feed : Text
tab_and_line_feed = Quoted (codes "a" ++ (92 ∷ codes "tb" ++ (92 ∷ codes "nc")))

-- `\"\\\|`
abbrev pub quote_backslash_and_bar : Text
quote_backslash_and_bar = Quoted (92 ∷ 34 ∷ 92 ∷ 92 ∷ 92 ∷ 124 ∷ [])
