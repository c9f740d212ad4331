-- Strings in several languages: the variants of a text of the source, and the text for a language.
use Rattle.std.specs.Prelude.{ℕ, zero, suc, ◌+◌, Bool, true, false, not, ◌&&◌, ◌||◌, ◌==◌, if◌then◌else◌, List, [], ◌∷◌, ◌++◌, length, take, drop, map, find, unwrap_or, option_map, Option, Some, None, codes}
use Rattle.std.specs.Str.{bytes_eq}
use Rattle.std.specs.List.{list_all}
use Rattle.edd_syntax.specs.Text.{Name, Text, Quoted}
use Rattle.edd_syntax.specs.Text as text
use Rattle.edd_syntax.specs.Names.{is_name, is_within}

-- a text in one language
pub record Variant : Type 0 where
  pub code : List ℕ
  pub text : List ℕ

-- a string: its variants in the order of the source, at least one, or a key of the dictionary
pub data Words : Type 0 where
  Variants : (first : Variant) → (rest : List Variant) → Words
  Key : (name : Name) → Words

-- ---- codes of languages

-- a lower-case letter
abbrev is_lower : ℕ → Bool
is_lower = is_within 97 122

-- a digit
abbrev is_digit : ℕ → Bool
is_digit = is_within 48 57

-- two lower-case letters, two such pairs with one space between, or three digits
abbrev pub is_code : List ℕ → Bool
is_code (a ∷ b ∷ []) = is_lower a && is_lower b
is_code (a ∷ b ∷ c ∷ []) = is_digit a && is_digit b && is_digit c
is_code (a ∷ b ∷ s ∷ c ∷ d ∷ []) = is_lower a && is_lower b && s == 32 && is_lower c && is_lower d
is_code _ = false

-- its code is a code of a language
abbrev pub is_variant : Variant → Bool
is_variant v = is_code v.code

-- what each string keeps: its codes are codes, and its key is a name
abbrev pub are_words : Words → Bool
are_words (Variants first rest) = list_all is_variant (first ∷ rest)
are_words (Key name) = is_name name

-- `\`
abbrev pub backslash : ℕ
backslash = 92

-- `|`
abbrev pub bar : ℕ
bar = 124

-- the first n characters are a code, and a bar follows them
abbrev has_code : ℕ → List ℕ → Bool
has_code n here = is_code (take n here) && bytes_eq (take 1 (drop n here)) (bar ∷ [])

-- the code that the character c opens before `here`: c is a bar, and a code and a bar follow
abbrev pub code_opened : ℕ → List ℕ → Option (List ℕ)
code_opened c here =
    if not (c == bar) then None
    else (if has_code 2 here then Some (take 2 here)
    else (if has_code 3 here then Some (take 3 here)
    else (if has_code 5 here then Some (take 5 here) else None)))

-- ---- the raw text, read from left to right

-- what is before the first code, and the variants that the codes open
pub record Pieces : Type 0 where
  pub before : List ℕ
  pub variants : List Variant

-- these characters are text
abbrev pub with_text : List ℕ → Pieces → Pieces
with_text here p = record p { before = here ++ p.before }

-- a code opens a variant, whose text goes up to the next code
abbrev pub with_code : List ℕ → Pieces → Pieces
with_code code p = record {
  before = [];
  variants = record { code = code; text = p.before }
      ∷ p.variants;
}

-- The pieces of the characters after the first `read`, which belong to what was read before. A
-- backslash and the character after it are passed together, so neither opens a code. After a code
-- reading goes on after the bar that closes it.
unfoldable pub pieces : (read : ℕ) → List ℕ → Pieces
pieces read [] = record { before = []; variants = [] }
pieces (suc read) (c ∷ rest) = pieces read rest
pieces zero (c ∷ rest) =
    elim (c == backslash) [
      | true ↦ with_text (c ∷ take 1 rest) (pieces 1 rest)
      | false ↦
          elim (code_opened c rest) [
            | Some code ↦ with_code code (pieces (length code + 1) rest)
            | None ↦ with_text (c ∷ []) (pieces 0 rest)
          ]
    ]

-- ---- escapes

-- the five escapes: `"`, `\\`, `n`, `t` and `|` after a backslash
abbrev pub is_escape : ℕ → Bool
is_escape c = c == 34 || c == backslash || c == 110 || c == 116 || c == bar

-- every backslash begins an escape
abbrev mutual
  pub has_escapes : List ℕ → Bool
  has_escapes [] = true
  has_escapes (c ∷ rest) = elim (c == backslash) [
    | true ↦ is_escaped rest
    | false ↦ has_escapes rest
  ]

  -- the same after a backslash, where this character has to make an escape
  pub is_escaped : List ℕ → Bool
  is_escaped [] = false
  is_escaped (c ∷ rest) = is_escape c && has_escapes rest

-- what a backslash and the character c stand for: `n` a line feed, `t` a tab, and the others
-- themselves
abbrev pub escaped : ℕ → ℕ
escaped c = if c == 110 then 10 else (if c == 116 then 9 else c)

-- the text in which each escape is replaced by what it stands for
unfoldable mutual
  pub unescape : List ℕ → List ℕ
  unescape [] = []
  unescape (c ∷ rest) = elim (c == backslash) [
    | true ↦ after_backslash rest
    | false ↦ c ∷ unescape rest
  ]

  -- the same after a backslash
  pub after_backslash : List ℕ → List ℕ
  after_backslash [] = []
  after_backslash (c ∷ rest) = escaped c ∷ unescape rest

-- escapes are replaced last, in each variant
abbrev pub unescaped : Variant → Variant
unescaped v = record v { text = unescape v.text }

-- ---- strings

-- the code of English
abbrev pub english : List ℕ
english = codes "en"

-- the text before the first code is English, and left out where it is empty and a code follows
abbrev pub variants_of : List ℕ → List Variant → Words
variants_of [] (v ∷ vs) = Variants (unescaped v) (map unescaped vs)
variants_of [] [] = Variants (record { code = english; text = [] }) []
variants_of (c ∷ before) vs = Variants (unescaped (record { code = english; text = c ∷ before }))
    (map unescaped vs)

-- the string of a text of the source
unfoldable pub words_of : Text → Words
words_of (Quoted raw) = let p = pieces 0 raw in variants_of p.before p.variants
words_of (text.Key name) = Key name

-- the string of a class word or of a member's name: the one variant in English
abbrev pub name_words : Name → Words
name_words name = Variants (record { code = english; text = name }) []

-- ---- the text for a language

-- the first text of a code, if there is one
abbrev pub text_in : (code : List ℕ) → List Variant → Option (List ℕ)
text_in code variants = option_map (λ v. v.text) (find (λ v. bytes_eq v.code code) variants)

-- the first variant of the code, else the first in English, else the first; of a key its name
unfoldable pub text_for : Words → (code : List ℕ) → List ℕ
text_for (Variants first rest) code =
    unwrap_or (text_in code (first ∷ rest)) (unwrap_or (text_in english (first ∷ rest)) first.text)
text_for (Key name) code = name
