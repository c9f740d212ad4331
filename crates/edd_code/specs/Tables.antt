-- Tables of strings that grow.
use Rattle.std.specs.Prelude.{◌≡◌, ◌≢◌, ℕ, suc, ◌<◌, ◌≤◌, Option, List, [], ◌∷◌, ◌++◌, length, if◌then◌else◌}
use Rattle.std.specs.List.{AllPairs, Contains}
use Rattle.edd_syntax.specs.declared.numbers.StrNo.{StrNo}
use Rattle.edd_syntax.specs.Strings.{same_words}
use Rattle.edd_syntax.specs.Words.{Words}
use Rattle.edd_instructions.specs.Agreement.{IsString, IsOptionalString, string_of_table}

-- no string is there twice
abbrev pub AreDifferent : List Words → Type 0
AreDifferent strings = AllPairs (λ s t. s ≢ t) strings

-- the table grew by some of these strings, and holds no string twice
pub record GrowsBy (old strings new : List Words) : Type 0 where
  pub more : List Words
  pub grown : new ≡ old ++ more
  pub only : (w : Words) → Contains more w → Contains strings w
  pub different : AreDifferent old → AreDifferent new
  pub few : length old ≤ 65535 → length new ≤ 65535

-- the string has its number in the table and in any that begins with it
abbrev pub Keeps : (table : List Words) → Words → StrNo → Type 0
Keeps table w n = (later : List Words) → IsString (string_of_table (table ++ later)) w n

-- Neither is there, or the string has its number in the table and in any that begins with it.
abbrev pub KeepsOptional : (table : List Words) → Option Words → Option StrNo → Type 0
KeepsOptional table o n = (later : List Words) → IsOptionalString (string_of_table (table ++ later))
    o n

-- there are more than 65,535 different strings among those of the table and these
pub record Overflows (old strings : List Words) : Type 0 where
  pub held : AreDifferent old → (held : List Words) × AreDifferent held × (65535 < length held)
      × ((w : Words) → Contains held w → Contains (old ++ strings) w)

-- the strings of the table keep their numbers
abbrev pub Grows : (old new : List Words) → Type 0
Grows old new = (more : List Words) × (new ≡ old ++ more)

-- the place of the first string of the table that is this one
unfoldable pub place_in : List Words → Words → ℕ
place_in [] w = 0
place_in (v ∷ rest) w = if same_words v w then 0 else suc (place_in rest w)

-- so it is its number, where the table holds it
abbrev pub number_in : List Words → Words → StrNo
number_in table w = record { 0 = place_in table w }
