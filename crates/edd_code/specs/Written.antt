-- What writing a part of a unit results in.
use Rattle.std.specs.Prelude.{◌≡◌, ℕ, List, [], ◌++◌, length, Option}
use Rattle.std.specs.List.{Contains}
use Rattle.edd_syntax.specs.declared.numbers.StrNo.{StrNo}
use Rattle.edd_syntax.specs.Strings.{strings_of_texts}
use Rattle.edd_syntax.specs.Text.{Text}
use Rattle.edd_syntax.specs.Words.{Words}
use Rattle.edd_instructions.specs.Agreement.{string_of_table}
use Rattle.edd_code.specs.Blocks.{Block, bytes_at}
use Rattle.edd_code.specs.Tables.{AreDifferent, GrowsBy, number_in}

-- The table grew by these strings alone, and the code by a block that is as `of` says, with strings
-- by their numbers in the new table and in any that begins with it.
pub record WritesBlock (old : List Words) (before : List ℕ) (strings : List Words)
    (of : (StrNo → Option Words) → Block → Type 0) (new : List Words) (after : List ℕ) : Type 0
  where
    pub table : GrowsBy old strings new
    pub block : Block
    pub written : after ≡ before ++ bytes_at (length before) block
    pub is : (later : List Words) → of (string_of_table (new ++ later)) block

-- The table grew by these strings alone and holds them, and the code by these bytes at the place
-- after it, with strings by their numbers in the new table and in any that begins with it.
pub record WritesNumbered (old : List Words) (before : List ℕ) (strings : List Words)
    (bytes : (Words → StrNo) → (place : ℕ) → List ℕ) (new : List Words) (after : List ℕ) : Type 0
  where
    pub table : GrowsBy old strings new
    pub holds : (w : Words) → Contains strings w → Contains new w
    pub written : AreDifferent old → (later : List Words)
        → after ≡ before ++ bytes (number_in (new ++ later)) (length before)

-- so do texts and a block
abbrev pub WritesPart : (old : List Words) (before : List ℕ) (texts : List Text)
    (block : (Words → StrNo) → Block) (new : List Words) (after : List ℕ) → Type 0
WritesPart old before texts block new after = WritesNumbered old before (strings_of_texts texts)
    (λ number place. bytes_at place (block number)) new after

-- the table grew by the strings of these texts alone and holds them
abbrev pub HoldsTexts : (old : List Words) (texts : List Text) (new : List Words) → Type 0
HoldsTexts old texts new = WritesNumbered old [] (strings_of_texts texts) (λ number place. []) new
    []

-- what depends on the numbers of strings, by those in the new table and in any that begins with it
abbrev pub ByNumber : {A : Type 0} → (old new : List Words) → (of : (Words → StrNo) → A) → A
    → Type 0
ByNumber old new of x = AreDifferent old → (later : List Words) → x ≡ of (number_in (new ++ later))
