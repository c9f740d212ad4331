-- Rows one after another.
use Rattle.std.proofs.Common.{◌≡◌, refl, ℕ, ◌+◌, List, ◌∷◌, length}
use Rattle.edd_syntax.specs.Words.{Words}
use Rattle.edd_image.specs.Strings.{string_bytes}
use Rattle.edd_assembly.specs.Assembly.{Lowered, string_row_at, string_rows, attribute_row_at, attribute_rows}

pub strings_split : (s : ℕ) (w : Words) (ws : List Words) → string_rows s (w ∷ ws)
    ≡ string_row_at s w ∷ string_rows (s + length (string_bytes w)) ws
strings_split s w ws = refl

abbrev pub code_of : Lowered → List ℕ
code_of l = l.code

pub attributes_split : (s : ℕ) (l : Lowered) (ls : List Lowered) → attribute_rows s (l ∷ ls)
    ≡ attribute_row_at s l ∷ attribute_rows (s + length l.code) ls
attributes_split s l ls = refl
