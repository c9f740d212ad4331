-- The word `line`.
use Rattle.std.proofs.Common.{◌≡◌, ℕ, ◌<◌, false, ◌==◌, List, [], ◌∷◌, take, length, refl, codes, arith}
use Rattle.std.specs.Prelude.{bytes_eq}
use Rattle.edd_lexer.proofs.ByteTests.{and_false}

-- fewer than four bytes don't spell it
pub short_no_line : (here : List ℕ) → length here < 4 → bytes_eq (take 4 here) (codes "line")
    ≡ false
short_no_line [] lt = refl
short_no_line (a ∷ []) lt = and_false (a == 108)
short_no_line (a ∷ b ∷ []) lt = rw (and_false (b == 105)) (and_false (a == 108))
short_no_line (a ∷ b ∷ c ∷ []) lt = rw (and_false (c == 110), and_false (b == 105))
    (and_false (a == 108))
short_no_line (a ∷ b ∷ c ∷ d ∷ here) lt = absurd (omega arith)
