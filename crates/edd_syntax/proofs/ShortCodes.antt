-- A code of a language has at most five bytes.
use Rattle.std.proofs.Common.{◌≤◌, ℕ, List, [], ◌∷◌, length, arith, IsTrue}
use Rattle.std.proofs.lemmas.Bool.{false≢true}
use Rattle.edd_syntax.specs.Words.{is_code}

pub short_code : (code : List ℕ) → IsTrue (is_code code) → length code ≤ 5
short_code [] h = absurd (false≢true h)
short_code (a ∷ []) h = absurd (false≢true h)
short_code (a ∷ b ∷ []) h = omega arith
short_code (a ∷ b ∷ c ∷ []) h = omega arith
short_code (a ∷ b ∷ c ∷ d ∷ []) h = absurd (false≢true h)
short_code (a ∷ b ∷ c ∷ d ∷ e ∷ []) h = omega arith
short_code (a ∷ b ∷ c ∷ d ∷ e ∷ f ∷ rest) h = absurd (false≢true h)
