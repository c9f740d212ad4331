-- The inside of a string, as it is written.
use Rattle.std.specs.Prelude.{◌≡◌, ℕ, ◌==◌, Bool, true, false, not, ◌&&◌, List, [], ◌∷◌, ◌++◌}
use Rattle.edd_syntax.specs.Words.{backslash}

-- `"`
abbrev pub quote : ℕ
quote = 34

-- a backslash takes the byte after it along, whatever it is; no other byte is a quote
abbrev mutual
  pub is_inside : List ℕ → Bool
  is_inside [] = true
  is_inside (b ∷ rest) = elim (b == backslash) [
    | true ↦ is_taken_along rest
    | false ↦ not (b == quote) && is_inside rest
  ]

  -- the same after a backslash: any one byte, and then the inside goes on
  pub is_taken_along : List ℕ → Bool
  is_taken_along [] = false
  is_taken_along (b ∷ rest) = is_inside rest

-- After an opening quote are the inside of a string, the quote that closes it, and `rest`.
pub record Closed (here raw rest : List ℕ) : Type 0 where
  pub whole : here ≡ raw ++ quote ∷ rest
  pub inside : is_inside raw ≡ true
