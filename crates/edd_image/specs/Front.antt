-- The byte or the number at the front of bytes, and the bytes after it, where there are enough.
use Rattle.std.specs.Prelude.{ℕ, List, [], ◌∷◌, length, take, drop, Option, Some, None, option_and_then, nat_lt, if◌then◌else◌}
use Rattle.std.specs.Int.{Width, byte_len, from_be_bytes}

infixl 10 ◌>>=◌
-- goes on with what was found; None where either step finds none
abbrev pub ◌>>=◌ : {A B : Type 0} → Option A → (A → Option B) → Option B
o >>= f = option_and_then f o

-- the first byte
unfoldable pub byte_from : List ℕ → Option (ℕ × List ℕ)
byte_from [] = None
byte_from (b ∷ rest) = Some (b, rest)

-- the number in the first bytes, as many as the width has, the highest byte first
unfoldable pub number_from : Width → List ℕ → Option (ℕ × List ℕ)
number_from w bytes = if nat_lt (length bytes) (byte_len w) then None else Some
    (from_be_bytes w (take (byte_len w) bytes), drop (byte_len w) bytes)
