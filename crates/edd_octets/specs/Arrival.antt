-- What arrives: the bits that a message names are the sender's then, and all others the receiver's.
use Rattle.std.specs.Prelude.{◌≡◌, ℕ, ◌==◌, ℤ, List, [], ◌∷◌, bit_or, if◌then◌else◌}
use Rattle.std.specs.Int.{bit_at}
use Rattle.edd_syntax.specs.declared.numbers.VarNo.{VarNo}
use Rattle.edd_syntax.specs.DeviceValues.{VariableType, type_at, value_at}
use Rattle.edd_octets.specs.Decoding.{Received}
use Rattle.edd_octets.specs.Masks.{bits_of}

-- the bits of a variable that came
abbrev pub names : List Received → VarNo → ℕ
names [] v = 0
names (r ∷ rest) v = if r.variable.0 == v.0 then bit_or r.named (names rest v) else names rest v

-- the bits of a variable under these values
abbrev pub bits_under : List VariableType → List ℤ → VarNo → ℕ
bits_under types values v = bits_of (type_at types v) (value_at values v)

-- Each bit of each variable is the sender's where it came, and else as the receiver had it.
abbrev pub Arrives : List VariableType → (sender receiver after : List ℤ) → List Received → Type 0
Arrives types sender receiver after all = (v : VarNo) (i : ℕ)
    → bit_at (bits_under types after v) i
    ≡ (if bit_at (names all v) i == 1 then bit_at (bits_under types sender v) i
    else bit_at (bits_under types receiver v) i)
