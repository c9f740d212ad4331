-- The bits of a variable, and where a mask has them in the number that octets are.
use Rattle.std.specs.Prelude.{ℕ, ◌*◌, ◌/◌, ◌^◌, ℤ, pos, bit_and, bit_or}
use Rattle.std.specs.Int.{w32, bit_not, trailing_zeros}
use Rattle.edd_syntax.specs.DeviceValues.{VariableType}
use Rattle.edd_syntax.specs.TwosComplement.{residue, store}

-- the bits of a value in its variable's octets, as a number: a negative value is in two's
-- complement
abbrev pub bits_of : VariableType → ℤ → ℕ
bits_of t value = residue (8 * t.size) value

-- the value of a variable that has these bits
abbrev pub value_of : VariableType → ℕ → ℤ
value_of t bits = store t.type t.size (pos bits)

-- where the lowest bit of a mask is
abbrev pub lowest_of : ℕ → ℕ
lowest_of mask = trailing_zeros w32 mask

-- The bits of a variable that a mask names: its own bits, moved down so that the lowest one names
-- bit 0 of the variable.
abbrev pub named_by : (mask : ℕ) → ℕ
named_by mask = mask / 2 ^ lowest_of mask

-- the named ones of these bits, where the mask has them
abbrev pub placed : (mask bits : ℕ) → ℕ
placed mask bits = bit_and bits (named_by mask) * 2 ^ lowest_of mask

-- the named bits, from where the mask has them in a number
abbrev pub picked : (mask number : ℕ) → ℕ
picked mask number = bit_and (number / 2 ^ lowest_of mask) (named_by mask)

-- old bits, in which the named ones are new
abbrev pub renewed : (named old new : ℕ) → ℕ
renewed named old new = bit_or (bit_and old (bit_not w32 named)) new
