-- The octets of fields under the values of a device.
use Rattle.std.specs.Prelude.{ℕ, ℤ, List, [], ◌∷◌, ◌++◌, bit_or}
use Rattle.std.specs.Int.{bytes_high_first}
use Rattle.edd_syntax.specs.DeviceValues.{VariableType, type_at, value_at}
use Rattle.edd_octets.specs.declared.fields.Part.{Part}
use Rattle.edd_octets.specs.Fields.{Field, Constant, Variables, width_of}
use Rattle.edd_octets.specs.Masks.{bits_of, placed}

-- the bits of a variable
abbrev pub bits_at : List VariableType → List ℤ → Part → ℕ
bits_at types values p = bits_of (type_at types p.variable) (value_at values p.variable)

-- the number of a field with these parts: each has its bits where its mask is, all others are 0
abbrev pub gathered : List VariableType → List ℤ → List Part → ℕ
gathered types values [] = 0
gathered types values (p ∷ rest) =
    bit_or (placed p.mask (bits_at types values p)) (gathered types values rest)

-- the number that the octets of a field are
abbrev pub number_in : List VariableType → List ℤ → Field → ℕ
number_in types values (Constant n) = n
number_in types values (Variables parts) = gathered types values parts

-- the octets of fields, each with its highest octet first
abbrev pub encoded : List VariableType → List ℤ → List Field → List ℕ
encoded types values [] = []
encoded types values (f ∷ rest) =
    bytes_high_first (width_of f) (number_in types values f) ++ encoded types values rest
