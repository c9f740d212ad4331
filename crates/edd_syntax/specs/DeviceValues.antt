-- The types of variables, and the values of a device: one whole number for each variable.
use Rattle.std.specs.Prelude.{ℕ, ◌-◌, ◌*◌, ◌^◌, Bool, ◌&&◌, ℤ, pos, neg_ℤ, ◌-ℤ◌, int_le, List, slice_index_or, IsTrue}
use Rattle.std.specs.List.{AllZip}
use Rattle.edd_syntax.specs.declared.numbers.VarNo.{VarNo}
use Rattle.edd_syntax.specs.declared.types.VarType.{VarType}
use Rattle.edd_syntax.specs.declared.types.VarType.TheVariants as var_type

-- the type of a variable and its size in octets
pub record VariableType : Type 0 where
  pub type : VarType
  pub size : ℕ

-- the least number of a type and a size
abbrev pub least : VarType → ℕ → ℤ
least var_type.Integer size = neg_ℤ (pos (2 ^ (8 * size - 1)))
least var_type.UnsignedInteger size = pos 0
least var_type.Enumerated size = pos 0
least var_type.BitEnumerated size = pos 0

-- the greatest number of a type and a size
abbrev pub greatest : VarType → ℕ → ℤ
greatest var_type.Integer size = pos (2 ^ (8 * size - 1)) -ℤ pos 1
greatest var_type.UnsignedInteger size = pos (2 ^ (8 * size)) -ℤ pos 1
greatest var_type.Enumerated size = pos (2 ^ (8 * size)) -ℤ pos 1
greatest var_type.BitEnumerated size = pos (2 ^ (8 * size)) -ℤ pos 1

-- the number is in the range of the type and the size
abbrev pub is_in_range : VariableType → ℤ → Bool
is_in_range t z = int_le (least t.type t.size) z && int_le z (greatest t.type t.size)

-- The number is in the range of the type and the size.
abbrev pub IsInRange : VariableType → ℤ → Type 0
IsInRange t z = IsTrue (is_in_range t z)

-- a value for each variable, each in the range of its type and size
abbrev pub AreDeviceValues : List VariableType → List ℤ → Type 0
AreDeviceValues = AllZip IsInRange

-- the type of a variable; past the last variable, which no reference names, it is an integer of one
-- octet
abbrev pub type_at : List VariableType → VarNo → VariableType
type_at types v = slice_index_or types v.0 (record { type = var_type.Integer; size = 1 })

-- the value of a variable; past the last variable it is 0
abbrev pub value_at : List ℤ → VarNo → ℤ
value_at values v = slice_index_or values v.0 (pos 0)
