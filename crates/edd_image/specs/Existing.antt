-- Which strings and items there are, by their counts.
use Rattle.std.specs.Prelude.{Bool, true, nat_lt, Option, Some, None}
use Rattle.edd_syntax.specs.declared.numbers.ItemNo.{ItemNo}
use Rattle.edd_syntax.specs.declared.numbers.ItemNo.TheVariants as items
use Rattle.edd_syntax.specs.declared.numbers.StrNo.{StrNo}
use Rattle.edd_syntax.specs.declared.numbers.VarNo.{VarNo}
use Rattle.edd_syntax.specs.declared.numbers.ArrNo.{ArrNo}
use Rattle.edd_syntax.specs.declared.numbers.MethNo.{MethNo}
use Rattle.edd_image.specs.declared.parts.Counts.{Counts}

-- the number is below the count of strings
abbrev pub string_exists : Counts → StrNo → Bool
string_exists counts s = nat_lt s.0 counts.strings

-- the string is missing or exists
abbrev pub optional_string_exists : Counts → Option StrNo → Bool
optional_string_exists counts None = true
optional_string_exists counts (Some s) = string_exists counts s

-- the number is below the count of variables
abbrev pub variable_exists : Counts → VarNo → Bool
variable_exists counts v = nat_lt v.0 counts.variables

-- the number is below the count of arrays
abbrev pub array_exists : Counts → ArrNo → Bool
array_exists counts a = nat_lt a.0 counts.arrays

-- the number is below the count of methods
abbrev pub method_exists : Counts → MethNo → Bool
method_exists counts m = nat_lt m.0 counts.methods

-- the number of an item is below the count of its kind
abbrev pub item_exists : Counts → ItemNo → Bool
item_exists counts (items.Variable n) = nat_lt n.0 counts.variables
item_exists counts (items.Command n) = nat_lt n.0 counts.commands
item_exists counts (items.Menu n) = nat_lt n.0 counts.menus
item_exists counts (items.Collection n) = nat_lt n.0 counts.collections
item_exists counts (items.Method n) = nat_lt n.0 counts.methods
item_exists counts (items.Array n) = array_exists counts n
