-- What a reference of a checked unit names in an attribute: there is no other target there.
use Rattle.edd_syntax.specs.declared.numbers.ItemNo.{ItemNo}
use Rattle.edd_syntax.specs.declared.numbers.ItemNo.TheVariants as item_no
use Rattle.edd_syntax.specs.declared.numbers.VarNo.{VarNo}
use Rattle.edd_syntax.specs.Reference.{Target, Local, Item, Function}

-- the item that a reference of a checked unit names
abbrev pub item_of : Target → ItemNo
item_of (Item i) = i
item_of (Local slot) = item_no.Variable (record { 0 = 0 })
item_of (Function f) = item_no.Variable (record { 0 = 0 })

-- the variable that an item is; where one is needed, a checked unit names no other item
abbrev pub variable_of_item : ItemNo → VarNo
variable_of_item (item_no.Variable v) = v
variable_of_item _ = record { 0 = 0 }

-- the variable that a reference of a checked unit names
abbrev pub variable_of : Target → VarNo
variable_of target = variable_of_item (item_of target)
