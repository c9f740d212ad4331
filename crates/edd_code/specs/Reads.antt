-- The references of expressions that attributes may have.
use Rattle.std.specs.Prelude.{Bool, true}
use Rattle.edd_syntax.specs.declared.numbers.ItemNo.{ItemNo}
use Rattle.edd_syntax.specs.declared.numbers.ItemNo.TheVariants as item_no
use Rattle.edd_syntax.specs.declared.reference.Target.{Target}
use Rattle.edd_syntax.specs.declared.reference.Target.TheVariants.{Local, Item, Function}
use Rattle.edd_image.specs.declared.parts.Counts.{Counts}
use Rattle.edd_image.specs.Existing.{variable_exists, array_exists, method_exists}

-- a variable, an array or a method is one of so many; other items aren't named
abbrev pub item_is_there : Counts → ItemNo → Bool
item_is_there counts (item_no.Variable v) = variable_exists counts v
item_is_there counts (item_no.Command n) = true
item_is_there counts (item_no.Menu n) = true
item_is_there counts (item_no.Collection n) = true
item_is_there counts (item_no.Method n) = method_exists counts n
item_is_there counts (item_no.Array n) = array_exists counts n

-- where a reference is a variable, an array or a method, it is one of so many
abbrev pub reads_existing : Counts → Target → Bool
reads_existing counts (Item i) = item_is_there counts i
reads_existing counts (Local slot) = true
reads_existing counts (Function f) = true
