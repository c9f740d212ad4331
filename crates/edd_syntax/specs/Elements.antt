-- The elements of arrays: which there are, and their variables and values.
use Rattle.std.specs.Prelude.{ℕ, suc, ◌==◌, ◌&&◌, nat_le, if◌then◌else◌, ℤ, pos, List, [], ◌∷◌, ◌++◌, map, find, Option, Some, None, option_map, Result, Ok, Err}
use Rattle.std.specs.List.{flat_map}
use Rattle.std.specs.Ordering.{int_eq}
use Rattle.edd_syntax.specs.declared.answer.Trap.{Trap}
use Rattle.edd_syntax.specs.declared.answer.Trap.TheVariants.{NoElement}
use Rattle.edd_syntax.specs.declared.numbers.ArrNo.{ArrNo}
use Rattle.edd_syntax.specs.declared.numbers.VarNo.{VarNo}
use Rattle.edd_syntax.specs.declared.numbers.Element.{Element}
use Rattle.edd_syntax.specs.declared.numbers.ItemNo.{ItemNo}
use Rattle.edd_syntax.specs.declared.numbers.ItemNo.TheVariants as item_no
use Rattle.edd_syntax.specs.Reference.{Target, Local, Item, Function}
use Rattle.edd_syntax.specs.Item as item
use Rattle.edd_syntax.specs.Item.{Attribute, ArrayElement, Elements}
use Rattle.edd_syntax.specs.Targets.{variable_of}
use Rattle.edd_syntax.specs.DeviceValues.{value_at}
use Rattle.edd_syntax.specs.TwosComplement.{wrap}

-- ---- which there are

-- the elements that an attribute lists
abbrev pub written_elements : {R : Type 0} → Attribute R → List (ArrayElement R)
written_elements (Elements elements) = elements
written_elements _ = []

-- an element of an array, by its number and its variable
abbrev pub element_of : ArrNo → ArrayElement Target → Element
element_of array e =
    record { array = array; number = e.number; var = variable_of e.variable }

-- before the first whose number is not less
abbrev pub with_element : Element → List Element → List Element
with_element e [] = e ∷ []
with_element e (x ∷ rest) =
    if nat_le e.number x.number then e ∷ x ∷ rest else x ∷ with_element e rest

-- elements in the order of their numbers
abbrev pub by_number : List Element → List Element
by_number [] = []
by_number (e ∷ rest) = with_element e (by_number rest)

-- of one array, by number
abbrev pub elements_of : ArrNo → item.Item Target → List Element
elements_of array i = by_number (map (element_of array) (flat_map written_elements i.attributes))

-- of all arrays, the first of which has the number `next`
abbrev pub elements_from : (next : ℕ) → List (item.Item Target) → List Element
elements_from next [] = []
elements_from next (i ∷ rest) = elements_of (record { 0 = next }) i ++ elements_from (suc next) rest

-- ---- their variables and values

-- the variable of the element of this number
abbrev pub element_variable : List Element → ArrNo → ℤ → Option VarNo
element_variable elements array number = option_map (λ e. e.var)
    (find (λ e. e.array.0 == array.0 && int_eq (pos e.number) number) elements)

-- the value of a variable in the width; where there is none, the array has no such element
abbrev pub value_or_trap : (width : ℕ) → (values : List ℤ) → Option VarNo → Result ℤ Trap
value_or_trap width values None = Err NoElement
value_or_trap width values (Some v) = Ok (wrap width (value_at values v))

-- the value of the element of this number in an array
abbrev pub element_value : List Element → (width : ℕ) → (values : List ℤ) → ArrNo → ℤ
    → Result ℤ Trap
element_value elements width values array number = value_or_trap width values
    (element_variable elements array number)

-- in a checked unit nothing but an array is before an index
abbrev pub item_element : List Element → (width : ℕ) → (values : List ℤ) → ItemNo → ℤ
    → Result ℤ Trap
item_element elements width values (item_no.Array n) number =
    element_value elements width values n number
item_element elements width values _ number = Ok (pos 0)

-- the value of an element of what is before an index
abbrev pub indexed_value : List Element → (width : ℕ) → (values : List ℤ) → Target → ℤ
    → Result ℤ Trap
indexed_value elements width values (Item i) number = item_element elements width values i number
indexed_value elements width values (Local slot) number = Ok (pos 0)
indexed_value elements width values (Function f) number = Ok (pos 0)
