-- The items of a description by number, the types of its variables and the elements of its arrays.
use Rattle.std.specs.Prelude.{List, [], ◌∷◌, map, filter, slice_get, Option, unwrap_or}
use Rattle.edd_syntax.specs.declared.numbers.Kind.{Kind}
use Rattle.edd_syntax.specs.declared.numbers.Kind.TheVariants as kind
use Rattle.edd_syntax.specs.declared.numbers.VarNo.{VarNo}
use Rattle.edd_syntax.specs.declared.numbers.ItemNo.{ItemNo}
use Rattle.edd_syntax.specs.declared.types.VarType.TheVariants as var_type
use Rattle.edd_syntax.specs.declared.numbers.Element.{Element}
use Rattle.edd_syntax.specs.Reference.{Target}
use Rattle.edd_syntax.specs.Elements.{elements_from}
use Rattle.edd_syntax.specs.DeviceValues.{VariableType, type_at}
use Rattle.edd_syntax.specs.Numbers.{same_kind, kind_of, index_of}
use Rattle.edd_syntax.specs.Item.{Item, kind_of_item, Attribute, TypeOf, Known, Description}

-- ---- items

-- the items of one kind: an item's number is the count of items of its kind before it
abbrev pub items_of : {R : Type 0} → Kind → Description R → List (Item R)
items_of k unit = filter (λ i. same_kind (kind_of_item i.sort) k) unit.items

-- the item of this number
abbrev pub item_at : {R : Type 0} → Description R → ItemNo → Option (Item R)
item_at unit i = slice_get (items_of (kind_of i) unit) (index_of i)

-- ---- variables

-- an INTEGER of one octet
abbrev pub smallest_type : VariableType
smallest_type = record { type = var_type.Integer; size = 1 }

-- the type that is written; a size that isn't written is 1
abbrev pub written_type : {R : Type 0} → List (Attribute R) → VariableType
written_type [] = smallest_type
written_type (TypeOf (Known type size) parts ∷ rest) =
    record { type = type; size = unwrap_or size 1 }
written_type (_ ∷ rest) = written_type rest

-- what expressions and statements have to know of the description that they are in
pub record Environment : Type 0 where
  -- the types of the variables by number
  pub variables : List VariableType
  -- the elements of the arrays, by array and number
  pub elements : List Element

-- the types of the variables and the elements of the arrays of a description
abbrev pub environment : Description Target → Environment
environment unit = record {
  variables = map (λ i. written_type i.attributes) (items_of kind.Variable unit);
  elements = elements_from 0 (items_of kind.Array unit);
}

-- the type of a variable
abbrev pub type_of_variable : Environment → VarNo → VariableType
type_of_variable env v = type_at env.variables v
