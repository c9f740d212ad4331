-- The types that are read of the variable rows are those of the description.
use Rattle.std.proofs.Common.{◌≡◌, refl, ap, ◌∙◌, ℕ, List, [], ◌∷◌, map, Option, Some}
use Rattle.std.specs.List.{filter_map}
use Rattle.edd_syntax.specs.declared.types.VarType.{VarType}
use Rattle.edd_syntax.specs.declared.types.VarType.TheVariants as var_type
use Rattle.edd_syntax.specs.declared.reference.Target.{Target}
use Rattle.edd_syntax.specs.declared.numbers.Kind.TheVariants as kind
use Rattle.edd_syntax.specs.Item.{Item}
use Rattle.edd_syntax.specs.Device.{written_type}
use Rattle.edd_syntax.specs.Rows.{of_kind}
use Rattle.edd_image.specs.Contents.{fields_of_variable}
use Rattle.edd_instructions.specs.Reading.{variable_type_of}
use Rattle.edd_assembly.specs.Assembly.{kind_of_type, variable_kinds}

type_read : (t : VarType) (size : ℕ)
    → variable_type_of (fields_of_variable (kind_of_type (record { type = t; size = size })))
    ≡ Some (record { type = t; size = size })
type_read var_type.Integer size = refl
type_read _ size = refl

found : {A B : Type 0} (f : A → Option B) (x : A) {y : B} (rest : List A) → f x ≡ Some y
    → filter_map f (x ∷ rest) ≡ y ∷ filter_map f rest
found f x rest is = rw is refl

each_type_read : (items : List (Item Target))
    → filter_map variable_type_of
    (map fields_of_variable (map (λ i. kind_of_type (written_type i.attributes)) items))
    ≡ map (λ i. written_type i.attributes) items
each_type_read [] = refl
each_type_read (i ∷ rest) =
    found variable_type_of (fields_of_variable (kind_of_type (written_type i.attributes)))
    (map fields_of_variable (map (λ j. kind_of_type (written_type j.attributes)) rest))
    (type_read (written_type i.attributes).type (written_type i.attributes).size)
    ∙ ap (λ ts. written_type i.attributes ∷ ts) (each_type_read rest)

pub types_read : (items : List (Item Target))
    → filter_map variable_type_of (map fields_of_variable (variable_kinds items))
    ≡ map (λ i. written_type i.attributes) (of_kind kind.Variable items)
types_read items = each_type_read (of_kind kind.Variable items)
