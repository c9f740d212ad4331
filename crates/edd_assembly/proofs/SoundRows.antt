-- The rows of variables and names keep their rules.
use Rattle.std.proofs.Common.{◌≡◌, refl, ap, ◌∙◌, ℕ, Bool, true, false, List, [], ◌∷◌, map, filter, IsTrue, arith}
use Rattle.std.specs.Prelude.{◌&&◌, if◌then◌else◌, Some, None}
use Rattle.std.specs.List.{list_all}
use Rattle.std.specs.Option.{option_map_or}
use Rattle.std.proofs.lemmas.Grind.{common_steps}
use Rattle.std.proofs.lemmas.Bool.{false≢true}
use Rattle.edd_syntax.specs.declared.types.VarType.{VarType}
use Rattle.edd_syntax.specs.declared.types.VarType.TheVariants as var_type
use Rattle.edd_syntax.specs.declared.reference.Target.{Target}
use Rattle.edd_syntax.specs.declared.numbers.Kind.TheVariants as kind
use Rattle.edd_syntax.specs.Item.{kind_of_item, Item}
use Rattle.edd_syntax.specs.Numbers.{same_kind}
use Rattle.edd_syntax.specs.Names.{is_within}
use Rattle.edd_syntax.specs.Device.{written_type}
use Rattle.edd_image.specs.Contents.{fields_of_variable}
use Rattle.edd_instructions.specs.Validity.{is_variable_row}
use Rattle.edd_assembly.specs.Assembly.{kind_of_type, variable_kinds, is_small_variable}

type_is_known : (t : VarType) (size : ℕ) → is_within 1 4 size ≡ true
    → is_variable_row (fields_of_variable (record { var_type = t; size = size })) ≡ true
type_is_known var_type.Integer size h = ap (λ b. b && true) h
type_is_known _ size h = ap (λ b. b && true) h

left_of : (a b : Bool) → (a && b) ≡ true → a ≡ true
left_of true b h = refl
left_of false b h = h

right_of : (a b : Bool) → (a && b) ≡ true → b ≡ true
right_of true b h = h
right_of false b h = absurd (false≢true h)

both : {a b : Bool} → a ≡ true → b ≡ true → (a && b) ≡ true
both {b} x y = ap (λ c. c && b) x ∙ y

-- the rows of one item and of others
abbrev rows_of : Bool → Item Target → List (Item Target) → Bool
rows_of b i rest = list_all is_variable_row
    (map fields_of_variable (map (λ j. kind_of_type (written_type j.attributes))
    (if b then i ∷ filter (λ j. same_kind (kind_of_item j.sort) kind.Variable) rest else filter
    (λ j. same_kind (kind_of_item j.sort) kind.Variable) rest)))

one_item : (b : Bool) (i : Item Target) (rest : List (Item Target))
    → option_map_or (λ attributes. is_within 1 4 (written_type attributes).size)
    (if b then Some i.attributes else None) true ≡ true
    → list_all is_variable_row (map fields_of_variable (variable_kinds rest)) ≡ true
    → rows_of b i rest ≡ true
one_item true i rest h rows =
    both (type_is_known (written_type i.attributes).type (written_type i.attributes).size h) rows
one_item false i rest h rows = rows

pub variables_sound : (items : List (Item Target)) → IsTrue (list_all is_small_variable items)
    → list_all is_variable_row (map fields_of_variable (variable_kinds items)) ≡ true
variables_sound [] h = refl
variables_sound (i ∷ rest) h =
    ap (λ xs. list_all is_variable_row
    (map fields_of_variable (map (λ j. kind_of_type (written_type j.attributes)) xs)))
    (chosen (same_kind (kind_of_item i.sort) kind.Variable) refl)
    ∙ one_item (same_kind (kind_of_item i.sort) kind.Variable) i rest
    (left_of (is_small_variable i) (list_all is_small_variable rest) h)
    (variables_sound rest (right_of (is_small_variable i) (list_all is_small_variable rest) h))
  where
    chosen : (b : Bool) → same_kind (kind_of_item i.sort) kind.Variable ≡ b
        → filter (λ j. same_kind (kind_of_item j.sort) kind.Variable) (i ∷ rest)
        ≡ (if b then i ∷ filter (λ j. same_kind (kind_of_item j.sort) kind.Variable) rest else
        filter (λ j. same_kind (kind_of_item j.sort) kind.Variable) rest)
    chosen true is = grind (arith, common_steps)
    chosen false is = grind (arith, common_steps)
