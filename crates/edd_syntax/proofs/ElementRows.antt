-- The elements of arrays, one attribute and one array after another.
use Rattle.std.proofs.Common.{◌≡◌, refl, ap, ◌∙◌, ℕ, suc, Bool, true, false, arith, List, [], ◌∷◌, ◌++◌, map, if◌then◌else◌}
use Rattle.std.proofs.lemmas.Grind.{common_steps}
use Rattle.std.specs.List.{flat_map}
use Rattle.edd_syntax.specs.declared.numbers.Kind.TheVariants as kind
use Rattle.edd_syntax.specs.declared.numbers.ArrNo.{ArrNo}
use Rattle.edd_syntax.specs.declared.numbers.Element.{Element}
use Rattle.edd_syntax.specs.declared.item.ArrayElement.{ArrayElement}
use Rattle.edd_syntax.specs.declared.item.Attribute.{Attribute}
use Rattle.edd_syntax.specs.declared.reference.Target.{Target}
use Rattle.edd_syntax.specs.Item.{kind_of_item, Item}
use Rattle.edd_syntax.specs.ItemView.{numbered_array_element, numbered_attribute}
use Rattle.edd_syntax.specs.Numbers.{same_kind}
use Rattle.edd_syntax.specs.Elements.{element_of, written_elements, elements_of, elements_from}
use Rattle.edd_syntax.specs.Rows.{of_kind}

abbrev pub one_element : ArrNo → ArrayElement Target → List Element
one_element array e = element_of array (numbered_array_element e) ∷ []

pub each_element : (array : ArrNo) (es : List (ArrayElement Target))
    → flat_map (one_element array) es ≡ map (element_of array) (map numbered_array_element es)
each_element array [] = refl
each_element array (e ∷ es) =
    ap (λ xs. element_of array (numbered_array_element e) ∷ xs) (each_element array es)

abbrev pub of_attribute : ArrNo → Attribute Target → List Element
of_attribute array a = map (element_of array) (written_elements (numbered_attribute a))

mapped : {X Y : Type 0} (f : X → Y) (xs ys : List X) → map f xs ++ map f ys ≡ map f (xs ++ ys)
mapped f [] ys = refl
mapped f (x ∷ xs) ys = ap (λ zs. f x ∷ zs) (mapped f xs ys)

pub each_attribute : (array : ArrNo) (all : List (Attribute Target))
    → flat_map (of_attribute array) all
    ≡ map (element_of array) (flat_map written_elements (map numbered_attribute all))
each_attribute array [] = refl
each_attribute array (a ∷ all) =
    ap (λ xs. of_attribute array a ++ xs) (each_attribute array all)
    ∙ mapped (element_of array) (written_elements (numbered_attribute a))
    (flat_map written_elements (map numbered_attribute all))

-- ---- the arrays among the items

abbrev pub is_array : Item Target → Bool
is_array i = same_kind (kind_of_item i.sort) kind.Array

abbrev pub arrays_behind : ℕ → List (Item Target) → List Element
arrays_behind next items = elements_from next (of_kind kind.Array items)

abbrev pub of_array : ℕ → Item Target → List Element
of_array next i = elements_of (record { 0 = next }) i

pub arrays_split : (next : ℕ) (x : Item Target) (xs : List (Item Target))
    → arrays_behind next (x ∷ xs) ≡ (if is_array x then of_array next x else [])
    ++ arrays_behind (if is_array x then suc next else next) xs
arrays_split next x xs = by_kind (is_array x) refl
  where
    by_kind : (b : Bool) → is_array x ≡ b → arrays_behind next (x ∷ xs)
        ≡ (if is_array x then of_array next x else [])
        ++ arrays_behind (if is_array x then suc next else next) xs
    by_kind true is = grind (arith, common_steps)
    by_kind false is = grind (arith, common_steps)
