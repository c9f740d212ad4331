-- The rules on rows, row by row.
use Rattle.std.specs.Prelude.{Bool, true, List, [], ◌∷◌}
use Rattle.edd_syntax.specs.declared.numbers.Element.{Element}
use Rattle.edd_image.specs.Contents.{AttributeFields}
use Rattle.edd_instructions.specs.Validity.{rises, is_element_before}

-- a row rises to the first of the rows after it
abbrev pub rises_next : AttributeFields → List AttributeFields → Bool
rises_next r [] = true
rises_next r (next ∷ rest) = rises r next

-- an element comes before the first of the elements after it
abbrev pub is_before_next : Element → List Element → Bool
is_before_next e [] = true
is_before_next e (next ∷ rest) = is_element_before e next
