-- Which units add only abort methods that have a body.
use Rattle.std.specs.Prelude.{ℕ, Bool, ◌||◌, List}
use Rattle.std.specs.List.{list_all}
use Rattle.edd_image.specs.Contents.{AttributeFields, Contents, part}
use Rattle.edd_instructions.specs.Units.{instructions}
use Rattle.edd_instructions.specs.Validity.{adds_with_body, is_body}

-- each instruction of the unit does so
abbrev pub unit_adds_with_body : Contents → (unit : List ℕ) → Bool
unit_adds_with_body c unit = list_all (λ x. adds_with_body c x.instruction) (instructions unit)

-- the unit of the row, among this code
abbrev pub row_adds_with_body : Contents → (code : List ℕ) → AttributeFields → Bool
row_adds_with_body c code r = unit_adds_with_body c (part r.span code)

-- it is a method's body, or it is known to
abbrev pub is_body_or_adds : Contents → (code : List ℕ) → AttributeFields → Bool
is_body_or_adds c code r = is_body r || row_adds_with_body c code r
