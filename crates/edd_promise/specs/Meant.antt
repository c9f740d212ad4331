-- What is read of a compiled image, as its unit means it.
use Rattle.std.specs.Prelude.{ℕ, ℤ, List}
use Rattle.edd_syntax.specs.declared.numbers.AttrRef.{AttrRef}
use Rattle.edd_syntax.specs.declared.reference.Target.{Target}
use Rattle.edd_syntax.specs.Attributes.{read_attribute}
use Rattle.edd_syntax.specs.Item.{Description}
use Rattle.edd_image.specs.Contents.{contents_in}
use Rattle.edd_instructions.specs.Agreement.{SameReading, string_numbered}
use Rattle.edd_instructions.specs.Reading.{Reading}

-- the unit's attribute means this under the values, with strings by their numbers in the image
abbrev pub meant_by : Description Target → (image : List ℕ) → (values : List ℤ) → AttrRef → Reading
    → Type 0
meant_by unit b values ref r =
    SameReading (string_numbered (contents_in b)) (read_attribute unit ref values) r
