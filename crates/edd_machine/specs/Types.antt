-- The types of the variables of an image.
use Rattle.std.specs.Prelude.{ℕ, List}
use Rattle.edd_syntax.specs.DeviceValues.{VariableType}
use Rattle.edd_image.specs.Contents.{contents_in}
use Rattle.edd_instructions.specs.Reading.{environment_of}

-- the types of the variables of an image, by number
abbrev pub types_in : List ℕ → List VariableType
types_in b = (environment_of (contents_in b)).types
