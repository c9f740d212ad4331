-- The image of a text.
use Rattle.std.specs.Prelude.{ℕ, List}
use Rattle.edd_syntax.specs.Reference.{Path}
use Rattle.edd_syntax.specs.Item.{Description}
use Rattle.edd_syntax.specs.Accepted.{IsAccepted}
use Rattle.edd_image.specs.Contents.{contents_in}
use Rattle.edd_instructions.specs.MethodAgreement.{Agrees}
use Rattle.edd_instructions.specs.Validity.{IsValid}
use Rattle.edd_compiler.specs.Sources.{IsUnitOf}

-- The tokens of the text spell a unit that is accepted, and the bytes are a valid image that says
-- and does what the unit means: all that is read of it agrees, and every method runs alike.
pub record IsImageOf (text bytes : List ℕ) : Type 0 where
  pub unit : Description Path
  pub spelled : IsUnitOf text unit
  pub accepted : IsAccepted unit
  pub valid : IsValid bytes
  pub agrees : Agrees accepted.resolved (contents_in bytes)

-- some bytes are its image
abbrev pub HasImage : List ℕ → Type 0
HasImage text = (bytes : List ℕ) × IsImageOf text bytes
