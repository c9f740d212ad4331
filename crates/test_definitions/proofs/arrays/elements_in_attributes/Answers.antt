use Rattle.std.proofs.Common.{refl}
use Rattle.edd_syntax.specs.AttributeValue.{chosen, value}
use Rattle.edd_syntax.specs.Attributes.{read_attribute}
use Rattle.edd_syntax.specs.TwosComplement.{wrap}
use Rattle.edd_syntax.specs.Words.{pieces, unescape, words_of}
use Rattle.test_definitions.proofs.arrays.elements_in_attributes.Goals as goal

pub returns : goal.returns
unfolding read_attribute chosen value wrap words_of pieces unescape
returns c = record {
  not_zero = refl;
  zero = refl;
  no_element = refl;
  negative = refl;
  as_written = refl;
}
