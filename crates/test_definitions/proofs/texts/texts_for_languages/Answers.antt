use Rattle.std.proofs.Common.{refl}
use Rattle.edd_syntax.specs.Words.{pieces, text_for, unescape, words_of}
use Rattle.test_definitions.proofs.texts.texts_for_languages.Goals as goal

pub returns : goal.returns
unfolding words_of text_for pieces unescape
returns c = record {
  own = refl;
  english_behind = refl;
  first = refl;
  before_a_code = refl;
  first_of_two = refl;
  key = refl;
}
