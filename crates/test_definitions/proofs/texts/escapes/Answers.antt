use Rattle.std.proofs.Common.{refl}
use Rattle.edd_syntax.specs.Words.{pieces, unescape, words_of}
use Rattle.test_definitions.proofs.texts.escapes.Goals as goal

pub returns : goal.returns
unfolding words_of pieces unescape
returns c = record { tab_and_line_feed = refl; quote_backslash_and_bar = refl }
