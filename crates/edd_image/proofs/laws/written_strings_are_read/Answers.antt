use Rattle.edd_image.proofs.StringsRead.{string_again}
use Rattle.edd_image.proofs.laws.written_strings_are_read.Goals as goal

pub returns : goal.returns
returns c = λ w fits. string_again w fits
