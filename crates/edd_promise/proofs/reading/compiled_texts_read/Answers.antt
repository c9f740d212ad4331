use Rattle.edd_image.specs.Contents.{contents_in}
use Rattle.edd_instructions.specs.Agreement.{string_numbered}
use Rattle.edd_promise.proofs.UnitReads.{text_read}
use Rattle.edd_promise.proofs.reading.compiled_texts_read.Goals as goal

pub returns : goal.returns
returns c = λ b words n code is. text_read (string_numbered (contents_in b) n) words code is
