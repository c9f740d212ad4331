use Rattle.edd_display.proofs.Quotes.{escapes_read, texts_same}
use Rattle.edd_display.proofs.laws.quoted_texts_are_told_apart.Goals as goal

pub returns : goal.returns
returns c = record { read = escapes_read; apart = texts_same }
