use Rattle.edd_loader.proofs.TextTurns.{no_string}
use Rattle.edd_loader.proofs.texts.text_of.Goals as goal

pub returns-in-empty : goal.returns-in-empty
returns-in-empty c = absurd (no_string _ c.in-empty.len_below c.requires)
