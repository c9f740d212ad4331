use Rattle.edd_display.proofs.OneText.{one_text}
use Rattle.edd_display.proofs.laws.one_text_is_shown.Goals as goal

pub returns : goal.returns
returns c = one_text c.readings_are_unique.ensures
