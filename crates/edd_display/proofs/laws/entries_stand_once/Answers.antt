use Rattle.edd_display.proofs.Once.{entries_once}
use Rattle.edd_display.proofs.laws.entries_stand_once.Goals as goal

pub returns : goal.returns
returns c = entries_once
