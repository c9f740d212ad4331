use Rattle.edd_panel.proofs.Explained.{sittings}
use Rattle.edd_panel.proofs.laws.sittings_are_explained.Goals as goal

pub returns : goal.returns
returns c = sittings
