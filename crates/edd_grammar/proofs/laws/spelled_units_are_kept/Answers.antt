use Rattle.edd_grammar.proofs.KeptUnits.{unit_kept}
use Rattle.edd_grammar.proofs.laws.spelled_units_are_kept.Goals as goal

pub returns : goal.returns
returns c = λ tokens unit s k. unit_kept tokens unit s k
