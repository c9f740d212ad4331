use Rattle.edd_grammar.proofs.Units.{unit_again}
use Rattle.edd_grammar.proofs.laws.spelled_units_are_read.Goals as goal

pub returns : goal.returns
returns c = λ tokens unit s. unit_again tokens unit s
