use Rattle.edd_grammar.proofs.Units.{unit_sound}
use Rattle.edd_grammar.proofs.laws.read_units_are_spelled.Goals as goal

pub returns : goal.returns
returns c = λ tokens unit e. unit_sound tokens unit e
