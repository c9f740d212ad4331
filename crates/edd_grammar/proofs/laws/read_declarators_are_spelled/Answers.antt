use Rattle.edd_grammar.proofs.Declarations.{declarators_sound}
use Rattle.edd_grammar.proofs.laws.read_declarators_are_spelled.Goals as goal

pub returns : goal.returns
returns c = λ height_left here ds rest e. declarators_sound height_left here ds rest e
