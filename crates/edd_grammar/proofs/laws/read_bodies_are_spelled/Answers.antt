use Rattle.edd_grammar.proofs.SoundStatements.{definition_sound}
use Rattle.edd_grammar.proofs.laws.read_bodies_are_spelled.Goals as goal

pub returns : goal.returns
returns c = λ height_left here body rest e. definition_sound height_left here body rest e
