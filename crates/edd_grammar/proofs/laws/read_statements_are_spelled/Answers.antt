use Rattle.edd_grammar.proofs.SoundStatements.{statement_sound}
use Rattle.edd_grammar.proofs.laws.read_statements_are_spelled.Goals as goal

pub returns : goal.returns
returns c = λ height_left here s rest e. statement_sound height_left here s rest e
