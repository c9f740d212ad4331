use Rattle.edd_grammar.proofs.CompleteStatements.{definition_again}
use Rattle.edd_grammar.proofs.laws.spelled_bodies_are_read.Goals as goal

pub returns : goal.returns
returns c = λ height_left body here rest h low. definition_again height_left body here rest h low
