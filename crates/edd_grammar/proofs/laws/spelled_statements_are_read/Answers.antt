use Rattle.edd_grammar.proofs.CompleteStatements.{statement_again}
use Rattle.edd_grammar.proofs.laws.spelled_statements_are_read.Goals as goal

pub returns : goal.returns
returns c = λ height_left s here rest h low. statement_again height_left s here rest h low
