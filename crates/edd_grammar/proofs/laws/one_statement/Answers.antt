use Rattle.edd_grammar.proofs.CompleteStatements.{statement_unique}
use Rattle.edd_grammar.proofs.laws.one_statement.Goals as goal

pub returns : goal.returns
returns c = λ s t here rest behind h k. statement_unique s t here rest behind h k
