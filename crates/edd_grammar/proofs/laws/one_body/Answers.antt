use Rattle.edd_grammar.proofs.CompleteStatements.{definition_unique}
use Rattle.edd_grammar.proofs.laws.one_body.Goals as goal

pub returns : goal.returns
returns c = λ a b here rest behind h k. definition_unique a b here rest behind h k
