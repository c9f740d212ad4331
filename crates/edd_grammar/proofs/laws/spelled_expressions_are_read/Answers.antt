use Rattle.edd_grammar.proofs.CompleteExpressions.{expr_again}
use Rattle.edd_grammar.proofs.laws.spelled_expressions_are_read.Goals as goal

pub returns : goal.returns
returns c = λ p height_left precedence e here rest le h low stops. expr_again p height_left
    precedence e here rest
    le h low stops
