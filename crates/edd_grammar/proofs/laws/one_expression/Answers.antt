use Rattle.edd_grammar.proofs.CompleteExpressions.{expr_unique}
use Rattle.edd_grammar.proofs.laws.one_expression.Goals as goal

pub returns : goal.returns
returns c = λ p precedence e f here rest behind le s t h k. expr_unique p precedence e f here rest
    behind le s t h
    k
