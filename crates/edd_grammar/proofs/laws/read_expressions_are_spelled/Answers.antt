use Rattle.edd_grammar.proofs.SoundExpressions.{expr_sound}
use Rattle.edd_grammar.proofs.laws.read_expressions_are_spelled.Goals as goal

pub returns : goal.returns
returns c = λ p height_left precedence here e rest le x. let s =
    expr_sound p height_left precedence here e rest
    le x in (s.0.spelled, s.0.low)
