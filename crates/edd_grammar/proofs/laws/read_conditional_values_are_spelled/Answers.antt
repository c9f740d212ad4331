use Rattle.edd_syntax.specs.Grammar.{InAttribute, ExprHere}
use Rattle.edd_syntax.specs.Size.{height}
use Rattle.edd_grammar.specs.ConditionalReading.{expr_value}
use Rattle.edd_grammar.proofs.SingleValues.{one_sound}
use Rattle.edd_grammar.proofs.ValueKinds.{expr_value_sound}
use Rattle.edd_grammar.proofs.laws.read_conditional_values_are_spelled.Goals as goal

pub returns : goal.returns
returns c = λ height_left here x rest e. one_sound height (ExprHere InAttribute 2) expr_value
    expr_value_sound height_left here x rest e
