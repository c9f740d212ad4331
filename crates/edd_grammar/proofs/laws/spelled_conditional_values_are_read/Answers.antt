use Rattle.edd_syntax.specs.Grammar.{InAttribute, ExprHere}
use Rattle.edd_syntax.specs.Size.{height}
use Rattle.edd_grammar.specs.ConditionalReading.{expr_value}
use Rattle.edd_grammar.proofs.SingleValues.{one_again}
use Rattle.edd_grammar.proofs.ValueKinds.{expr_values}
use Rattle.edd_grammar.proofs.laws.spelled_conditional_values_are_read.Goals as goal

pub returns : goal.returns
returns c = λ height_left x here rest h low. one_again height (ExprHere InAttribute 2) expr_value
    expr_values height_left x here rest h low
