use Rattle.edd_syntax.specs.Grammar.{InAttribute, ExprHere}
use Rattle.edd_syntax.specs.Size.{height}
use Rattle.edd_grammar.specs.ConditionalReading.{expr_value}
use Rattle.edd_grammar.proofs.SingleValues.{one_unique}
use Rattle.edd_grammar.proofs.ValueKinds.{expr_values}
use Rattle.edd_grammar.proofs.laws.one_conditional_of_values.Goals as goal

pub returns : goal.returns
returns c = λ x y here rest behind h k. one_unique height (ExprHere InAttribute 2) expr_value
    expr_values x y here rest behind h k
