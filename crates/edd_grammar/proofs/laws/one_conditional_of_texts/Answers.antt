use Rattle.edd_syntax.specs.Grammar.{TextHere}
use Rattle.edd_syntax.specs.Size.{leaf}
use Rattle.edd_grammar.specs.ConditionalReading.{text_value}
use Rattle.edd_grammar.proofs.SingleValues.{one_unique}
use Rattle.edd_grammar.proofs.ValueKinds.{text_values}
use Rattle.edd_grammar.proofs.laws.one_conditional_of_texts.Goals as goal

pub returns : goal.returns
returns c = λ x y here rest behind h k. one_unique leaf TextHere text_value text_values x y here
    rest behind h k
