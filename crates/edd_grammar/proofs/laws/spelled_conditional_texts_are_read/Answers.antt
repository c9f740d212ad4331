use Rattle.edd_syntax.specs.Grammar.{TextHere}
use Rattle.edd_syntax.specs.Size.{leaf}
use Rattle.edd_grammar.specs.ConditionalReading.{text_value}
use Rattle.edd_grammar.proofs.SingleValues.{one_again}
use Rattle.edd_grammar.proofs.ValueKinds.{text_values}
use Rattle.edd_grammar.proofs.laws.spelled_conditional_texts_are_read.Goals as goal

pub returns : goal.returns
returns c = λ height_left x here rest h low. one_again leaf TextHere text_value text_values
    height_left x here rest h low
