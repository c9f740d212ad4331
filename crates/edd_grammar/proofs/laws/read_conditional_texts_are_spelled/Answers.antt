use Rattle.edd_syntax.specs.Grammar.{TextHere}
use Rattle.edd_syntax.specs.Size.{leaf}
use Rattle.edd_grammar.specs.ConditionalReading.{text_value}
use Rattle.edd_grammar.proofs.SingleValues.{one_sound}
use Rattle.edd_grammar.proofs.ValueKinds.{text_value_sound}
use Rattle.edd_grammar.proofs.laws.read_conditional_texts_are_spelled.Goals as goal

pub returns : goal.returns
returns c = λ height_left here x rest e. one_sound leaf TextHere text_value text_value_sound
    height_left here x rest e
