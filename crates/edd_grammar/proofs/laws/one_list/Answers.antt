use Rattle.edd_syntax.specs.Grammar.{TextHere}
use Rattle.edd_syntax.specs.Size.{leaf}
use Rattle.edd_grammar.specs.ConditionalReading.{text_value}
use Rattle.edd_grammar.proofs.CompleteLists.{list_unique}
use Rattle.edd_grammar.proofs.ValueKinds.{listed_texts}
use Rattle.edd_grammar.proofs.laws.one_list.Goals as goal

pub returns : goal.returns
returns c = λ all others here rest behind h k f g. list_unique leaf TextHere (λ rest. Unit {0})
    text_value listed_texts all others here rest behind h k f g
