use Rattle.edd_syntax.specs.Grammar.{TextHere}
use Rattle.edd_syntax.specs.Size.{leaf}
use Rattle.edd_grammar.specs.ConditionalReading.{text_value}
use Rattle.edd_grammar.proofs.CompleteLists.{list_again}
use Rattle.edd_grammar.proofs.ValueKinds.{listed_texts}
use Rattle.edd_grammar.proofs.laws.spelled_lists_are_read.Goals as goal

pub returns : goal.returns
returns c = λ height_left all here rest h low f. list_again leaf TextHere (λ rest. Unit {0})
    text_value listed_texts height_left all here rest h low f
