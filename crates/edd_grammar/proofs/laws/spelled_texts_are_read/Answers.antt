use Rattle.edd_grammar.proofs.Texts.{text_again}
use Rattle.edd_grammar.proofs.laws.spelled_texts_are_read.Goals as goal

pub returns : goal.returns
returns c = λ text here rest h. text_again text here rest h
