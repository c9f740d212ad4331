use Rattle.edd_grammar.proofs.Texts.{text_sound}
use Rattle.edd_grammar.proofs.laws.read_texts_are_spelled.Goals as goal

pub returns : goal.returns
returns c = λ here text rest is e. text_sound here text rest is e
