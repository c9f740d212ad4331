use Rattle.edd_grammar.proofs.Units.{unit_unique}
use Rattle.edd_grammar.proofs.laws.one_tree.Goals as goal

pub returns : goal.returns
returns c = λ tokens a b s t. unit_unique tokens a b s t
