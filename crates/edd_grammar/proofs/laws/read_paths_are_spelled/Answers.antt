use Rattle.edd_grammar.proofs.Texts.{path_sound}
use Rattle.edd_grammar.proofs.laws.read_paths_are_spelled.Goals as goal

pub returns : goal.returns
returns c = λ here path rest e. path_sound here path rest e
