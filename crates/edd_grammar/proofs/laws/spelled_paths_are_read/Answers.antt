use Rattle.edd_grammar.proofs.Texts.{path_again}
use Rattle.edd_grammar.proofs.laws.spelled_paths_are_read.Goals as goal

pub returns : goal.returns
returns c = λ path here rest no_dot h. path_again path here rest no_dot h
