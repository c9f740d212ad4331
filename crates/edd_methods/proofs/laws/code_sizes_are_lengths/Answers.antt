use Rattle.edd_methods.proofs.CodeBytes.{code_long}
use Rattle.edd_methods.proofs.laws.code_sizes_are_lengths.Goals as goal

pub returns : goal.returns
returns c = code_long
