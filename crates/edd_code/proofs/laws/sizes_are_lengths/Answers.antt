use Rattle.edd_code.proofs.BlockBytes.{lengths}
use Rattle.edd_code.proofs.laws.sizes_are_lengths.Goals as goal

pub returns : goal.returns
returns c = lengths
