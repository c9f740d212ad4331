use Rattle.edd_code.proofs.BlockReading.{block_follows}
use Rattle.edd_code.proofs.laws.blocks_come_to_their_outcomes.Goals as goal

pub returns : goal.returns
returns c = block_follows
