use Rattle.edd_code.proofs.SameBlocks.{same_block}
use Rattle.edd_code.proofs.method_laws.attributes_have_the_same_blocks.Goals as goal

pub returns : goal.returns
returns c = same_block
