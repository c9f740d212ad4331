use Rattle.edd_code.proofs.BlockUnits.{unit_is_valid}
use Rattle.edd_code.proofs.laws.blocks_are_valid.Goals as goal

pub returns : goal.returns
returns c context b spelled flows after small exist = unit_is_valid context b spelled flows after
    small exist
