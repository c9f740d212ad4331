use Rattle.edd_methods.proofs.UnitRuns.{unit_follows}
use Rattle.edd_methods.proofs.laws.units_follow_their_code.Goals as goal

pub returns : goal.returns
returns g text env c f ok small whole same = unit_follows text env c ok small whole f same
