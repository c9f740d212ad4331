use Rattle.edd_terminal.proofs.Reached.{reached}
use Rattle.edd_terminal.proofs.sources_reach_the_terminal.Goals as goal

pub returns : goal.returns
returns c = reached
