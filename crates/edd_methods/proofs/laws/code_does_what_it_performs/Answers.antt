use Rattle.edd_methods.proofs.UnitRuns.{code_follows}
use Rattle.edd_methods.proofs.laws.code_does_what_it_performs.Goals as goal

pub returns : goal.returns
returns c = code_follows
