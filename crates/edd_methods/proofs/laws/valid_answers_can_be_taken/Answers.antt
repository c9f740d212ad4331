use Rattle.edd_methods.proofs.UnitRuns.{valid_are_taken}
use Rattle.edd_methods.proofs.laws.valid_answers_can_be_taken.Goals as goal

pub returns : goal.returns
returns c = valid_are_taken
