use Rattle.edd_methods.proofs.LoopTurns.{test_first, test_last}
use Rattle.edd_methods.proofs.laws.loops_are_turns.Goals as goal

pub returns-clause-first : goal.returns-clause-first
returns-clause-first c = test_first

pub returns-clause-last : goal.returns-clause-last
returns-clause-last c = test_last
