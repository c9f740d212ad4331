use Rattle.edd_syntax.proofs.RunsStay as runs
use Rattle.edd_syntax.proofs.laws.runs_stay.Goals as goal

pub returns-clause-bodies : goal.returns-clause-bodies
returns-clause-bodies c = runs.bodies_stay

pub returns-clause-methods : goal.returns-clause-methods
returns-clause-methods c = runs.runs_stay
