use Rattle.edd_syntax.proofs.TurnLaws as turns
use Rattle.edd_syntax.proofs.laws.statements_stay.Goals as goal

pub returns : goal.returns
returns c = turns.statements_stay
