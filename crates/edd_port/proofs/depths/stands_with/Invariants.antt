use Rattle.edd_instructions.specs.Units.{instructions}
use Rattle.edd_port.proofs.OriginTurns.{IsTraced}
use Rattle.edd_port.proofs.depths.stands_with.Given as goal

abbrev pub invariant-loop-segment : goal.invariant-loop-segment
invariant-loop-segment l = IsTraced (instructions l.code) l.place l.at l.rise

abbrev pub decreases-loop-segment : goal.decreases-loop-segment
decreases-loop-segment l = l.at
