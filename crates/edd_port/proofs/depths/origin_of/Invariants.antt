use Rattle.std.proofs.Common.{◌-◌}
use Rattle.edd_instructions.specs.Units.{instructions}
use Rattle.edd_port.proofs.OriginTurns.{IsTurn}
use Rattle.edd_port.proofs.depths.origin_of.Given as goal

abbrev pub invariant-loop-at : goal.invariant-loop-at
invariant-loop-at l = IsTurn l.code (instructions l.code) l.place l.segment l.at

abbrev pub decreases-loop-at : goal.decreases-loop-at
decreases-loop-at l = l.place - l.at
