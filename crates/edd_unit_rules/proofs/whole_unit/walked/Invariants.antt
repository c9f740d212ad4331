use Rattle.std.proofs.Common.{◌-◌, length}
use Rattle.edd_unit_rules.specs.Walks.{IsWalkAt}
use Rattle.edd_unit_rules.proofs.whole_unit.walked.Given as goal

abbrev pub invariant-loop-place : goal.invariant-loop-place
invariant-loop-place l = IsWalkAt l.context l.code l.walk l.place

abbrev pub decreases-loop-place : goal.decreases-loop-place
decreases-loop-place l = length l.code - l.place
