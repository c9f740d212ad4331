use Rattle.std.proofs.Common.{◌≤◌, ◌-◌, length}
use Rattle.edd_unit_rules.proofs.whole_unit.first_misleading.Given as goal

abbrev pub invariant-loop-instruction : goal.invariant-loop-instruction
invariant-loop-instruction l = l.place ≤ length l.code

abbrev pub decreases-loop-instruction : goal.decreases-loop-instruction
decreases-loop-instruction l = length l.code - l.place
