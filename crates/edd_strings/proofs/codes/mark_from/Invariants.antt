use Rattle.std.proofs.Common.{◌-◌, ◌≤◌, length}
use Rattle.edd_strings.specs.Parts.{AreUnmarked}
use Rattle.edd_strings.proofs.codes.mark_from.Given as goal

-- no mark was passed
abbrev pub invariant-loop-at : goal.invariant-loop-at
invariant-loop-at l = (l.from ≤ l.at) × AreUnmarked l.bytes l.from l.at

abbrev pub decreases-loop-at : goal.decreases-loop-at
decreases-loop-at l = length l.bytes - l.at
