use Rattle.std.proofs.Common.{◌≡◌, ◌-◌, ◌≤◌, false, length}
use Rattle.edd_unit_rules.specs.Marks.{brought}
use Rattle.edd_unit_rules.specs.Walks.{IsWalk}
use Rattle.edd_unit_rules.proofs.whole_unit.surveyed.Given as goal

abbrev pub invariant-loop-place : goal.invariant-loop-place
invariant-loop-place l = record {
  walk : IsWalk l.context l.code l.survey.marks.items (brought l.survey.goes_on l.survey.depth)
      l.place l.survey.leads l.survey.agrees l.survey.names;
  room : l.survey.depth ≤ 128;
  nothing : l.survey.goes_on ≡ false → l.survey.depth ≡ 0;
}

abbrev pub decreases-loop-place : goal.decreases-loop-place
decreases-loop-place l = length l.code - l.place
