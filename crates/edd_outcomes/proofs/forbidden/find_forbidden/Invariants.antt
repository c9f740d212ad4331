use Rattle.std.proofs.Common.{◌≡◌, drop}
use Rattle.edd_outcomes.specs.Expected.{absents, lacks, texts}
use Rattle.edd_outcomes.proofs.forbidden.find_forbidden.Given as goal

-- the lines so far were not printed, where they are ones that must not be
abbrev pub invariant-loop-line : goal.invariant-loop-line
invariant-loop-line l = lacks (absents (drop l.line-index l.lines)) (texts l.seen)
    ≡ lacks (absents l.lines) (texts l.seen)
