use Rattle.std.proofs.Common.{◌≡◌, drop}
use Rattle.edd_outcomes.specs.Expected.{meets, texts}
use Rattle.edd_outcomes.proofs.comparing.find_unmet.Given as goal

abbrev pub invariant-loop-line : goal.invariant-loop-line
invariant-loop-line l = meets l.case.form (drop l.line-index l.case.lines.items) (texts (drop l.at l.seen))
    ≡ meets l.case.form l.case.lines.items (texts l.seen)
