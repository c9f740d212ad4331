use Rattle.std.proofs.Common.{◌≡◌, drop}
use Rattle.edd_outcomes.specs.Expected.{behind, texts}
use Rattle.edd_outcomes.proofs.comparing.behind.Given as goal

abbrev pub invariant-loop-place : goal.invariant-loop-place
invariant-loop-place l = behind l.text (texts (drop l.place l.seen))
    ≡ behind l.text (texts (drop l.fn.at l.seen))
