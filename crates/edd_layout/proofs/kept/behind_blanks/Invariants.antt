use Rattle.std.proofs.Common.{◌≡◌, ◌≤◌, length}
use Rattle.edd_layout.specs.Same.{without_blanks}
use Rattle.edd_layout.proofs.kept.behind_blanks.Given as goal

abbrev pub invariant-loop-rest : goal.invariant-loop-rest
invariant-loop-rest l = (without_blanks l.rest ≡ without_blanks l.fn.text)
    × (length l.rest ≤ length l.fn.text)

abbrev pub decreases-loop-rest : goal.decreases-loop-rest
decreases-loop-rest l = length l.rest
