use Rattle.std.proofs.Common.{◌≡◌, ◌≤◌, length}
use Rattle.edd_layout.specs.Comments.{without_returns}
use Rattle.edd_layout.proofs.comments.behind_returns.Given as goal

abbrev pub invariant-loop-rest : goal.invariant-loop-rest
invariant-loop-rest l = (without_returns l.rest ≡ without_returns l.fn.text)
    × (length l.rest ≤ length l.fn.text)

abbrev pub decreases-loop-rest : goal.decreases-loop-rest
decreases-loop-rest l = length l.rest
