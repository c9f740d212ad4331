use Rattle.std.proofs.Common.{◌≡◌, false, length}
use Rattle.std.specs.Prelude.{◌==◌}
use Rattle.edd_lexer.specs.Bytes.{begins}
use Rattle.edd_layout.specs.Comments.{without_returns}
use Rattle.edd_layout.proofs.comments.are_same_texts.Given as goal

abbrev pub invariant-loop-left : goal.invariant-loop-left
invariant-loop-left l =
    (without_returns l.left ≡ without_returns l.right
    → without_returns l.fn.text ≡ without_returns l.fn.other)
    × (begins (λ b. b == 13) l.left ≡ false) × (begins (λ b. b == 13) l.right ≡ false)

abbrev pub decreases-loop-left : goal.decreases-loop-left
decreases-loop-left l = length l.left
