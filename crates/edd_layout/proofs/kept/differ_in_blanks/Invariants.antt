use Rattle.std.proofs.Common.{◌≡◌, false, length}
use Rattle.edd_lexer.specs.Bytes.{begins, is_blank}
use Rattle.edd_layout.specs.Same.{without_blanks}
use Rattle.edd_layout.proofs.kept.differ_in_blanks.Given as goal

abbrev pub invariant-loop-left : goal.invariant-loop-left
invariant-loop-left l =
    (without_blanks l.left ≡ without_blanks l.right
    → without_blanks l.fn.text ≡ without_blanks l.fn.other)
    × (begins is_blank l.left ≡ false) × (begins is_blank l.right ≡ false)

abbrev pub decreases-loop-left : goal.decreases-loop-left
decreases-loop-left l = length l.left
