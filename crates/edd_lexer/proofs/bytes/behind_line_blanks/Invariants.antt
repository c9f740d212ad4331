use Rattle.std.proofs.Common.{◌≡◌, ◌≤◌, length}
use Rattle.edd_lexer.specs.Bytes.{is_line_blank, behind}
use Rattle.edd_lexer.proofs.bytes.behind_line_blanks.Given as goal

abbrev pub invariant-loop-first : goal.invariant-loop-first
invariant-loop-first l =
    (behind is_line_blank l.blanks.rest.now ≡ behind is_line_blank l.fn.text)
    × (length l.blanks.rest.now ≤ length l.fn.text)

abbrev pub decreases-loop-first : goal.decreases-loop-first
decreases-loop-first l = length l.blanks.rest.now
