use Rattle.std.proofs.Common.{◌≡◌, ◌≤◌, length}
use Rattle.edd_lexer.specs.Bytes.{in_line, behind}
use Rattle.edd_lexer.proofs.bytes.behind_line.Given as goal

abbrev pub invariant-loop-first : goal.invariant-loop-first
invariant-loop-first l =
    (behind in_line l.line.rest.now ≡ behind in_line l.fn.text)
    × (length l.line.rest.now ≤ length l.fn.text)

abbrev pub decreases-loop-first : goal.decreases-loop-first
decreases-loop-first l = length l.line.rest.now
