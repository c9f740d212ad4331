use Rattle.std.proofs.Common.{◌≡◌, ◌≤◌, length}
use Rattle.edd_syntax.specs.Names.{goes_on_name}
use Rattle.edd_lexer.specs.Bytes.{behind}
use Rattle.edd_lexer.proofs.bytes.behind_name.Given as goal

abbrev pub invariant-loop-first : goal.invariant-loop-first
invariant-loop-first l =
    (behind goes_on_name l.letters.rest.now ≡ behind goes_on_name l.fn.text)
    × (length l.letters.rest.now ≤ length l.fn.text)

abbrev pub decreases-loop-first : goal.decreases-loop-first
decreases-loop-first l = length l.letters.rest.now
