use Rattle.std.proofs.Common.{◌≡◌, ◌≤◌, Bool, length}
use Rattle.edd_lexer.specs.Places.{lines_in}
use Rattle.edd_lexer.specs.Reading.{string_end}
use Rattle.edd_lexer.proofs.strings.behind_plain.Given as goal

abbrev pub invariant-loop-first : goal.invariant-loop-first
invariant-loop-first l =
    (lines_in l.plain.rest.now ≡ lines_in l.fn.text)
    × ((good : Bool) → string_end good l.plain.rest.now ≡ string_end good l.fn.text)
    × (length l.plain.rest.now ≤ length l.fn.text)

abbrev pub decreases-loop-first : goal.decreases-loop-first
decreases-loop-first l = length l.plain.rest.now
