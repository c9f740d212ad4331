use Rattle.std.proofs.Common.{◌≡◌, ◌++◌, string_bytes, length}
use denote.Text.{Utf8}
use denote.Shadow.{shadow}
use Rattle.edd_syntax.specs.Words.{unescape}
use Rattle.edd_strings.proofs.escapes.unescape.Given as goal

-- what was written, and the rest with its escapes replaced, are the text
abbrev pub invariant-loop-before : goal.invariant-loop-before
invariant-loop-before l = shadow (Utf8 l.rest)
    × (string_bytes l.plain ++ unescape l.rest ≡ unescape l.text)

abbrev pub decreases-loop-before : goal.decreases-loop-before
decreases-loop-before l = length l.rest
