use Rattle.std.proofs.Common.{◌≡◌, ◌++◌, length}
use Rattle.std.specs.Prelude.{string_bytes}
use Rattle.edd_grammar.specs.Reading.{strings_at}
use Rattle.edd_token_reader.proofs.texts.strings.Given as goal

abbrev pub invariant-loop-text : goal.invariant-loop-text
invariant-loop-text l =
    (string_bytes l.raw ++ (strings_at l.cursor).0 ≡ l.first ++ (strings_at l.fn.cursor).0)
    × ((strings_at l.cursor).1 ≡ (strings_at l.fn.cursor).1)

abbrev pub decreases-loop-text : goal.decreases-loop-text
decreases-loop-text l = length l.cursor
