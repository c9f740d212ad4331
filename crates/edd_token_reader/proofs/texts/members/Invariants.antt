use Rattle.std.proofs.Common.{◌≡◌, ◌++◌, map, length}
use Rattle.edd_syntax.specs.WordsView.{text_bytes}
use Rattle.edd_grammar.specs.Reading.{members_at}
use Rattle.edd_token_reader.proofs.texts.members.Given as goal

abbrev pub invariant-loop-name : goal.invariant-loop-name
invariant-loop-name l =
    (map text_bytes l.members.items ++ (members_at l.cursor).0 ≡ (members_at l.fn.cursor).0)
    × ((members_at l.cursor).1 ≡ (members_at l.fn.cursor).1)

abbrev pub decreases-loop-name : goal.decreases-loop-name
decreases-loop-name l = length l.cursor
