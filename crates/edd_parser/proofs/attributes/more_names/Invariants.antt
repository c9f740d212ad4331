use Rattle.std.proofs.Common.{◌≡◌, ◌++◌, map, length}
use Rattle.edd_syntax.specs.WordsView.{text_bytes}
use Rattle.edd_grammar.specs.WordReading.{more_names_at}
use Rattle.edd_parser.proofs.attributes.more_names.Given as goal

abbrev pub invariant-loop-name : goal.invariant-loop-name
invariant-loop-name l =
    (map text_bytes l.names.items ++ (more_names_at l.cursor).0
    ≡ map text_bytes l.fn.before.items ++ (more_names_at l.fn.cursor).0)
    × ((more_names_at l.cursor).1 ≡ (more_names_at l.fn.cursor).1)

abbrev pub decreases-loop-name : goal.decreases-loop-name
decreases-loop-name l = length l.cursor
