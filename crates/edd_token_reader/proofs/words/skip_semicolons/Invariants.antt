use Rattle.std.proofs.Common.{◌≡◌, length}
use Rattle.edd_grammar.specs.WordReading.{skip_semicolons}
use Rattle.edd_token_reader.proofs.words.skip_semicolons.Given as goal

abbrev pub invariant-loop : goal.invariant-loop
invariant-loop l = skip_semicolons l.cursor ≡ skip_semicolons l.fn.cursor

abbrev pub decreases-loop : goal.decreases-loop
decreases-loop l = length l.cursor
