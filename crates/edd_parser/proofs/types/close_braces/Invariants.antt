use Rattle.std.proofs.Common.{◌≡◌, ◌+◌, ◌≤◌, length}
use Rattle.edd_syntax.specs.ItemGrammar.{behind_braces}
use Rattle.edd_parser.proofs.types.close_braces.Given as goal

abbrev pub invariant-loop : goal.invariant-loop
invariant-loop l =
    record {
      same : behind_braces (l.inside + 1) l.cursor ≡ behind_braces 1 l.fn.cursor;
      left : l.counter + length l.cursor ≡ length l.fn.cursor;
      fits : l.inside ≤ l.counter;
    }
