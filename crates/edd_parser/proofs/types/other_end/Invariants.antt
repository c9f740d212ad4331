use Rattle.std.proofs.Common.{◌≡◌, length}
use Rattle.edd_grammar.specs.TypeReading.{behind_other}
use Rattle.edd_parser.proofs.types.other_end.Given as goal

abbrev pub invariant-loop-cursor : goal.invariant-loop-cursor
invariant-loop-cursor l = behind_other l.cursor ≡ behind_other l.fn.cursor

abbrev pub decreases-loop-cursor : goal.decreases-loop-cursor
decreases-loop-cursor l = length l.cursor
