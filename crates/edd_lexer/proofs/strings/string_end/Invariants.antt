use Rattle.std.proofs.Common.{◌≡◌, true, length}
use Rattle.edd_lexer.specs.Places.{Ends}
use Rattle.edd_lexer.specs.Reading.{string_end}
use Rattle.edd_lexer.proofs.strings.string_end.Given as goal

abbrev pub invariant-loop-rest : goal.invariant-loop-rest
invariant-loop-rest l = record {
  sound : string_end l.good l.rest ≡ string_end true l.fn.inside;
  lines : Ends l.fn.inside l.lines l.rest;
}

abbrev pub decreases-loop-rest : goal.decreases-loop-rest
decreases-loop-rest l = length l.rest
