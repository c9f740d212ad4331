use Rattle.std.proofs.Common.{◌≡◌, length}
use Rattle.edd_lexer.specs.Gaps.{behind_close}
use Rattle.edd_lexer.specs.Places.{Ends}
use Rattle.edd_lexer.proofs.gaps.behind_close.Given as goal

abbrev pub invariant-loop-rest : goal.invariant-loop-rest
invariant-loop-rest l = record {
  sound : behind_close l.rest ≡ behind_close l.fn.body;
  lines : Ends l.fn.body l.lines l.rest;
}

abbrev pub decreases-loop-rest : goal.decreases-loop-rest
decreases-loop-rest l = length l.rest
