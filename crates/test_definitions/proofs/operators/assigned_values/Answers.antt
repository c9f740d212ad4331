use Rattle.std.proofs.Common.{refl}
use Rattle.edd_syntax.specs.Evaluation.{call, evaluate}
use Rattle.edd_syntax.specs.Execution.{execute, run_body, turns}
use Rattle.edd_syntax.specs.Statement.{slots_of}
use Rattle.edd_syntax.specs.TwosComplement.{apply, compare, operate, store, wrap}
use Rattle.edd_syntax.specs.Words.{pieces, unescape, words_of}
use Rattle.test_definitions.proofs.operators.assigned_values.Goals as goal

pub returns : goal.returns
unfolding run_body execute turns evaluate call wrap store operate apply compare words_of pieces
    unescape slots_of
returns c = record {
  subtracted = refl;
  divided = refl;
  remainder = refl;
  shifted_left = refl;
  shifted_right = refl;
  bits_of_both = refl;
  bits_of_either = refl;
  bits_of_one = refl;
}
