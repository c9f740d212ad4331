use Rattle.std.proofs.Common.{refl}
use Rattle.edd_syntax.specs.Evaluation.{call, evaluate}
use Rattle.edd_syntax.specs.Execution.{execute, run_body, turns}
use Rattle.edd_syntax.specs.Statement.{slots_of}
use Rattle.edd_syntax.specs.TwosComplement.{apply, compare, operate, store, wrap}
use Rattle.edd_syntax.specs.Words.{pieces, unescape, words_of}
use Rattle.test_definitions.proofs.statements.switches.Goals as goal

pub returns : goal.returns
unfolding run_body execute turns evaluate call wrap store operate apply compare words_of pieces
    unescape slots_of
returns c = record {
  case_of_32_bits = refl;
  no_equal_case = refl;
  neither_case_nor_default = refl;
  first_of_two_cases = refl;
  one_inside_another = refl;
  inner_case_is_no_outer = refl;
}
