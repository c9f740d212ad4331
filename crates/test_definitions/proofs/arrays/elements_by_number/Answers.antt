use Rattle.std.proofs.Common.{refl}
use Rattle.edd_syntax.specs.Evaluation.{call, evaluate}
use Rattle.edd_syntax.specs.Execution.{execute, run}
use Rattle.edd_syntax.specs.Statement.{slots_of}
use Rattle.edd_syntax.specs.TwosComplement.{apply, wrap}
use Rattle.test_definitions.proofs.arrays.elements_by_number.Goals as goal

pub returns : goal.returns
unfolding run execute evaluate call wrap apply slots_of
returns c = record {
  rise = refl;
  ninth_and_fifth = refl;
  first_position = refl;
  second_position = refl;
  between = refl;
  below_0 = refl;
}
