use Rattle.std.proofs.Common.{refl}
use Rattle.edd_syntax.specs.TwosComplement.{apply, wrap}
use Rattle.test_definitions.proofs.values.unary_values.Goals as goal

pub returns : goal.returns
unfolding apply wrap
returns c = record {
  minus = refl;
  minus_of_the_least = refl;
  not_of_0 = refl;
  not_of_5 = refl;
  complement = refl;
  plus = refl;
}
