use Rattle.std.proofs.Common.{refl}
use Rattle.edd_syntax.specs.TwosComplement.{compare}
use Rattle.test_definitions.proofs.values.comparisons.Goals as goal

pub returns : goal.returns
unfolding compare
returns c = record {
  equal = (refl, refl, refl);
  not_equal = (refl, refl, refl);
  less = (refl, refl, refl);
  less_or_equal = (refl, refl, refl);
  greater = (refl, refl, refl);
  greater_or_equal = (refl, refl, refl);
  of_a_negative = refl;
}
