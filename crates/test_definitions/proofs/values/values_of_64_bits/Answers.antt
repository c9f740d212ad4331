use Rattle.std.proofs.Common.{refl}
use Rattle.edd_syntax.specs.TwosComplement.{operate, wrap}
use Rattle.test_definitions.proofs.values.values_of_64_bits.Goals as goal

pub returns : goal.returns
unfolding operate wrap
returns c = record {
  rounds_toward_0 = refl;
  sum = refl;
  sum_past_32_bits = refl;
  last_shift = refl;
  shift_too_far = refl;
  negative_shift = refl;
  least_by_minus_1 = refl;
  remainder_of_the_least = refl;
}
