use Rattle.std.proofs.Common.{refl}
use Rattle.edd_instructions.specs.Decoding.{comparison_of, instruction_at, instruction_from, operator_of, unary_of}
use Rattle.test_definitions.proofs.instructions.operator_bytes.Goals as goal

pub returns : goal.returns
unfolding instruction_at instruction_from operator_of comparison_of unary_of
returns c = record {
  add = (refl, refl);
  subtract = (refl, refl);
  multiply = (refl, refl);
  divide = (refl, refl);
  remainder = (refl, refl);
  shift_left = (refl, refl);
  shift_right = (refl, refl);
  and = (refl, refl);
  or = (refl, refl);
  xor = (refl, refl);
  equal = (refl, refl);
  not_equal = (refl, refl);
  less = (refl, refl);
  less_or_equal = (refl, refl);
  greater = (refl, refl);
  greater_or_equal = (refl, refl);
  negate = (refl, refl);
  not = (refl, refl);
  complement = (refl, refl);
}
