use Rattle.std.proofs.Common.{refl}
use Rattle.test_definitions.proofs.numbers.type_and_kind_numbers.Goals as goal

pub returns : goal.returns
returns c = record {
  integer = (refl, refl);
  unsigned_integer = (refl, refl);
  enumerated = (refl, refl);
  bit_enumerated = (refl, refl);
  no_other_type = (refl, refl);
  variable = refl;
  command = refl;
  menu = refl;
  collection = refl;
  method = refl;
  array = refl;
}
