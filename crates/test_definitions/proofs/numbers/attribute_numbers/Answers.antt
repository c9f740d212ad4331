use Rattle.std.proofs.Common.{refl}
use Rattle.test_definitions.proofs.numbers.attribute_numbers.Goals as goal

pub returns : goal.returns
returns c = record {
  label = (refl, refl);
  help = (refl, refl);
  class = (refl, refl);
  handling = (refl, refl);
  constant_unit = (refl, refl);
  validity = (refl, refl);
  default_value = (refl, refl);
  min_value = (refl, refl);
  max_value = (refl, refl);
  display_format = (refl, refl);
  edit_format = (refl, refl);
  enumerators = (refl, refl);
  number = (refl, refl);
  operation = (refl, refl);
  transaction = (refl, refl);
  request = (refl, refl);
  reply = (refl, refl);
  response_codes = (refl, refl);
  items = (refl, refl);
  members = (refl, refl);
  definition = (refl, refl);
  elements = (refl, refl);
}
