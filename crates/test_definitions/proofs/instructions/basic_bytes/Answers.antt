use Rattle.std.proofs.Common.{refl}
use Rattle.edd_image.specs.Front.{number_from}
use Rattle.edd_instructions.specs.Decoding.{basic_from, instruction_at, instruction_from}
use Rattle.test_definitions.proofs.instructions.basic_bytes.Goals as goal

pub returns : goal.returns
unfolding instruction_at instruction_from basic_from number_from
returns c = record {
  end = (refl, refl);
  push = (refl, refl);
  variable = (refl, refl);
  store = (refl, refl);
  get_local = (refl, refl);
  set_local = (refl, refl);
  pop = (refl, refl);
  duplicate = (refl, refl);
  read_element = (refl, refl);
}
