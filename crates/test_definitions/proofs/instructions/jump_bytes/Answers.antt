use Rattle.std.proofs.Common.{refl}
use Rattle.edd_image.specs.Front.{number_from}
use Rattle.edd_instructions.specs.Decoding.{abort_method_from, instruction_at, instruction_from, jump_from, signed_from}
use Rattle.test_definitions.proofs.instructions.jump_bytes.Goals as goal

pub returns : goal.returns
unfolding instruction_at instruction_from jump_from number_from signed_from abort_method_from
returns c = record {
  jump = (refl, refl);
  jump_if_zero = (refl, refl);
  jump_if_not_zero = (refl, refl);
  case_of_a_label = (refl, refl);
  abort = (refl, refl);
  add_abort_method = (refl, refl);
}
