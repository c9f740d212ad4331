use Rattle.std.proofs.Common.{refl}
use Rattle.edd_image.specs.Front.{byte_from, number_from}
use Rattle.edd_instructions.specs.Decoding.{ask_from, ask_of, instruction_at, instruction_from}
use Rattle.test_definitions.proofs.instructions.request_bytes.Goals as goal

pub returns : goal.returns
unfolding instruction_at instruction_from ask_from ask_of byte_from number_from
returns c = record {
  put_message = (refl, refl);
  acknowledge = (refl, refl);
  delay = (refl, refl);
  get_dev_var_value = (refl, refl);
  select_from_list = (refl, refl);
  send_command = (refl, refl);
  send_command_trans = (refl, refl);
  save_values = (refl, refl);
}
