use Rattle.std.proofs.Common.{refl}
use Rattle.edd_image.specs.Front.{byte_from, number_from}
use Rattle.edd_instructions.specs.Decoding.{data_from, element_from, entry_from, enumerator_from, instruction_at, instruction_from, item_from, member_from, record_from, response_from, signed_from}
use Rattle.test_definitions.proofs.instructions.record_bytes.Goals as goal

pub returns : goal.returns
unfolding instruction_at instruction_from record_from entry_from data_from enumerator_from
    response_from member_from element_from item_from byte_from number_from signed_from
returns c = record {
  text = (refl, refl);
  number = (refl, refl);
  item_of_a_menu = (refl, refl);
  data_constant = (refl, refl);
  data_variable = (refl, refl);
  enumerator = (refl, refl);
  enumerator_without_help = (refl, refl);
  response = (refl, refl);
  member = (refl, refl);
  member_with_a_help = (refl, refl);
  element = (refl, refl);
  element_with_a_label = (refl, refl);
}
