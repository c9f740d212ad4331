use Rattle.std.proofs.Common.{refl}
use Rattle.test_definitions.proofs.numbers.record_numbers.Goals as goal

pub returns : goal.returns
returns c = record {
  success = refl;
  misc_warning = refl;
  data_entry_warning = refl;
  data_entry_error = refl;
  mode_error = refl;
  process_error = refl;
  misc_error = refl;
  handling_read = refl;
  handling_write = refl;
  handling_both = refl;
  operation_read = refl;
  operation_write = refl;
  operation_command = refl;
  display_value = refl;
  read_only = refl;
  hidden = refl;
  review = refl;
  info = refl;
  index = refl;
}
