-- The worked images are the layouts of their parts, and are valid.
use Rattle.std.proofs.Common.{pos, [], ◌∷◌, ◌≡◌, refl, arith}
use Rattle.std.specs.Str.{is_utf8, chars}
use Rattle.std.specs.Char.{encode_utf8}
use Rattle.edd_instructions.specs.declared.rules.Rule.TheVariants as rule
use Rattle.edd_instructions.specs.declared.rules.UnitRule.TheVariants as unit_rule
use Rattle.edd_image.specs.Front.{byte_from, number_from}
use Rattle.edd_instructions.specs.Decoding.{signed_from, item_from, basic_from, unary_of, jump_from, record_from, entry_from, instruction_from, instruction_at}
use Rattle.edd_instructions.specs.Units.{instructions, instructions_from}
use Rattle.edd_image.specs.Fields.{number_at, variable_rows_start, name_rows_start, attribute_rows_start, element_rows_start, code_start, string_rows_start, name_bytes_start, string_bytes_start, sections_end}
use Rattle.edd_image.specs.Contents.{rows_from, contents_in}
use Rattle.edd_image.specs.Strings.{string_in, variants_from}
use Rattle.edd_instructions.specs.Validity.{IsValid}
use Rattle.edd_instructions.specs.declared.records.Record.TheVariants as records
use Rattle.edd_instructions.specs.Steps.{act, step}
use Rattle.edd_instructions.specs.Reading.{IsReading, Records, NoItem, given_within}
use Rattle.edd_image.specs.Layout.{magic, identification, counts, lengths, extension, header, layout}
use Rattle.edd_instructions.specs.Worked.{empty_parts, empty_image, loop_parts, loop_image, label_parts, label_image, label_of, handling_of}

pub empty_layout : layout empty_parts ≡ empty_image
unfolding layout header magic identification counts lengths extension
empty_layout = refl

pub loop_layout : layout loop_parts ≡ loop_image
unfolding layout header magic identification counts lengths extension
loop_layout = refl

pub label_layout : layout label_parts ≡ label_image
unfolding layout header magic identification counts lengths extension
label_layout = refl

pub empty_valid : IsValid empty_image
unfolding contents_in rows_from number_at variable_rows_start name_rows_start attribute_rows_start
    element_rows_start code_start
    string_rows_start name_bytes_start string_bytes_start sections_end string_in variants_from
    is_utf8 chars encode_utf8 instructions instructions_from instruction_at instruction_from
    basic_from unary_of jump_from record_from entry_from byte_from number_from signed_from item_from
empty_valid rule.Short = refl
empty_valid rule.Magic = refl
empty_valid rule.Version = refl
empty_valid rule.Length = refl
empty_valid rule.Row = refl
empty_valid rule.Name = refl
empty_valid rule.Text = refl
empty_valid (rule.Unit unit_rule.Reference) = (tt, refl)
empty_valid (rule.Unit _) = tt

pub loop_valid : IsValid loop_image
unfolding contents_in rows_from number_at variable_rows_start name_rows_start attribute_rows_start
    element_rows_start code_start
    string_rows_start name_bytes_start string_bytes_start sections_end string_in variants_from
    is_utf8 chars encode_utf8 instructions instructions_from instruction_at instruction_from
    basic_from unary_of jump_from record_from entry_from byte_from number_from signed_from item_from
loop_valid rule.Short = refl
loop_valid rule.Magic = refl
loop_valid rule.Version = refl
loop_valid rule.Length = refl
loop_valid rule.Row = refl
loop_valid rule.Name = refl
loop_valid rule.Text = refl
loop_valid (rule.Unit unit_rule.Chain) = (refl, tt)
loop_valid (rule.Unit unit_rule.Jump) = (refl, tt)
loop_valid (rule.Unit unit_rule.Depth) = (
  (
    λ place. 0,
    record {
      enough = (omega arith, tt);
      bounded = (omega arith, tt);
      agree = ((refl, tt), tt);
      fresh = (λ h. refl, tt);
    },
  ),
  tt,
)
loop_valid (rule.Unit unit_rule.Reference) = ((refl, tt), refl)

pub label_valid : IsValid label_image
unfolding contents_in rows_from number_at variable_rows_start name_rows_start attribute_rows_start
    element_rows_start code_start
    string_rows_start name_bytes_start string_bytes_start sections_end string_in variants_from
    is_utf8 chars encode_utf8 instructions instructions_from instruction_at instruction_from
    basic_from unary_of jump_from record_from entry_from byte_from number_from signed_from item_from
label_valid rule.Short = refl
label_valid rule.Magic = refl
label_valid rule.Version = refl
label_valid rule.Length = refl
label_valid rule.Row = refl
label_valid rule.Name = refl
label_valid rule.Text = refl
label_valid (rule.Unit unit_rule.Chain) = (refl, tt)
label_valid (rule.Unit unit_rule.Jump) = (refl, tt)
label_valid (rule.Unit unit_rule.Depth) = (
  (
    λ place. 0,
    record {
      enough = (omega arith, (omega arith, tt));
      bounded = (omega arith, (omega arith, tt));
      agree = ((refl, tt), (tt, tt));
      fresh =
          (λ h. refl, (λ h. refl, tt));
    },
  ),
  tt,
)
label_valid (rule.Unit unit_rule.Reference) = ((refl, tt), refl)

-- ---- what is read of the variable

pub label_read : IsReading label_image (label_of 0) (pos 0 ∷ [])
    (Records (records.Words (record { 0 = 0 }) ∷ []))
unfolding contents_in rows_from number_at variable_rows_start name_rows_start attribute_rows_start
    element_rows_start code_start
    string_rows_start name_bytes_start string_bytes_start sections_end instruction_at
    instruction_from basic_from record_from number_from act step given_within
label_read = (2, refl)

pub handling_read : IsReading label_image (handling_of 0) (pos 0 ∷ [])
    (Records (records.Number (pos 3) ∷ []))
unfolding contents_in rows_from number_at variable_rows_start name_rows_start attribute_rows_start
    element_rows_start code_start
    string_rows_start name_bytes_start string_bytes_start sections_end instruction_at
    instruction_from basic_from record_from number_from act step given_within
handling_read = (2, refl)

pub missing_read : IsReading label_image (label_of 1) (pos 0 ∷ []) NoItem
unfolding contents_in rows_from number_at variable_rows_start name_rows_start attribute_rows_start
    element_rows_start code_start
    string_rows_start name_bytes_start string_bytes_start sections_end instruction_at
    instruction_from basic_from record_from number_from act step given_within
missing_read = (2, refl)
