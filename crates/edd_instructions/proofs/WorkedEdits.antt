-- Each edit of a worked image breaks just the rule that it is to break, and none before it.
use Rattle.std.proofs.Common.{◌≡◌, ◌<◌, ◌≤◌, true, false, take, slice_set, refl, arith}
use Rattle.std.specs.Prelude.{◌==◌, if◌then◌else◌}
use Rattle.std.specs.Str.{is_utf8, chars}
use Rattle.std.specs.Char.{encode_utf8}
use Rattle.edd_instructions.specs.declared.rules.Rule.{Rule}
use Rattle.edd_instructions.specs.declared.rules.Rule.TheVariants as rule
use Rattle.edd_instructions.specs.declared.rules.UnitRule.TheVariants as unit_rule
use Rattle.edd_image.specs.Front.{byte_from, number_from}
use Rattle.edd_instructions.specs.Decoding.{signed_from, item_from, basic_from, unary_of, jump_from, record_from, entry_from, instruction_from, instruction_at}
use Rattle.edd_instructions.specs.Units.{instructions, instructions_from}
use Rattle.edd_image.specs.Fields.{number_at, variable_rows_start, name_rows_start, attribute_rows_start, element_rows_start, code_start, string_rows_start, name_bytes_start, string_bytes_start, sections_end}
use Rattle.edd_image.specs.Contents.{rows_from, contents_in}
use Rattle.edd_image.specs.Strings.{string_in, variants_from}
use Rattle.edd_instructions.specs.Validity.{Keeps, BreaksFirst, fault_number}
use Rattle.edd_instructions.specs.Worked.{loop_image, with_code, label_image}

reached : true ≡ false → ⊥
reached e = cc

reached_not : false ≡ true → ⊥
reached_not e = cc

pub first_55_short : BreaksFirst (take 55 loop_image) rule.Short
unfolding contents_in rows_from number_at variable_rows_start name_rows_start attribute_rows_start
    element_rows_start code_start
    string_rows_start name_bytes_start string_bytes_start sections_end string_in variants_from
    is_utf8 chars encode_utf8 instructions instructions_from instruction_at instruction_from
    basic_from unary_of jump_from record_from entry_from byte_from number_from signed_from item_from
first_55_short = (earlier, λ h. cc)
  where
    earlier : (e : Rule) → fault_number e < 101 → Keeps (take 55 loop_image) e
    earlier rule.Short h = absurd (omega arith)
    earlier rule.Magic h = absurd (omega arith)
    earlier rule.Version h = absurd (omega arith)
    earlier rule.Length h = absurd (omega arith)
    earlier rule.Row h = absurd (omega arith)
    earlier rule.Name h = absurd (omega arith)
    earlier rule.Text h = absurd (omega arith)
    earlier (rule.Unit unit_rule.Chain) h = absurd (omega arith)
    earlier (rule.Unit unit_rule.Jump) h = absurd (omega arith)
    earlier (rule.Unit unit_rule.Depth) h = absurd (omega arith)
    earlier (rule.Unit unit_rule.Reference) h = absurd (omega arith)

pub first_85_length : BreaksFirst (take 85 loop_image) rule.Length
unfolding contents_in rows_from number_at variable_rows_start name_rows_start attribute_rows_start
    element_rows_start code_start
    string_rows_start name_bytes_start string_bytes_start sections_end string_in variants_from
    is_utf8 chars encode_utf8 instructions instructions_from instruction_at instruction_from
    basic_from unary_of jump_from record_from entry_from byte_from number_from signed_from item_from
first_85_length = (earlier, λ h. cc)
  where
    earlier : (e : Rule) → fault_number e < 104 → Keeps (take 85 loop_image) e
    earlier rule.Short h = refl
    earlier rule.Magic h = refl
    earlier rule.Version h = refl
    earlier rule.Length h = absurd (omega arith)
    earlier rule.Row h = absurd (omega arith)
    earlier rule.Name h = absurd (omega arith)
    earlier rule.Text h = absurd (omega arith)
    earlier (rule.Unit unit_rule.Chain) h = absurd (omega arith)
    earlier (rule.Unit unit_rule.Jump) h = absurd (omega arith)
    earlier (rule.Unit unit_rule.Depth) h = absurd (omega arith)
    earlier (rule.Unit unit_rule.Reference) h = absurd (omega arith)

pub other_magic : BreaksFirst (slice_set loop_image 0 0x00) rule.Magic
unfolding contents_in rows_from number_at variable_rows_start name_rows_start attribute_rows_start
    element_rows_start code_start
    string_rows_start name_bytes_start string_bytes_start sections_end string_in variants_from
    is_utf8 chars encode_utf8 instructions instructions_from instruction_at instruction_from
    basic_from unary_of jump_from record_from entry_from byte_from number_from signed_from item_from
other_magic = (earlier, λ h. cc)
  where
    earlier : (e : Rule) → fault_number e < 102 → Keeps (slice_set loop_image 0 0x00) e
    earlier rule.Short h = refl
    earlier rule.Magic h = absurd (omega arith)
    earlier rule.Version h = absurd (omega arith)
    earlier rule.Length h = absurd (omega arith)
    earlier rule.Row h = absurd (omega arith)
    earlier rule.Name h = absurd (omega arith)
    earlier rule.Text h = absurd (omega arith)
    earlier (rule.Unit unit_rule.Chain) h = absurd (omega arith)
    earlier (rule.Unit unit_rule.Jump) h = absurd (omega arith)
    earlier (rule.Unit unit_rule.Depth) h = absurd (omega arith)
    earlier (rule.Unit unit_rule.Reference) h = absurd (omega arith)

pub other_version : BreaksFirst (slice_set loop_image 5 0x03) rule.Version
unfolding contents_in rows_from number_at variable_rows_start name_rows_start attribute_rows_start
    element_rows_start code_start
    string_rows_start name_bytes_start string_bytes_start sections_end string_in variants_from
    is_utf8 chars encode_utf8 instructions instructions_from instruction_at instruction_from
    basic_from unary_of jump_from record_from entry_from byte_from number_from signed_from item_from
other_version = (earlier, λ h. cc)
  where
    earlier : (e : Rule) → fault_number e < 103 → Keeps (slice_set loop_image 5 0x03) e
    earlier rule.Short h = refl
    earlier rule.Magic h = refl
    earlier rule.Version h = absurd (omega arith)
    earlier rule.Length h = absurd (omega arith)
    earlier rule.Row h = absurd (omega arith)
    earlier rule.Name h = absurd (omega arith)
    earlier rule.Text h = absurd (omega arith)
    earlier (rule.Unit unit_rule.Chain) h = absurd (omega arith)
    earlier (rule.Unit unit_rule.Jump) h = absurd (omega arith)
    earlier (rule.Unit unit_rule.Depth) h = absurd (omega arith)
    earlier (rule.Unit unit_rule.Reference) h = absurd (omega arith)

pub unknown_kind : BreaksFirst (slice_set loop_image 64 0x09) rule.Row
unfolding contents_in rows_from number_at variable_rows_start name_rows_start attribute_rows_start
    element_rows_start code_start
    string_rows_start name_bytes_start string_bytes_start sections_end string_in variants_from
    is_utf8 chars encode_utf8 instructions instructions_from instruction_at instruction_from
    basic_from unary_of jump_from record_from entry_from byte_from number_from signed_from item_from
unknown_kind = (earlier, λ h. cc)
  where
    earlier : (e : Rule) → fault_number e < 105 → Keeps (slice_set loop_image 64 0x09) e
    earlier rule.Short h = refl
    earlier rule.Magic h = refl
    earlier rule.Version h = refl
    earlier rule.Length h = refl
    earlier rule.Row h = absurd (omega arith)
    earlier rule.Name h = absurd (omega arith)
    earlier rule.Text h = absurd (omega arith)
    earlier (rule.Unit unit_rule.Chain) h = absurd (omega arith)
    earlier (rule.Unit unit_rule.Jump) h = absurd (omega arith)
    earlier (rule.Unit unit_rule.Depth) h = absurd (omega arith)
    earlier (rule.Unit unit_rule.Reference) h = absurd (omega arith)

pub blank_name : BreaksFirst (slice_set loop_image 85 0x20) rule.Name
unfolding contents_in rows_from number_at variable_rows_start name_rows_start attribute_rows_start
    element_rows_start code_start
    string_rows_start name_bytes_start string_bytes_start sections_end string_in variants_from
    is_utf8 chars encode_utf8 instructions instructions_from instruction_at instruction_from
    basic_from unary_of jump_from record_from entry_from byte_from number_from signed_from item_from
blank_name = (earlier, λ h. cc)
  where
    earlier : (e : Rule) → fault_number e < 106 → Keeps (slice_set loop_image 85 0x20) e
    earlier rule.Short h = refl
    earlier rule.Magic h = refl
    earlier rule.Version h = refl
    earlier rule.Length h = refl
    earlier rule.Row h = refl
    earlier rule.Name h = absurd (omega arith)
    earlier rule.Text h = absurd (omega arith)
    earlier (rule.Unit unit_rule.Chain) h = absurd (omega arith)
    earlier (rule.Unit unit_rule.Jump) h = absurd (omega arith)
    earlier (rule.Unit unit_rule.Depth) h = absurd (omega arith)
    earlier (rule.Unit unit_rule.Reference) h = absurd (omega arith)

pub unknown_tag : BreaksFirst (slice_set label_image 97 0x02) rule.Text
unfolding contents_in rows_from number_at variable_rows_start name_rows_start attribute_rows_start
    element_rows_start code_start
    string_rows_start name_bytes_start string_bytes_start sections_end string_in variants_from
    is_utf8 chars encode_utf8 instructions instructions_from instruction_at instruction_from
    basic_from unary_of jump_from record_from entry_from byte_from number_from signed_from item_from
unknown_tag = (earlier, λ h. cc)
  where
    earlier : (e : Rule) → fault_number e < 107 → Keeps (slice_set label_image 97 0x02) e
    earlier rule.Short h = refl
    earlier rule.Magic h = refl
    earlier rule.Version h = refl
    earlier rule.Length h = refl
    earlier rule.Row h = refl
    earlier rule.Name h = refl
    earlier rule.Text h = absurd (omega arith)
    earlier (rule.Unit unit_rule.Chain) h = absurd (omega arith)
    earlier (rule.Unit unit_rule.Jump) h = absurd (omega arith)
    earlier (rule.Unit unit_rule.Depth) h = absurd (omega arith)
    earlier (rule.Unit unit_rule.Reference) h = absurd (omega arith)

pub unknown_instruction : BreaksFirst (slice_set loop_image 80 0xff) (rule.Unit unit_rule.Chain)
unfolding contents_in rows_from number_at variable_rows_start name_rows_start attribute_rows_start
    element_rows_start code_start
    string_rows_start name_bytes_start string_bytes_start sections_end string_in variants_from
    is_utf8 chars encode_utf8 instructions instructions_from instruction_at instruction_from
    basic_from unary_of jump_from record_from entry_from byte_from number_from signed_from item_from
unknown_instruction = (earlier, λ h. reached_not h.0)
  where
    earlier : (e : Rule) → fault_number e < 108 → Keeps (slice_set loop_image 80 0xff) e
    earlier rule.Short h = refl
    earlier rule.Magic h = refl
    earlier rule.Version h = refl
    earlier rule.Length h = refl
    earlier rule.Row h = refl
    earlier rule.Name h = refl
    earlier rule.Text h = refl
    earlier (rule.Unit unit_rule.Chain) h = absurd (omega arith)
    earlier (rule.Unit unit_rule.Jump) h = absurd (omega arith)
    earlier (rule.Unit unit_rule.Depth) h = absurd (omega arith)
    earlier (rule.Unit unit_rule.Reference) h = absurd (omega arith)

pub jump_between : BreaksFirst (slice_set loop_image 84 0x01) (rule.Unit unit_rule.Jump)
unfolding contents_in rows_from number_at variable_rows_start name_rows_start attribute_rows_start
    element_rows_start code_start
    string_rows_start name_bytes_start string_bytes_start sections_end string_in variants_from
    is_utf8 chars encode_utf8 instructions instructions_from instruction_at instruction_from
    basic_from unary_of jump_from record_from entry_from byte_from number_from signed_from item_from
jump_between = (earlier, λ h. reached_not h.0)
  where
    earlier : (e : Rule) → fault_number e < 109 → Keeps (slice_set loop_image 84 0x01) e
    earlier rule.Short h = refl
    earlier rule.Magic h = refl
    earlier rule.Version h = refl
    earlier rule.Length h = refl
    earlier rule.Row h = refl
    earlier rule.Name h = refl
    earlier rule.Text h = refl
    earlier (rule.Unit unit_rule.Chain) h = (refl, tt)
    earlier (rule.Unit unit_rule.Jump) h = absurd (omega arith)
    earlier (rule.Unit unit_rule.Depth) h = absurd (omega arith)
    earlier (rule.Unit unit_rule.Reference) h = absurd (omega arith)

pub attribute_loops : BreaksFirst (slice_set loop_image 65 0x06) (rule.Unit unit_rule.Jump)
unfolding contents_in rows_from number_at variable_rows_start name_rows_start attribute_rows_start
    element_rows_start code_start
    string_rows_start name_bytes_start string_bytes_start sections_end string_in variants_from
    is_utf8 chars encode_utf8 instructions instructions_from instruction_at instruction_from
    basic_from unary_of jump_from record_from entry_from byte_from number_from signed_from item_from
attribute_loops = (earlier, λ h. reached_not h.0)
  where
    earlier : (e : Rule) → fault_number e < 109 → Keeps (slice_set loop_image 65 0x06) e
    earlier rule.Short h = refl
    earlier rule.Magic h = refl
    earlier rule.Version h = refl
    earlier rule.Length h = refl
    earlier rule.Row h = refl
    earlier rule.Name h = refl
    earlier rule.Text h = refl
    earlier (rule.Unit unit_rule.Chain) h = (refl, tt)
    earlier (rule.Unit unit_rule.Jump) h = absurd (omega arith)
    earlier (rule.Unit unit_rule.Depth) h = absurd (omega arith)
    earlier (rule.Unit unit_rule.Reference) h = absurd (omega arith)

pub pop_of_nothing : BreaksFirst (with_code 0x06 0x00 0x00 0x00 0x00) (rule.Unit unit_rule.Depth)
unfolding contents_in rows_from number_at variable_rows_start name_rows_start attribute_rows_start
    element_rows_start code_start
    string_rows_start name_bytes_start string_bytes_start sections_end string_in variants_from
    is_utf8 chars encode_utf8 instructions instructions_from instruction_at instruction_from
    basic_from unary_of jump_from record_from entry_from byte_from number_from signed_from item_from
pop_of_nothing = (
  earlier,
  λ h. let some : 1 ≤ h.0.0 0 = h.0.1.enough.0 in let none : h.0.0 0
      ≡ 0 = h.0.1.fresh.0 (
        λ h. absurd (omega arith),
        (
          λ h. absurd (omega arith),
          (λ h. absurd (omega arith), (λ h. absurd (omega arith), (λ h. absurd (omega arith), tt))),
        ),
      )
      in absurd (omega arith),
)
  where
    earlier : (e : Rule) → fault_number e < 110 → Keeps (with_code 0x06 0x00 0x00 0x00 0x00) e
    earlier rule.Short h = refl
    earlier rule.Magic h = refl
    earlier rule.Version h = refl
    earlier rule.Length h = refl
    earlier rule.Row h = refl
    earlier rule.Name h = refl
    earlier rule.Text h = refl
    earlier (rule.Unit unit_rule.Depth) h = absurd (omega arith)
    earlier (rule.Unit unit_rule.Reference) h = absurd (omega arith)
    earlier (rule.Unit _) h = (refl, tt)

pub duplicate_of_nothing : BreaksFirst (with_code 0x07 0x00 0x00 0x00 0x00)
    (rule.Unit unit_rule.Depth)
unfolding contents_in rows_from number_at variable_rows_start name_rows_start attribute_rows_start
    element_rows_start code_start
    string_rows_start name_bytes_start string_bytes_start sections_end string_in variants_from
    is_utf8 chars encode_utf8 instructions instructions_from instruction_at instruction_from
    basic_from unary_of jump_from record_from entry_from byte_from number_from signed_from item_from
duplicate_of_nothing = (
  earlier,
  λ h. let some : 1 ≤ h.0.0 0 = h.0.1.enough.0 in let none : h.0.0 0
      ≡ 0 = h.0.1.fresh.0 (
        λ h. absurd (omega arith),
        (
          λ h. absurd (omega arith),
          (λ h. absurd (omega arith), (λ h. absurd (omega arith), (λ h. absurd (omega arith), tt))),
        ),
      )
      in absurd (omega arith),
)
  where
    earlier : (e : Rule) → fault_number e < 110 → Keeps (with_code 0x07 0x00 0x00 0x00 0x00) e
    earlier rule.Short h = refl
    earlier rule.Magic h = refl
    earlier rule.Version h = refl
    earlier rule.Length h = refl
    earlier rule.Row h = refl
    earlier rule.Name h = refl
    earlier rule.Text h = refl
    earlier (rule.Unit unit_rule.Depth) h = absurd (omega arith)
    earlier (rule.Unit unit_rule.Reference) h = absurd (omega arith)
    earlier (rule.Unit _) h = (refl, tt)

pub variable_missing : BreaksFirst (with_code 0x02 0x00 0x00 0x06 0x00)
    (rule.Unit unit_rule.Reference)
unfolding contents_in rows_from number_at variable_rows_start name_rows_start attribute_rows_start
    element_rows_start code_start
    string_rows_start name_bytes_start string_bytes_start sections_end string_in variants_from
    is_utf8 chars encode_utf8 instructions instructions_from instruction_at instruction_from
    basic_from unary_of jump_from record_from entry_from byte_from number_from signed_from item_from
variable_missing = (earlier, λ h. reached_not h.0.0)
  where
    earlier : (e : Rule) → fault_number e < 111 → Keeps (with_code 0x02 0x00 0x00 0x06 0x00) e
    earlier rule.Short h = refl
    earlier rule.Magic h = refl
    earlier rule.Version h = refl
    earlier rule.Length h = refl
    earlier rule.Row h = refl
    earlier rule.Name h = refl
    earlier rule.Text h = refl
    earlier (rule.Unit unit_rule.Chain) h = (refl, tt)
    earlier (rule.Unit unit_rule.Jump) h = (refl, tt)
    earlier (rule.Unit unit_rule.Depth) h = (
      (
        λ place. if place == 3 then 1 else 0,
        record {
          enough = (omega arith, (omega arith, (omega arith, tt)));
          bounded = (omega arith, (omega arith, (omega arith, tt)));
          agree =
              ((refl, tt), ((refl, tt), (tt, tt)));
          fresh =
              (λ h. refl, (λ h. absurd (reached (h.0 (omega arith))), (λ h. refl, tt)));
        },
      ),
      tt,
    )
    earlier (rule.Unit unit_rule.Reference) h = absurd (omega arith)
