-- The worked image whose loop asks and stores is the layout of its parts and valid. The two wrong ones are valid too.
use Rattle.std.proofs.Common.{◌≡◌, refl, ℕ, arith}
use Rattle.std.specs.Prelude.{◌==◌, if◌then◌else◌}
use Rattle.std.specs.Str.{is_utf8, chars}
use Rattle.std.specs.Char.{encode_utf8}
use Rattle.std.proofs.lemmas.Bool.{true≢false}
use Rattle.edd_instructions.specs.declared.rules.Rule.TheVariants as rule
use Rattle.edd_instructions.specs.declared.rules.UnitRule.TheVariants as unit_rule
use Rattle.edd_image.specs.Contents.{contents_in, rows_from}
use Rattle.edd_image.specs.Front.{byte_from, number_from}
use Rattle.edd_instructions.specs.Decoding.{operator_of, comparison_of, unary_of, jump_from, basic_from, ask_of, ask_from, instruction_from, instruction_at}
use Rattle.edd_image.specs.Fields.{number_at, variable_rows_start, name_rows_start, attribute_rows_start, element_rows_start, code_start, string_rows_start, name_bytes_start, string_bytes_start, sections_end}
use Rattle.edd_image.specs.Layout.{magic, identification, counts, lengths, extension, header, layout}
use Rattle.edd_image.specs.Strings.{string_in, variants_from}
use Rattle.edd_instructions.specs.Units.{instructions, instructions_from}
use Rattle.edd_instructions.specs.Validity.{IsValid}
use Rattle.edd_instructions.specs.WorkedMethods.{image_with, asking_parts, asking_image, exchanged_code, unasked_code}

pub asking_layout : layout asking_parts ≡ asking_image
unfolding layout header magic identification counts lengths extension
asking_layout = refl

-- the numbers of operands before its instructions
abbrev asking_depth : ℕ → ℕ
asking_depth place =
    if place == 3 then 1 else
    if place == 8 then 2 else
    if place == 9 then 1 else
    if place == 20 then 1 else
    if place == 24 then 1 else
    if place == 29 then 2 else
    if place == 30 then 1 else
    if place == 33 then 1 else
    if place == 39 then 1 else
    if place == 42 then 1 else
    0

pub asking_valid : IsValid asking_image
unfolding contents_in rows_from number_at variable_rows_start name_rows_start attribute_rows_start element_rows_start code_start string_rows_start name_bytes_start string_bytes_start sections_end string_in variants_from is_utf8 chars encode_utf8 instructions instructions_from instruction_at instruction_from basic_from operator_of comparison_of unary_of jump_from ask_of ask_from byte_from number_from
asking_valid rule.Short = refl
asking_valid rule.Magic = refl
asking_valid rule.Version = refl
asking_valid rule.Length = refl
asking_valid rule.Row = refl
asking_valid rule.Name = refl
asking_valid rule.Text = refl
asking_valid (rule.Unit unit_rule.Chain) = (refl, tt)
asking_valid (rule.Unit unit_rule.Jump) = (refl, tt)
asking_valid (rule.Unit unit_rule.Depth) = (
  (
    asking_depth,
    record {
      enough = (omega arith, (omega arith, (omega arith, (omega arith, (omega arith, (omega arith, (omega arith, (omega arith, (omega arith, (omega arith, (omega arith, (omega arith, (omega arith, (omega arith, (omega arith, (omega arith, tt))))))))))))))));
      bounded = (omega arith, (omega arith, (omega arith, (omega arith, (omega arith, (omega arith, (omega arith, (omega arith, (omega arith, (omega arith, (omega arith, (omega arith, (omega arith, (omega arith, (omega arith, (omega arith, tt))))))))))))))));
      agree = ((refl, tt), ((refl, tt), ((refl, tt), ((refl, (refl, tt)), ((refl, tt), ((refl, tt), ((refl, tt), ((refl, tt), ((refl, tt), ((refl, tt), ((refl, tt), ((refl, tt), ((refl, tt), ((refl, tt), ((refl, tt), (tt, tt))))))))))))))));
      fresh = (λ h. refl, (λ h. absurd (true≢false (h.0 (omega arith))), (λ h. absurd (true≢false (h.1.0 (omega arith))), (λ h. absurd (true≢false (h.1.1.0 (omega arith))), (λ h. refl, (λ h. absurd (true≢false (h.1.1.1.1.0 (omega arith))), (λ h. refl, (λ h. absurd (true≢false (h.1.1.1.1.1.1.0 (omega arith))), (λ h. absurd (true≢false (h.1.1.1.1.1.1.1.0 (omega arith))), (λ h. absurd (true≢false (h.1.1.1.1.1.1.1.1.0 (omega arith))), (λ h. absurd (true≢false (h.1.1.1.1.1.1.1.1.1.0 (omega arith))), (λ h. refl, (λ h. absurd (true≢false (h.1.1.1.1.1.1.1.1.1.1.1.0 (omega arith))), (λ h. absurd (true≢false (h.1.1.1.1.1.1.1.1.1.1.1.1.0 (omega arith))), (λ h. refl, (λ h. refl, tt))))))))))))))));
    },
  ),
  tt,
)
asking_valid (rule.Unit unit_rule.Reference) = ((refl, tt), refl)

-- the numbers of operands before its instructions
abbrev exchanged_depth : ℕ → ℕ
exchanged_depth place =
    if place == 3 then 1 else
    if place == 8 then 2 else
    if place == 9 then 1 else
    if place == 20 then 1 else
    if place == 26 then 1 else
    if place == 29 then 1 else
    if place == 33 then 1 else
    if place == 38 then 2 else
    if place == 39 then 1 else
    if place == 42 then 1 else
    0

pub exchanged_valid : IsValid (image_with exchanged_code)
unfolding contents_in rows_from number_at variable_rows_start name_rows_start attribute_rows_start element_rows_start code_start string_rows_start name_bytes_start string_bytes_start sections_end string_in variants_from is_utf8 chars encode_utf8 instructions instructions_from instruction_at instruction_from basic_from operator_of comparison_of unary_of jump_from ask_of ask_from byte_from number_from
exchanged_valid rule.Short = refl
exchanged_valid rule.Magic = refl
exchanged_valid rule.Version = refl
exchanged_valid rule.Length = refl
exchanged_valid rule.Row = refl
exchanged_valid rule.Name = refl
exchanged_valid rule.Text = refl
exchanged_valid (rule.Unit unit_rule.Chain) = (refl, tt)
exchanged_valid (rule.Unit unit_rule.Jump) = (refl, tt)
exchanged_valid (rule.Unit unit_rule.Depth) = (
  (
    exchanged_depth,
    record {
      enough = (omega arith, (omega arith, (omega arith, (omega arith, (omega arith, (omega arith, (omega arith, (omega arith, (omega arith, (omega arith, (omega arith, (omega arith, (omega arith, (omega arith, (omega arith, (omega arith, tt))))))))))))))));
      bounded = (omega arith, (omega arith, (omega arith, (omega arith, (omega arith, (omega arith, (omega arith, (omega arith, (omega arith, (omega arith, (omega arith, (omega arith, (omega arith, (omega arith, (omega arith, (omega arith, tt))))))))))))))));
      agree = ((refl, tt), ((refl, tt), ((refl, tt), ((refl, (refl, tt)), ((refl, tt), ((refl, tt), ((refl, tt), ((refl, tt), ((refl, tt), ((refl, tt), ((refl, tt), ((refl, tt), ((refl, tt), ((refl, tt), ((refl, tt), (tt, tt))))))))))))))));
      fresh = (λ h. refl, (λ h. absurd (true≢false (h.0 (omega arith))), (λ h. absurd (true≢false (h.1.0 (omega arith))), (λ h. absurd (true≢false (h.1.1.0 (omega arith))), (λ h. refl, (λ h. absurd (true≢false (h.1.1.1.1.0 (omega arith))), (λ h. refl, (λ h. absurd (true≢false (h.1.1.1.1.1.1.0 (omega arith))), (λ h. absurd (true≢false (h.1.1.1.1.1.1.1.0 (omega arith))), (λ h. refl, (λ h. absurd (true≢false (h.1.1.1.1.1.1.1.1.1.0 (omega arith))), (λ h. absurd (true≢false (h.1.1.1.1.1.1.1.1.1.1.0 (omega arith))), (λ h. absurd (true≢false (h.1.1.1.1.1.1.1.1.1.1.1.0 (omega arith))), (λ h. absurd (true≢false (h.1.1.1.1.1.1.1.1.1.1.1.1.0 (omega arith))), (λ h. refl, (λ h. refl, tt))))))))))))))));
    },
  ),
  tt,
)
exchanged_valid (rule.Unit unit_rule.Reference) = ((refl, tt), refl)

-- the numbers of operands before its instructions
abbrev unasked_depth : ℕ → ℕ
unasked_depth place =
    if place == 3 then 1 else
    if place == 8 then 2 else
    if place == 9 then 1 else
    if place == 19 then 1 else
    if place == 20 then 1 else
    if place == 24 then 1 else
    if place == 29 then 2 else
    if place == 30 then 1 else
    if place == 33 then 1 else
    if place == 39 then 1 else
    if place == 42 then 1 else
    0

pub unasked_valid : IsValid (image_with unasked_code)
unfolding contents_in rows_from number_at variable_rows_start name_rows_start attribute_rows_start element_rows_start code_start string_rows_start name_bytes_start string_bytes_start sections_end string_in variants_from is_utf8 chars encode_utf8 instructions instructions_from instruction_at instruction_from basic_from operator_of comparison_of unary_of jump_from ask_of ask_from byte_from number_from
unasked_valid rule.Short = refl
unasked_valid rule.Magic = refl
unasked_valid rule.Version = refl
unasked_valid rule.Length = refl
unasked_valid rule.Row = refl
unasked_valid rule.Name = refl
unasked_valid rule.Text = refl
unasked_valid (rule.Unit unit_rule.Chain) = (refl, tt)
unasked_valid (rule.Unit unit_rule.Jump) = (refl, tt)
unasked_valid (rule.Unit unit_rule.Depth) = (
  (
    unasked_depth,
    record {
      enough = (omega arith, (omega arith, (omega arith, (omega arith, (omega arith, (omega arith, (omega arith, (omega arith, (omega arith, (omega arith, (omega arith, (omega arith, (omega arith, (omega arith, (omega arith, (omega arith, (omega arith, tt)))))))))))))))));
      bounded = (omega arith, (omega arith, (omega arith, (omega arith, (omega arith, (omega arith, (omega arith, (omega arith, (omega arith, (omega arith, (omega arith, (omega arith, (omega arith, (omega arith, (omega arith, (omega arith, (omega arith, tt)))))))))))))))));
      agree = ((refl, tt), ((refl, tt), ((refl, tt), ((refl, (refl, tt)), ((refl, tt), ((refl, tt), ((refl, tt), ((refl, tt), ((refl, tt), ((refl, tt), ((refl, tt), ((refl, tt), ((refl, tt), ((refl, tt), ((refl, tt), ((refl, tt), (tt, tt)))))))))))))))));
      fresh = (λ h. refl, (λ h. absurd (true≢false (h.0 (omega arith))), (λ h. absurd (true≢false (h.1.0 (omega arith))), (λ h. absurd (true≢false (h.1.1.0 (omega arith))), (λ h. refl, (λ h. absurd (true≢false (h.1.1.1.1.0 (omega arith))), (λ h. absurd (true≢false (h.1.1.1.1.1.0 (omega arith))), (λ h. refl, (λ h. absurd (true≢false (h.1.1.1.1.1.1.1.0 (omega arith))), (λ h. absurd (true≢false (h.1.1.1.1.1.1.1.1.0 (omega arith))), (λ h. absurd (true≢false (h.1.1.1.1.1.1.1.1.1.0 (omega arith))), (λ h. absurd (true≢false (h.1.1.1.1.1.1.1.1.1.1.0 (omega arith))), (λ h. refl, (λ h. absurd (true≢false (h.1.1.1.1.1.1.1.1.1.1.1.1.0 (omega arith))), (λ h. absurd (true≢false (h.1.1.1.1.1.1.1.1.1.1.1.1.1.0 (omega arith))), (λ h. refl, (λ h. refl, tt)))))))))))))))));
    },
  ),
  tt,
)
unasked_valid (rule.Unit unit_rule.Reference) = ((refl, tt), refl)
