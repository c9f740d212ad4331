use Rattle.std.proofs.Common.{◌≡◌, ap, subst, sym, ◌∙◌, Err, map, ◌<◌, ◌≤◌, List, length}
use Rattle.edd_image.specs.Contents.{contents_in}
use Rattle.edd_syntax.specs.declared.words.Words as code
use Rattle.edd_syntax.specs.Words.{Words}
use Rattle.edd_syntax.specs.WordsView.{string_of}
use Rattle.edd_instructions.specs.MethodAgreement.{Agrees}
use Rattle.edd_image.specs.Layout.{sections_of}
use Rattle.edd_instructions.specs.Validity.{IsValid}
use Rattle.edd_assembly.specs.Views.{lowered_of}
use Rattle.edd_code.specs.Units.{description_of}
use Rattle.edd_compiler.proofs.ImageParts.{few_strings}
use Rattle.edd_compiler.proofs.WrittenImages.{handed_on, never_longer, is_valid, agrees}
use Rattle.edd_compiler.proofs.compiling.write_image.Goals as goal

-- the strings that are handed on are few
few : (words : List code.Words) (table : List Words) → map string_of words ≡ table
    → length table ≤ 65535 → length (map string_of words) ≤ 65535
few words table same short = subst (λ (t : List Words). length t ≤ 65535) (sym same) short

pub returns-in-Ok-clause-few_strings : goal.returns-in-Ok-clause-few_strings
returns-in-Ok-clause-few_strings c =
    let d = description_of c.args.checked.now in
    few_strings d c.different_strings_count.ensures.within c.different_strings_count.ensures.itself
    (c.strings_stand_in_rows.ensures.in_rows d c.args.checked.now.checked)
    c.args.lowering.now.table (map lowered_of c.args.lowering.now.units.items)
    c.words-strings.ensures.different c.words-strings.ensures.few c.requires.lowered

pub returns-in-Ok-clause-valid : goal.returns-in-Ok-clause-valid
returns-in-Ok-clause-valid c =
    let d = description_of c.args.checked.now in
    subst IsValid (sym c.in-Ok.ensures.sound)
    (is_valid d c.words-strings.result.now (map lowered_of c.deref.result.now)
    (handed_on d c.words-strings.result.now c.args.lowering.now.units.items c.deref.result.now
    c.requires.lowered c.words-strings.ensures.value c.deref.ensures.value)
    (sections_of c.in_ok-parts.parts) c.in_ok-parts.ensures
    (few c.words-strings.result.now c.args.lowering.now.table c.words-strings.ensures.value
    c.words-strings.ensures.few) c.args.checked.now.checked
    (λ m slots code is. c.method_code_is_body_code.ensures d
    (map string_of c.words-strings.result.now) m slots code c.args.checked.now.checked is)
    (c.code_is_short.ensures d) c.in-Ok.ensures.accepted (c.sections_are_sound.ensures d)
    c.sound_parts_are_valid.ensures)

pub returns-in-Ok-clause-agrees : goal.returns-in-Ok-clause-agrees
returns-in-Ok-clause-agrees c =
    let d = description_of c.args.checked.now in
    subst (λ b. Agrees d (contents_in b)) (sym c.in-Ok.ensures.sound)
    (agrees d c.words-strings.result.now (map lowered_of c.deref.result.now)
    (handed_on d c.words-strings.result.now c.args.lowering.now.units.items c.deref.result.now
    c.requires.lowered c.words-strings.ensures.value c.deref.ensures.value)
    (sections_of c.in_ok-parts.parts) c.in_ok-parts.ensures
    (few c.words-strings.result.now c.args.lowering.now.table c.words-strings.ensures.value
    c.words-strings.ensures.few) c.args.checked.now.checked
    (λ m slots code is. c.method_code_is_body_code.ensures d
    (map string_of c.words-strings.result.now) m slots code c.args.checked.now.checked is)
    c.in-Ok.ensures.accepted (c.sections_agree.ensures d) (c.methods_agree.ensures d)
    c.fields_are_parts.ensures)

pub unreachable-requires : goal.unreachable-requires
unreachable-requires c =
    let d = description_of c.args.checked.now in
    never_longer d c.words-strings.result.now (map lowered_of c.deref.result.now)
    (handed_on d c.words-strings.result.now c.args.lowering.now.units.items c.deref.result.now
    c.requires.lowered c.words-strings.ensures.value c.deref.ensures.value)
    (sections_of c.in_ok-parts.parts) c.in_ok-parts.ensures
    (few c.words-strings.result.now c.args.lowering.now.table c.words-strings.ensures.value
    c.words-strings.ensures.few) c.args.checked.now.checked
    (λ m slots code is. c.method_code_is_body_code.ensures d
    (map string_of c.words-strings.result.now) m slots code c.args.checked.now.checked is)
    (c.code_is_short.ensures d) (subst (λ n. 16777216 < n) c.in_ok-parts.parts.code.ok.0
    (c.write.ensures.refused.0 (c.in-Err-CodeTooLong.is
    ∙ ap Err c.in-Err-CodeTooLong.field-0-is)))
