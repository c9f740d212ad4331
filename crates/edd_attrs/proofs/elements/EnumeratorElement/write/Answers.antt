use Rattle.std.proofs.Common.{arith, ap, ◌∙◌, List, [], ◌∷◌, ◌++◌}
use Rattle.std.specs.Prelude.{option_map}
use Rattle.std.specs.Option.{option_to_list}
use Rattle.std.proofs.lemmas.Grind.{common_steps}
use Rattle.edd_syntax.specs.Words.{Words, words_of}
use Rattle.edd_syntax.specs.WordsView.{text_of}
use Rattle.edd_instructions.specs.declared.instruction.Instruction.{Instruction}
use Rattle.edd_instructions.specs.Spelling.{spelling}
use Rattle.edd_code.specs.Tables.{Overflows}
use Rattle.edd_code.proofs.Growing.{grows_on, overflows_head, overflows_tail}
use Rattle.edd_attrs.proofs.Written.{enumerator_written}
use Rattle.edd_attrs.proofs.elements.EnumeratorElement.write.Goals as goal

pub returns-in_err-text-clause-refused : goal.returns-in_err-text-clause-refused
returns-in_err-text-clause-refused c h =
    let over : Overflows c.args.table.now (words_of (text_of c.args.self.now.text) ∷ []) =
    grind (arith, common_steps) in
    overflows_head c.args.table.now (words_of (text_of c.args.self.now.text))
    (option_to_list (option_map words_of (option_map text_of c.args.self.now.help))) over

pub returns-in_err-help-clause-refused : goal.returns-in_err-help-clause-refused
returns-in_err-help-clause-refused c h =
    let helps : List Words =
    option_to_list (option_map words_of (option_map text_of c.args.self.now.help)) in
    let over : Overflows c.add_text.new.table helps = grind (arith, common_steps) in
    overflows_tail c.args.table.now c.add_text.new.table (words_of (text_of c.args.self.now.text))
    helps c.in_ok-text.ensures.table over

pub returns-in_err-help-clause-grows : goal.returns-in_err-help-clause-grows
returns-in_err-help-clause-grows c = grows_on c.args.table.now c.add_text.new.table
    c.add_optional.new.table c.in_ok-text.ensures.grows c.in_err-help.ensures.grows

pub returns-in_err-put-clause-grows : goal.returns-in_err-put-clause-grows
returns-in_err-put-clause-grows c = grows_on c.args.table.now c.add_text.new.table
    c.add_optional.new.table c.in_ok-text.ensures.grows c.in_ok-help.ensures.grows

pub returns-clause-grows : goal.returns-clause-grows
returns-clause-grows c = grows_on c.args.table.now c.add_text.new.table c.add_optional.new.table
    c.in_ok-text.ensures.grows c.in_ok-help.ensures.grows

pub returns-clause-sound : goal.returns-clause-sound
returns-clause-sound c =
    enumerator_written c.args.code.now c.args.self.now.value
    (option_map words_of (option_map text_of c.args.self.now.help)) c.in_ok-text.text
    c.in_ok-help.help c.in_ok-text.ensures.table c.in_ok-text.ensures.number
    c.in_ok-help.ensures.table c.in_ok-help.ensures.number (c.in_ok-put.ensures.code
    ∙ ap (λ (i : Instruction). c.args.code.now ++ spelling i) c.enumerated.ensures)
