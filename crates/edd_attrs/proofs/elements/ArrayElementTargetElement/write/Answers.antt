use Rattle.std.proofs.Common.{arith, ap, ◌∙◌, List, ◌++◌, Option}
use Rattle.std.specs.Prelude.{option_map}
use Rattle.std.specs.Option.{option_to_list}
use Rattle.std.proofs.lemmas.Grind.{common_steps}
use Rattle.edd_syntax.specs.declared.text.Text.{Text}
use Rattle.edd_syntax.specs.declared.numbers.VarNo.{VarNo}
use Rattle.edd_syntax.specs.Targets.{variable_of}
use Rattle.edd_syntax.specs.Words.{Words, words_of}
use Rattle.edd_syntax.specs.WordsView.{text_of}
use Rattle.edd_instructions.specs.declared.instruction.Instruction.TheVariants as instruction
use Rattle.edd_instructions.specs.Spelling.{spelling}
use Rattle.edd_code.specs.Tables.{Overflows}
use Rattle.edd_code.proofs.Growing.{overflows_first, overflows_second}
use Rattle.edd_attrs.proofs.Written.{array_element_written}
use Rattle.edd_attrs.proofs.elements.ArrayElementTargetElement.write.Goals as goal

abbrev words_or_none : Option Text → List Words
words_or_none o = option_to_list (option_map words_of (option_map text_of o))

pub returns-in_err-label-clause-refused : goal.returns-in_err-label-clause-refused
returns-in_err-label-clause-refused c h =
    let over : Overflows c.args.table.now (words_or_none c.args.self.now.label) =
    grind (arith, common_steps) in
    overflows_first c.args.table.now (words_or_none c.args.self.now.label)
    (words_or_none c.args.self.now.help) over

pub returns-in_err-help-clause-refused : goal.returns-in_err-help-clause-refused
returns-in_err-help-clause-refused c h =
    let over : Overflows c.add_optional.new.table (words_or_none c.args.self.now.help) =
    grind (arith, common_steps) in
    overflows_second c.args.table.now (words_or_none c.args.self.now.label)
    c.add_optional.new.table (words_or_none c.args.self.now.help) c.in_ok-label.ensures.table over

pub returns-clause-sound : goal.returns-clause-sound
returns-clause-sound c =
    array_element_written c.args.code.now c.args.self.now.number (variable_of
    c.args.self.now.variable) (option_map words_of (option_map text_of c.args.self.now.label))
    (option_map words_of (option_map text_of c.args.self.now.help)) c.in_ok-label.label
    c.in_ok-help.help c.in_ok-label.ensures.table c.in_ok-label.ensures.number
    c.in_ok-help.ensures.table c.in_ok-help.ensures.number (c.in_ok-put.ensures.code
    ∙ ap (λ (v : VarNo). c.args.code.now ++ spelling (instruction.Element c.args.self.now.number v
    c.in_ok-label.label c.in_ok-help.help)) c.variable_of.ensures)
