use Rattle.std.proofs.Common.{ℕ, subst, arith, ap, ◌∙◌, List, [], ◌∷◌, ◌++◌, Option}
use Rattle.edd_syntax.specs.WordsView.{text_bytes}
use Rattle.std.specs.Prelude.{option_map}
use Rattle.std.specs.Option.{option_to_list}
use Rattle.std.proofs.lemmas.Grind.{common_steps}
use Rattle.edd_syntax.specs.declared.text.Text.{Text}
use Rattle.edd_syntax.specs.Words.{Words, words_of, name_words}
use Rattle.edd_syntax.specs.WordsView.{text_of}
use Rattle.edd_syntax.specs.Targets.{item_of}
use Rattle.edd_syntax.specs.declared.numbers.ItemNo.{ItemNo}
use Rattle.edd_instructions.specs.declared.instruction.Instruction.TheVariants as instruction
use Rattle.edd_instructions.specs.Spelling.{spelling}
use Rattle.edd_code.specs.Tables.{Overflows, GrowsBy, Keeps}
use Rattle.edd_code.proofs.Growing.{overflows_head, overflows_tail, overflows_first, overflows_second}
use Rattle.edd_attrs.proofs.Written.{member_written}
use Rattle.edd_attrs.proofs.elements.MemberTargetElement.write.Goals as goal

abbrev words_or_none : Option Text → List Words
words_or_none o = option_to_list (option_map words_of (option_map text_of o))

pub returns-in_err-name-clause-refused : goal.returns-in_err-name-clause-refused
returns-in_err-name-clause-refused c h =
    let over : Overflows c.args.table.now (name_words (text_bytes c.args.self.now.name) ∷ []) =
    grind (arith, common_steps) in
    overflows_head c.args.table.now (name_words (text_bytes c.args.self.now.name))
    (words_or_none c.args.self.now.label ++ words_or_none c.args.self.now.help) over

pub returns-in_err-label-clause-refused : goal.returns-in_err-label-clause-refused
returns-in_err-label-clause-refused c h =
    let over : Overflows c.add_name.new.table (words_or_none c.args.self.now.label) =
    grind (arith, common_steps) in
    let named : GrowsBy c.args.table.now (name_words (text_bytes c.args.self.now.name) ∷ [])
    c.add_name.new.table = grind (arith, common_steps) in
    overflows_tail c.args.table.now c.add_name.new.table
    (name_words (text_bytes c.args.self.now.name)) (words_or_none c.args.self.now.label
    ++ words_or_none c.args.self.now.help) named
    (overflows_first c.add_name.new.table (words_or_none c.args.self.now.label)
    (words_or_none c.args.self.now.help) over)

pub returns-in_err-help-clause-refused : goal.returns-in_err-help-clause-refused
returns-in_err-help-clause-refused c h =
    let over : Overflows c.add_optional.new.table (words_or_none c.args.self.now.help) =
    grind (arith, common_steps) in
    let named : GrowsBy c.args.table.now (name_words (text_bytes c.args.self.now.name) ∷ [])
    c.add_name.new.table = grind (arith, common_steps) in
    overflows_tail c.args.table.now c.add_name.new.table
    (name_words (text_bytes c.args.self.now.name)) (words_or_none c.args.self.now.label
    ++ words_or_none c.args.self.now.help) named
    (overflows_second c.add_name.new.table (words_or_none c.args.self.now.label)
    c.add_optional.new.table (words_or_none c.args.self.now.help) c.in_ok-label.ensures.table
    over)

pub returns-clause-sound : goal.returns-clause-sound
returns-clause-sound c =
    let named : GrowsBy c.args.table.now (name_words (text_bytes c.args.self.now.name) ∷ [])
    c.add_name.new.table = grind (arith, common_steps) in
    let keeps : Keeps c.add_name.new.table (name_words (text_bytes c.args.self.now.name))
    c.in_ok-name.name = subst (λ (bytes : List ℕ). Keeps c.add_name.new.table (name_words bytes)
    c.in_ok-name.name) c.as_str.ensures c.in_ok-name.ensures.number in
    member_written c.args.code.now (item_of c.args.self.now.item) (option_map words_of (option_map
    text_of c.args.self.now.label)) (option_map words_of (option_map text_of c.args.self.now.help))
    c.in_ok-name.name c.in_ok-label.label c.in_ok-help.help named keeps c.in_ok-label.ensures.table
    c.in_ok-label.ensures.number c.in_ok-help.ensures.table c.in_ok-help.ensures.number
    (c.in_ok-put.ensures.code ∙ ap (λ (i : ItemNo). c.args.code.now ++ spelling (instruction.Member
    c.in_ok-name.name i c.in_ok-label.label c.in_ok-help.help)) c.item_of.ensures)
