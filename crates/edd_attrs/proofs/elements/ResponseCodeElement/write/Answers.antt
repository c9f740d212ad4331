use Rattle.std.proofs.Common.{ℕ, ◌∙◌, ap, ◌++◌}
use Rattle.edd_syntax.specs.Words.{words_of}
use Rattle.edd_syntax.specs.WordsView.{text_of}
use Rattle.edd_instructions.specs.declared.instruction.Instruction.TheVariants as instruction
use Rattle.edd_instructions.specs.Spelling.{spelling}
use Rattle.edd_attrs.proofs.Written.{response_written}
use Rattle.edd_attrs.proofs.elements.ResponseCodeElement.write.Goals as goal

pub returns-clause-sound : goal.returns-clause-sound
returns-clause-sound c =
    response_written c.args.code.now c.args.self.now.number c.args.self.now.class c.in_ok-text.text
    c.in_ok-text.ensures.table c.in_ok-text.ensures.number (c.in_ok-put.ensures.code
    ∙ ap (λ (n : ℕ). c.args.code.now ++ spelling
    (instruction.Response c.args.self.now.number n c.in_ok-text.text)) c.class_number.ensures)
