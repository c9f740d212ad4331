use Rattle.edd_syntax.specs.Words.{words_of}
use Rattle.edd_syntax.specs.WordsView.{text_of}
use Rattle.edd_attrs.proofs.Written.{text_written}
use Rattle.edd_attrs.proofs.elements.TextElement.write.Goals as goal

pub returns-clause-sound : goal.returns-clause-sound
returns-clause-sound c =
    text_written c.args.table.now c.add_text.new.table c.args.code.now c.put.new.code
    (words_of (text_of c.args.self.now)) c.in_ok-number.number c.in_ok-number.ensures.table
    c.in_ok-number.ensures.number c.in_ok-put.ensures.code
