use Rattle.edd_lexer.proofs.Steps.{behind_word, long_word, short_word}
use Rattle.edd_lexer.proofs.LineCounts.{other_ends}
use Rattle.edd_lexer.proofs.lexer.word_at.Goals as goal

pub returns-then-length-gt255-clause-read : goal.returns-then-length-gt255-clause-read
returns-then-length-gt255-clause-read c = long_word c.args.text.now c.behind_name-rest.result.now
    (behind_word c.args.text.now c.behind_byte.result.now _ c.requires.here c.behind_byte.ensures
    c.behind_name-rest.ensures.rest) c.if-length-gt255.true

pub returns-clause-read : goal.returns-clause-read
returns-clause-read c = short_word c.args.text.now c.behind_name-rest.result.now _
    (behind_word c.args.text.now c.behind_byte.result.now _ c.requires.here c.behind_byte.ensures
    c.behind_name-rest.ensures.rest) c.if-length-gt255.false c.word_kind.ensures.sound

pub returns-clause-counts : goal.returns-clause-counts
returns-clause-counts c = other_ends c.word_kind.result c.args.text.now
    c.behind_name-rest.result.now c.word_kind.ensures.word
