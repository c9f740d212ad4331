use Rattle.edd_lexer.proofs.Answered.{answer_tokens, answer_fault, answer_no_tokens, answer_only_tokens, answer_only_fault}
use Rattle.edd_lexer.proofs.lexer.lex.Goals as goal

pub returns-clause-sound : goal.returns-clause-sound
returns-clause-sound c = answer_tokens c.args.text.now c.read.result c.read.ensures.sound

pub returns-clause-refused : goal.returns-clause-refused
returns-clause-refused c = answer_fault c.args.text.now c.read.result c.read.ensures.sound

pub returns-clause-no_tokens : goal.returns-clause-no_tokens
returns-clause-no_tokens c = answer_no_tokens c.args.text.now c.read.result c.read.ensures.sound

pub returns-clause-complete : goal.returns-clause-complete
returns-clause-complete c = answer_only_tokens c.args.text.now c.read.result c.read.ensures.sound

pub returns-clause-only_fault : goal.returns-clause-only_fault
returns-clause-only_fault c = answer_only_fault c.args.text.now c.read.result c.read.ensures.sound
