use Rattle.edd_token_reader.specs.TokenTexts.{tokens_in}
use Rattle.edd_parser.proofs.Parsed.{answered_unit, answered_none, answered_only}
use Rattle.edd_parser.proofs.parser.parse.Goals as goal

pub returns-clause-sound : goal.returns-clause-sound
returns-clause-sound c = answered_unit (tokens_in c.args.text.now c.args.tokens.now) c.read.result
    c.read.ensures

pub returns-clause-refused : goal.returns-clause-refused
returns-clause-refused c = answered_none (tokens_in c.args.text.now c.args.tokens.now) c.read.result
    c.read.ensures

pub returns-clause-complete : goal.returns-clause-complete
returns-clause-complete c = answered_only (tokens_in c.args.text.now c.args.tokens.now)
    c.read.result c.read.ensures
