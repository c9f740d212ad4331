use Rattle.std.proofs.Common.{◌∙◌, sym, rules}
use Rattle.edd_lexer.proofs.Steps.{lone_dot}
use Rattle.edd_lexer.proofs.lexer.longer_step.Goals as goal

pub returns-in_default-first-clause-read : goal.returns-in_default-first-clause-read
returns-in_default-first-clause-read c = lone_dot c.args.fresh c.args.text.now c.requires.longer
    (sym c.begins_number.ensures ∙ c.if-begins_number.false) (search rules) (search rules)
    (search rules)
