use Rattle.std.proofs.Common.{◌<◌, length, ◌∙◌, sym, arith}
use Rattle.edd_lexer.proofs.Steps.{lone_digit}
use Rattle.edd_lexer.proofs.lexer.step_here.Goals as goal

pub returns-then-not-begins_sticking-clause-read : goal.returns-then-not-begins_sticking-clause-read
returns-then-not-begins_sticking-clause-read c =
    let some : 0 < length c.args.text.now = (let h = c.in-len1-up.len_at_least in omega arith) in
    rw c.digit_value.ensures (lone_digit c.args.fresh c.args.text.now some
    (sym c.is_ascii_digit.ensures.value ∙ c.if-is_ascii_digit.true)
    (sym c.begins_sticking.ensures ∙ c.if-not-begins_sticking.true))
