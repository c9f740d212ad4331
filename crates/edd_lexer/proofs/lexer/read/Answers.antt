use Rattle.std.proofs.Common.{arith, subst, sym, ◌∙◌}
use Rattle.std.specs.Str.{IsValidUpTo}
use Rattle.edd_lexer.specs.Faults.{too_long, not_utf8}
use Rattle.edd_lexer.proofs.Answered.{given}
use Rattle.edd_lexer.proofs.FaultLines.{last_is}
use Rattle.edd_lexer.proofs.lexer.read.Goals as goal

pub returns-then-text-gt1048576-clause-sound : goal.returns-then-text-gt1048576-clause-sound
returns-then-text-gt1048576-clause-sound c = too_long c.if-text-gt1048576.true

pub returns-in-Err-clause-sound : goal.returns-in-Err-clause-sound
returns-in-Err-clause-sound c = not_utf8 c.if-text-gt1048576.false c.in-Err.ensures.cases.0

pub returns-clause-sound : goal.returns-clause-sound
returns-clause-sound c = given c.args.text.now c.tokens.result c.if-text-gt1048576.false
    c.in_default.ensures.cases.1 c.tokens.ensures.sound

pub returns-in-Err-clause-fault_lines : goal.returns-in-Err-clause-fault_lines
returns-in-Err-clause-fault_lines c =
    let text = c.args.text.now in
    let number = c.valid_up_to.result in (
      number,
      subst (IsValidUpTo text) (sym c.valid_up_to.ensures) c.in-Err.ensures.cases.1,
      c.last_line-line.ensures ∙ last_is text number
          (let few = c.if-text-gt1048576.false in omega (arith, few)),
    )
