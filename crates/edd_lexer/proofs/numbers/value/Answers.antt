use Rattle.std.proofs.Common.{ℕ, ◌<◌, subst, arith}
use Rattle.edd_lexer.proofs.Values.{number_over}
use Rattle.edd_lexer.proofs.numbers.value.Goals as goal

pub returns-then-next-gt4294967295 : goal.returns-then-next-gt4294967295
returns-then-next-gt4294967295 c =
    subst (λ (k : ℕ). 4294967295 < k) c.loop-b.invariant
    (number_over c.args.base c.loop-b.n c.loop-b.b-index 4294967295 c.args.digits.now
    c.requires.some (omega arith) (omega (arith, c.digit_value.ensures)))
