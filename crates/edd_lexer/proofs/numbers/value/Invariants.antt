use Rattle.std.proofs.Common.{◌≡◌, drop}
use Rattle.edd_lexer.specs.Numbers.{number}
use Rattle.edd_lexer.proofs.numbers.value.Given as goal

abbrev pub invariant-loop-b : goal.invariant-loop-b
invariant-loop-b l = number l.base l.n (drop l.b-index l.digits) ≡ number l.base 0 l.digits
