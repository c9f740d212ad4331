-- What the block of an expression results in, by the value of the expression.
use Rattle.std.specs.Prelude.{ℤ, List, [], ◌∷◌, Result, Ok, Err}
use Rattle.edd_syntax.specs.declared.answer.Trap.{Trap}
use Rattle.edd_code.specs.Outcomes.{Outcome, Goes, Traps}

-- the value on top of the operands, or its trap
abbrev pub of_value : Result ℤ Trap → List ℤ → Outcome
of_value (Ok z) operands = Goes [] (z ∷ operands)
of_value (Err why) operands = Traps why
