use Rattle.std.proofs.Common.{◌∙◌, ◌++◌, ap, sym, arith}
use Rattle.std.proofs.Math.Nat.{mod-eq_of_lt}
use Rattle.edd_instructions.specs.declared.instruction.Instruction.TheVariants as instruction
use Rattle.edd_instructions.specs.Spelling.{spelling}
use Rattle.edd_methods.proofs.statements.write_jump.Goals as goal

pub returns : goal.returns
returns c = c.in_ok-put.ensures.code ∙ ap (λ n. c.args.code.now ++ spelling (instruction.Jump n))
    (sym (mod-eq_of_lt (omega arith)))
