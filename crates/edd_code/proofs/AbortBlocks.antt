-- A call that aborts is one instruction.
use Rattle.std.proofs.Common.{◌≡◌, refl, true}
use Rattle.edd_syntax.specs.declared.numbers.StrNo.{StrNo}
use Rattle.edd_syntax.specs.declared.operators.Builtin.{Builtin}
use Rattle.edd_syntax.specs.declared.operators.Builtin.TheVariants as builtin
use Rattle.edd_syntax.specs.declared.reference.Target.TheVariants.{Function}
use Rattle.edd_syntax.specs.Expression.{Call, Nil}
use Rattle.edd_syntax.specs.SubsetRules.{is_abort}
use Rattle.edd_syntax.specs.Words.{Words}
use Rattle.edd_instructions.specs.declared.instruction.Instruction.TheVariants as instruction
use Rattle.edd_code.specs.Blocks.{Straight}
use Rattle.edd_code.specs.MethodExpressions.{method_block, call_block}

pub is_abort_alone : (number : Words → StrNo) (f : Builtin) → is_abort f ≡ true
    → method_block number (Call (Function f) Nil) ≡ Straight instruction.Abort
unfolding method_block call_block
is_abort_alone number builtin.Abort is = refl
is_abort_alone number builtin.ProcessAbort is = refl
is_abort_alone number _ is = absurd cc
