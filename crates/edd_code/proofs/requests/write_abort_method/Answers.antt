use Rattle.std.proofs.Common.{subst, sym, ◌∙◌, map}
use Rattle.edd_syntax.specs.declared.operators.Builtin.TheVariants as builtin
use Rattle.edd_syntax.specs.declared.reference.Target.{Target}
use Rattle.edd_syntax.specs.Expression.{Arguments, arguments_from}
use Rattle.edd_syntax.specs.Strings.{argument_texts}
use Rattle.edd_syntax.specs.TreeView.{numbered_argument}
use Rattle.edd_instructions.specs.declared.instruction.Instruction.TheVariants as instruction
use Rattle.edd_code.specs.Blocks.{Straight}
use Rattle.edd_code.specs.Expressions.{no_value}
use Rattle.edd_code.specs.MethodExpressions.{call_block}
use Rattle.edd_code.specs.Written.{WritesPart}
use Rattle.edd_code.proofs.CallShapes.{only_method_is, no_method}
use Rattle.edd_code.proofs.Carried.{carried}
use Rattle.edd_code.proofs.NumberedBlocks.{plain_part, same_part}
use Rattle.edd_code.proofs.Writing.{one_more}
use Rattle.edd_code.proofs.requests.write_abort_method.Goals as goal

pub returns-in_ok-put-in-Some-clause-sound : goal.returns-in_ok-put-in-Some-clause-sound
unfolding call_block
returns-in_ok-put-in-Some-clause-sound c =
    let is = only_method_is (arguments_from (map numbered_argument c.args.arguments.now))
    (sym c.in-Some.is ∙ c.only_method.ensures) in
    let listing = instruction.AddAbortMethod c.in-Some.method in
    subst (λ (a : Arguments Target). WritesPart c.args.table.now c.args.code.now (argument_texts a)
    (λ number. call_block number builtin.AddAbortMethod a) c.args.table.now c.put.new.code)
    (sym is)
    (plain_part c.args.table.now c.args.code.now c.put.new.code (Straight listing)
    (one_more c.args.code.now c.put.new.code listing c.in_ok-put-in-Some.ensures.code))

pub returns-in-None-clause-sound : goal.returns-in-None-clause-sound
returns-in-None-clause-sound c =
    carried c.write_misfit.result
    (same_part c.args.code.now c.write_misfit.new.code
    (argument_texts (arguments_from (map numbered_argument c.args.arguments.now)))
    (λ number. no_value) (λ number. call_block number builtin.AddAbortMethod
    (arguments_from (map numbered_argument c.args.arguments.now))) (λ number.
    sym (no_method number (arguments_from (map numbered_argument c.args.arguments.now))
    (sym c.in-None.is ∙ c.only_method.ensures)))) c.write_misfit.ensures.sound
