use Rattle.std.proofs.Common.{arith, map}
use Rattle.edd_syntax.specs.Expression.{arguments_from}
use Rattle.edd_syntax.specs.Strings.{argument_texts}
use Rattle.edd_syntax.specs.TreeView.{numbered_argument}
use Rattle.edd_code.specs.Arguments.{alone_block}
use Rattle.edd_code.specs.Expressions.{no_value}
use Rattle.edd_code.proofs.Carried.{carried}
use Rattle.edd_code.proofs.NumberedBlocks.{alone_part, not_alone, same_part}
use Rattle.edd_code.proofs.requests.write_alone.Goals as goal

pub returns-in_ok-put-in-empty-clause-sound : goal.returns-in_ok-put-in-empty-clause-sound
returns-in_ok-put-in-empty-clause-sound c =
    alone_part numbered_argument c.args.instruction c.args.arguments.now c.args.table.now
    c.args.code.now (omega arith) c.in_ok-put-in-empty.ensures.code

pub returns-in-len1-up-clause-sound : goal.returns-in-len1-up-clause-sound
returns-in-len1-up-clause-sound c =
    carried c.write_misfit.result
    (same_part c.args.code.now c.write_misfit.new.code
    (argument_texts (arguments_from (map numbered_argument c.args.arguments.now)))
    (λ number. no_value)
    (λ number. alone_block c.args.instruction
    (arguments_from (map numbered_argument c.args.arguments.now)))
    (λ number. not_alone numbered_argument c.args.instruction c.args.arguments.now
    (omega arith))) c.write_misfit.ensures.sound
