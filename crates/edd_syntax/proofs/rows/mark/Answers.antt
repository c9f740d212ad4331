use Rattle.std.proofs.Common.{◌∙◌, ap, ◌*◌, ◌%◌, ◌^◌}
use Rattle.std.specs.Int.Bits.{bit_or}
use Rattle.edd_syntax.specs.Marks.{is_marked}
use Rattle.edd_syntax.proofs.Marking.{mark_more}
use Rattle.edd_syntax.proofs.rows.mark.Goals as goal

pub returns : goal.returns
returns c = λ a. ap (λ n. is_marked (bit_or c.args.marks (1 * 2 ^ n % 2 ^ 32)) a) c.number.ensures
    ∙ mark_more c.args.marks a c.args.attr
