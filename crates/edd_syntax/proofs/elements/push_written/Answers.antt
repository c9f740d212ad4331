use Rattle.std.proofs.Common.{◌∙◌, ap, ◌++◌, arith}
use Rattle.edd_syntax.proofs.RowLaws.{each_done}
use Rattle.edd_syntax.proofs.ElementRows.{of_attribute, each_attribute}
use Rattle.edd_syntax.proofs.elements.push_written.Goals as goal

pub returns : goal.returns
returns c =
    each_done (of_attribute c.args.array) c.loop-attribute.found.items _
    c.loop-attribute.attribute-index c.args.attributes.now (omega arith) c.loop-attribute.invariant
    ∙ ap (λ xs. c.args.found.now.items ++ xs) (each_attribute c.args.array c.args.attributes.now)
