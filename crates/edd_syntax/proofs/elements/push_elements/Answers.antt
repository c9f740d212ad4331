use Rattle.std.proofs.Common.{◌∙◌, ap, ◌++◌, arith}
use Rattle.edd_syntax.proofs.RowLaws.{each_done}
use Rattle.edd_syntax.proofs.ElementRows.{one_element, each_element}
use Rattle.edd_syntax.proofs.elements.push_elements.Goals as goal

pub returns : goal.returns
returns c =
    each_done (one_element c.args.array) c.loop-element.found.items _ c.loop-element.element-index
    c.args.elements.now (omega arith) c.loop-element.invariant
    ∙ ap (λ xs. c.args.found.now.items ++ xs) (each_element c.args.array c.args.elements.now)
