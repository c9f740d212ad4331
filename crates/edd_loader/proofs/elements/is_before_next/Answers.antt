use Rattle.std.proofs.Common.{◌+◌, ◌-◌, arith, sym, ap, ◌∙◌}
use Rattle.edd_image.specs.Contents.{element_fields}
use Rattle.edd_loader.specs.Rows.{is_before_next}
use Rattle.edd_loader.proofs.RowTurns.{next_row}
use Rattle.edd_loader.proofs.elements.is_before_next.Goals as goal

pub returns-else-left-eq0 : goal.returns-else-left-eq0
returns-else-left-eq0 c =
    let here = next_row (element_fields c.args.bytes.now) 8 c.args.left (c.args.left - 1)
    (c.args.row + 8) (c.args.row + 16) (omega arith) (omega arith) in
    c.is_element_before.ensures
    ∙ ap (is_before_next (element_fields c.args.bytes.now c.args.row)) (sym here)
