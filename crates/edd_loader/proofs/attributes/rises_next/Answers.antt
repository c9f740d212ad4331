use Rattle.std.proofs.Common.{◌+◌, ◌-◌, arith, sym, ap, ◌∙◌}
use Rattle.edd_image.specs.Contents.{attribute_fields}
use Rattle.edd_loader.specs.Rows.{rises_next}
use Rattle.edd_loader.proofs.RowTurns.{next_row}
use Rattle.edd_loader.proofs.attributes.rises_next.Goals as goal

pub returns-else-left-eq0 : goal.returns-else-left-eq0
returns-else-left-eq0 c =
    let here = next_row (attribute_fields c.args.bytes.now) 16 c.args.left (c.args.left - 1)
    (c.args.row + 16) (c.args.row + 32) (omega arith) (omega arith) in
    c.rises.ensures ∙ ap (rises_next (attribute_fields c.args.bytes.now c.args.row)) (sym here)
