use Rattle.std.proofs.Common.{◌≡◌, sym, ap, ◌∙◌}
use Rattle.std.specs.Prelude.{is_some}
use Rattle.edd_image.specs.Contents.{contents_in}
use Rattle.edd_instructions.specs.Reading.{row_of}
use Rattle.edd_machine.specs.Running.{unit_at}
use Rattle.edd_machine.proofs.AttributeReadings.{found_row, counts_there, nothing_read}
use Rattle.edd_machine.proofs.reading.fault_of_values.Goals as goal

pub returns-then-is_no_item : goal.returns-then-is_no_item
returns-then-is_no_item c =
    let has_row : is_some (row_of (contents_in c.args.image.now) c.args.attr) ≡ c.is_some.result =
    sym (c.is_some.ensures ∙ ap is_some c.find_attribute-unit.ensures
    ∙ found_row (unit_at c.args.image.now) (row_of (contents_in c.args.image.now) c.args.attr))
    in
    let test = c.is_no_item.ensures (contents_in c.args.image.now)
    (counts_there c.args.image.now c.counts.result c.counts.ensures) has_row in
    λ values are_not. nothing_read c.args.image.now c.args.attr values
    (sym test ∙ c.if-is_no_item.true)

pub returns-else-is_no_item : goal.returns-else-is_no_item
returns-else-is_no_item c =
    let has_row : is_some (row_of (contents_in c.args.image.now) c.args.attr) ≡ c.is_some.result =
    sym (c.is_some.ensures ∙ ap is_some c.find_attribute-unit.ensures
    ∙ found_row (unit_at c.args.image.now) (row_of (contents_in c.args.image.now) c.args.attr))
    in
    let test = c.is_no_item.ensures (contents_in c.args.image.now)
    (counts_there c.args.image.now c.counts.result c.counts.ensures) has_row in
    λ values are_not. (sym test ∙ c.if-is_no_item.false, are_not)
