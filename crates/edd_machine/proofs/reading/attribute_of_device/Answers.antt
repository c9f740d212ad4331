use Rattle.std.proofs.Common.{◌≡◌, false, List, None, Ok, sym, ap, subst, ◌∙◌}
use Rattle.std.specs.Prelude.{is_some}
use Rattle.edd_image.specs.Contents.{contents_in}
use Rattle.edd_instructions.specs.Reading.{Reading, Records, IsReading, is_no_item, row_of}
use Rattle.edd_instructions.specs.declared.records.Record.{Record}
use Rattle.edd_machine.specs.declared.fault.ReadFault.TheVariants as read_fault
use Rattle.edd_machine.specs.Faults.{IsReadFault}
use Rattle.edd_machine.specs.Running.{unit_at}
use Rattle.edd_machine.proofs.AttributeReadings.{is_found, not_found, found_row, unit_found, counts_there, attribute_found, nothing_read, default_read, unit_read, fault_read, passed}
use Rattle.edd_machine.proofs.reading.attribute_of_device.Goals as goal

pub returns-then-is_no_item-clause-refused : goal.returns-then-is_no_item-clause-refused
returns-then-is_no_item-clause-refused c =
    let has_row : is_some (row_of (contents_in c.args.image.now) c.args.attr) ≡ c.is_some.result =
    sym (c.is_some.ensures ∙ ap is_some c.find_attribute-unit.ensures
    ∙ found_row (unit_at c.args.image.now) (row_of (contents_in c.args.image.now) c.args.attr))
    in
    let test = c.is_no_item.ensures (contents_in c.args.image.now)
    (counts_there c.args.image.now c.counts.result c.counts.ensures) has_row in
    nothing_read c.args.image.now c.args.attr c.args.values.now.numbers.items
    (sym test ∙ c.if-is_no_item.true)

pub run-requires-clause-unit : goal.run-requires-clause-unit
run-requires-clause-unit c =
    unit_found _ _ _ (is_found c.args.image.now c.args.attr c.in-Some.unit
    (sym c.in-Some.is ∙ c.find_attribute-unit.ensures))

pub run-requires-clause-sort : goal.run-requires-clause-sort
run-requires-clause-sort c =
    let has_row : is_some (row_of (contents_in c.args.image.now) c.args.attr) ≡ c.is_some.result =
    sym (c.is_some.ensures ∙ ap is_some c.find_attribute-unit.ensures
    ∙ found_row (unit_at c.args.image.now) (row_of (contents_in c.args.image.now) c.args.attr))
    in
    let test = c.is_no_item.ensures (contents_in c.args.image.now)
    (counts_there c.args.image.now c.counts.result c.counts.ensures) has_row in
    attribute_found c.args.image.now c.args.attr c.in-Some.unit
    (is_found c.args.image.now c.args.attr c.in-Some.unit
    (sym c.in-Some.is ∙ c.find_attribute-unit.ensures)) (sym test ∙ c.if-is_no_item.false)

pub returns-in_err-default_records-in-None-clause-refused :
    goal.returns-in_err-default_records-in-None-clause-refused
returns-in_err-default_records-in-None-clause-refused c =
    let has_row : is_some (row_of (contents_in c.args.image.now) c.args.attr) ≡ c.is_some.result =
    sym (c.is_some.ensures ∙ ap is_some c.find_attribute-unit.ensures
    ∙ found_row (unit_at c.args.image.now) (row_of (contents_in c.args.image.now) c.args.attr))
    in
    let test = c.is_no_item.ensures (contents_in c.args.image.now)
    (counts_there c.args.image.now c.counts.result c.counts.ensures) has_row in
    let item : is_no_item (contents_in c.args.image.now) c.args.attr ≡ false = sym test
    ∙ c.if-is_no_item.false in
    passed c.from_residual.result read_fault.Memory
    (IsReadFault c.args.image.now c.args.attr c.args.values.now.numbers.items)
    c.from_residual.ensures.1 (item, c.requires)

pub returns-in_err-records-in-Some-clause-refused : goal.returns-in_err-records-in-Some-clause-refused
returns-in_err-records-in-Some-clause-refused c =
    let has_row : is_some (row_of (contents_in c.args.image.now) c.args.attr) ≡ c.is_some.result =
    sym (c.is_some.ensures ∙ ap is_some c.find_attribute-unit.ensures
    ∙ found_row (unit_at c.args.image.now) (row_of (contents_in c.args.image.now) c.args.attr))
    in
    let test = c.is_no_item.ensures (contents_in c.args.image.now)
    (counts_there c.args.image.now c.counts.result c.counts.ensures) has_row in
    let item : is_no_item (contents_in c.args.image.now) c.args.attr ≡ false = sym test
    ∙ c.if-is_no_item.false in
    let given = rw c.as_slice.ensures.value at c.in_err-records-in-Some.ensures.refused in
    let fault = fault_read c.args.image.now c.args.attr c.args.values.now.numbers.items
    c.in-Some.unit c.in_err-records-in-Some.field-0.0 c.run.ensures.valid item c.requires
    (is_found c.args.image.now c.args.attr c.in-Some.unit
    (sym c.in-Some.is ∙ c.find_attribute-unit.ensures)) given in
    passed c.from_residual-in_err-records-in-Some.result c.in_err-records-in-Some.field-0.0
    (IsReadFault c.args.image.now c.args.attr c.args.values.now.numbers.items)
    c.from_residual-in_err-records-in-Some.ensures.1 fault

pub returns-in_err-or_default-in-Some-clause-refused :
    goal.returns-in_err-or_default-in-Some-clause-refused
returns-in_err-or_default-in-Some-clause-refused c =
    let has_row : is_some (row_of (contents_in c.args.image.now) c.args.attr) ≡ c.is_some.result =
    sym (c.is_some.ensures ∙ ap is_some c.find_attribute-unit.ensures
    ∙ found_row (unit_at c.args.image.now) (row_of (contents_in c.args.image.now) c.args.attr))
    in
    let test = c.is_no_item.ensures (contents_in c.args.image.now)
    (counts_there c.args.image.now c.counts.result c.counts.ensures) has_row in
    let item : is_no_item (contents_in c.args.image.now) c.args.attr ≡ false = sym test
    ∙ c.if-is_no_item.false in
    passed c.from_residual-in_err-or_default-in-Some.result read_fault.Memory
    (IsReadFault c.args.image.now c.args.attr c.args.values.now.numbers.items)
    c.from_residual-in_err-or_default-in-Some.ensures.1 (item, c.requires)

pub returns-in_ok-default_records-in-None-clause-sound :
    goal.returns-in_ok-default_records-in-None-clause-sound
returns-in_ok-default_records-in-None-clause-sound c =
    let has_row : is_some (row_of (contents_in c.args.image.now) c.args.attr) ≡ c.is_some.result =
    sym (c.is_some.ensures ∙ ap is_some c.find_attribute-unit.ensures
    ∙ found_row (unit_at c.args.image.now) (row_of (contents_in c.args.image.now) c.args.attr))
    in
    let test = c.is_no_item.ensures (contents_in c.args.image.now)
    (counts_there c.args.image.now c.counts.result c.counts.ensures) has_row in
    let item : is_no_item (contents_in c.args.image.now) c.args.attr ≡ false = sym test
    ∙ c.if-is_no_item.false in
    let none : row_of (contents_in c.args.image.now) c.args.attr ≡ None =
    not_found (unit_at c.args.image.now) (row_of (contents_in c.args.image.now) c.args.attr)
    (sym c.in-None.is ∙ c.find_attribute-unit.ensures) in
    subst (λ (records : List Record). IsReading c.args.image.now c.args.attr
    c.args.values.now.numbers.items (Records records))
    (sym c.in_ok-default_records-in-None.ensures)
    (default_read c.args.image.now c.args.attr c.args.values.now.numbers.items item none)

pub returns-in_ok-or_default-in-Some-clause-sound :
    goal.returns-in_ok-or_default-in-Some-clause-sound
returns-in_ok-or_default-in-Some-clause-sound c =
    let has_row : is_some (row_of (contents_in c.args.image.now) c.args.attr) ≡ c.is_some.result =
    sym (c.is_some.ensures ∙ ap is_some c.find_attribute-unit.ensures
    ∙ found_row (unit_at c.args.image.now) (row_of (contents_in c.args.image.now) c.args.attr))
    in
    let test = c.is_no_item.ensures (contents_in c.args.image.now)
    (counts_there c.args.image.now c.counts.result c.counts.ensures) has_row in
    let item : is_no_item (contents_in c.args.image.now) c.args.attr ≡ false = sym test
    ∙ c.if-is_no_item.false in
    let given = rw c.as_slice.ensures.value at c.in_ok-records-in-Some.ensures.sound in
    let read = unit_read c.args.image.now c.args.attr c.args.values.now.numbers.items c.in-Some.unit
    (Ok c.in_ok-records-in-Some.records.items) c.run.ensures.valid item
    (is_found c.args.image.now c.args.attr c.in-Some.unit
    (sym c.in-Some.is ∙ c.find_attribute-unit.ensures)) given in
    subst (λ (r : Reading). IsReading c.args.image.now c.args.attr c.args.values.now.numbers.items
    r) c.in_ok-or_default-in-Some.ensures read
