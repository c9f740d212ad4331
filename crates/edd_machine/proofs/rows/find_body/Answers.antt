use Rattle.std.proofs.Common.{◌≡◌, Some, ap, ◌∙◌}
use Rattle.std.specs.Prelude.{option_map}
use Rattle.edd_image.specs.Contents.{attribute_fields, contents_in}
use Rattle.edd_instructions.specs.Reading.{body_of}
use Rattle.edd_instructions.specs.declared.rules.Rule.TheVariants as rule
use Rattle.edd_loader.proofs.RuleOrder.{valid_sections}
use Rattle.edd_machine.specs.Running.{unit_at}
use Rattle.edd_machine.proofs.BodyUnits.{is_body_unit}
use Rattle.edd_machine.proofs.rows.find_body.Goals as goal

pub body_row-requires-clause-sections : goal.body_row-requires-clause-sections
body_row-requires-clause-sections c = rw c.bytes-bytes.ensures.sound
    (valid_sections c.args.image.now c.bytes-bytes.ensures.valid)

pub body_row-requires-clause-rows : goal.body_row-requires-clause-rows
body_row-requires-clause-rows c = rw c.bytes-bytes.ensures.sound
    (c.bytes-bytes.ensures.valid rule.Row)

pub returns-clause-unit : goal.returns-clause-unit
returns-clause-unit c =
    let found : Some (unit_at c.bytes-bytes.result.now
    (attribute_fields c.bytes-bytes.result.now c.in_ok-row.row))
    ≡ option_map (unit_at c.bytes-bytes.result.now)
    (body_of (contents_in c.bytes-bytes.result.now) c.args.method) =
    ap (option_map (unit_at c.bytes-bytes.result.now)) c.in_ok-row.ensures.row in
    let at : Some c.placed_unit.result ≡ option_map (unit_at c.args.image.now)
    (body_of (contents_in c.args.image.now) c.args.method) = rw c.bytes-bytes.ensures.sound at
    (ap Some c.placed_unit.ensures ∙ found) in
    (is_body_unit c.args.image.now c.args.method c.placed_unit.result c.bytes-bytes.ensures.valid
    at).unit

pub returns-clause-sort : goal.returns-clause-sort
returns-clause-sort c =
    let found : Some (unit_at c.bytes-bytes.result.now
    (attribute_fields c.bytes-bytes.result.now c.in_ok-row.row))
    ≡ option_map (unit_at c.bytes-bytes.result.now)
    (body_of (contents_in c.bytes-bytes.result.now) c.args.method) =
    ap (option_map (unit_at c.bytes-bytes.result.now)) c.in_ok-row.ensures.row in
    let at : Some c.placed_unit.result ≡ option_map (unit_at c.args.image.now)
    (body_of (contents_in c.args.image.now) c.args.method) = rw c.bytes-bytes.ensures.sound at
    (ap Some c.placed_unit.ensures ∙ found) in
    (is_body_unit c.args.image.now c.args.method c.placed_unit.result c.bytes-bytes.ensures.valid
    at).sort

pub returns-clause-slots : goal.returns-clause-slots
returns-clause-slots c =
    let found : Some (unit_at c.bytes-bytes.result.now
    (attribute_fields c.bytes-bytes.result.now c.in_ok-row.row))
    ≡ option_map (unit_at c.bytes-bytes.result.now)
    (body_of (contents_in c.bytes-bytes.result.now) c.args.method) =
    ap (option_map (unit_at c.bytes-bytes.result.now)) c.in_ok-row.ensures.row in
    let at : Some c.placed_unit.result ≡ option_map (unit_at c.args.image.now)
    (body_of (contents_in c.args.image.now) c.args.method) = rw c.bytes-bytes.ensures.sound at
    (ap Some c.placed_unit.ensures ∙ found) in
    (is_body_unit c.args.image.now c.args.method c.placed_unit.result c.bytes-bytes.ensures.valid
    at).slots
