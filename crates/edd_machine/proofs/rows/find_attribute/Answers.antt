use Rattle.edd_instructions.specs.declared.rules.Rule.TheVariants as rule
use Rattle.edd_loader.proofs.RuleOrder.{valid_sections}
use Rattle.edd_machine.proofs.rows.find_attribute.Goals as goal

pub attribute_row-requires-clause-sections : goal.attribute_row-requires-clause-sections
attribute_row-requires-clause-sections c = rw c.bytes-bytes.ensures.sound
    (valid_sections c.args.image.now c.bytes-bytes.ensures.valid)

pub attribute_row-requires-clause-rows : goal.attribute_row-requires-clause-rows
attribute_row-requires-clause-rows c = rw c.bytes-bytes.ensures.sound
    (c.bytes-bytes.ensures.valid rule.Row)
