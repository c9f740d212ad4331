use Rattle.std.proofs.Common.{◌∙◌, Some, ap, refl}
use Rattle.edd_syntax.specs.declared.answer.Trap.TheVariants as trap
use Rattle.edd_instructions.specs.Reading.{Fault, Records}
use Rattle.edd_octets.specs.Carriers.{has_kept}
use Rattle.edd_octets.proofs.Carrying.{moved, trapped}
use Rattle.edd_octets.proofs.carriers.carried.Goals as goal

pub returns-in-Ok : goal.returns-in-Ok
returns-in-Ok c = (
  Records c.in-Ok.items.items,
  moved c.args.image.now _ _ _ _ c.attribute_of.ensures c.in-Ok.ensures.sound,
  ap Some (c.has_kept.ensures ∙ ap (has_kept c.args.variable) c.as_slice.ensures.value),
)

pub returns-in-Err-DivZero : goal.returns-in-Err-DivZero
returns-in-Err-DivZero c = (
  Fault trap.DivZero,
  moved c.args.image.now _ _ _ _ c.attribute_of.ensures
      (trapped c.args.image.now c.args.values.now.numbers.items _ c.in-Err-DivZero.field-0 _ trap.DivZero
      c.in-Err-DivZero.field-0-is refl c.in-Err-DivZero.ensures.refused),
  refl,
)

pub returns-in-Err-DivOverflow : goal.returns-in-Err-DivOverflow
returns-in-Err-DivOverflow c = (
  Fault trap.DivOverflow,
  moved c.args.image.now _ _ _ _ c.attribute_of.ensures
      (trapped c.args.image.now c.args.values.now.numbers.items _ c.in-Err-DivOverflow.field-0 _ trap.DivOverflow
      c.in-Err-DivOverflow.field-0-is refl c.in-Err-DivOverflow.ensures.refused),
  refl,
)

pub returns-in-Err-BadShift : goal.returns-in-Err-BadShift
returns-in-Err-BadShift c = (
  Fault trap.BadShift,
  moved c.args.image.now _ _ _ _ c.attribute_of.ensures
      (trapped c.args.image.now c.args.values.now.numbers.items _ c.in-Err-BadShift.field-0 _ trap.BadShift
      c.in-Err-BadShift.field-0-is refl c.in-Err-BadShift.ensures.refused),
  refl,
)

pub returns-in-Err-NoElement : goal.returns-in-Err-NoElement
returns-in-Err-NoElement c = (
  Fault trap.NoElement,
  moved c.args.image.now _ _ _ _ c.attribute_of.ensures
      (trapped c.args.image.now c.args.values.now.numbers.items _ c.in-Err-NoElement.field-0 _ trap.NoElement
      c.in-Err-NoElement.field-0-is refl c.in-Err-NoElement.ensures.refused),
  refl,
)
