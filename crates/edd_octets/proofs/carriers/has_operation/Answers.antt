use Rattle.std.proofs.Common.{◌∙◌, ap, refl}
use Rattle.edd_syntax.specs.declared.answer.Trap.TheVariants as trap
use Rattle.edd_instructions.specs.Reading.{Fault, Records}
use Rattle.edd_octets.specs.Carriers.{is_number, operation_of}
use Rattle.edd_octets.proofs.Carrying.{trapped}
use Rattle.edd_octets.proofs.carriers.has_operation.Goals as goal

pub returns-in-Ok : goal.returns-in-Ok
returns-in-Ok c = (
  Records c.in-Ok.records.items,
  c.in-Ok.ensures.sound,
  c.is_first.ensures
      ∙ ap (λ rs. is_number c.args.operation (Records rs)) c.as_slice.ensures.value,
)

pub returns-in-Err-DivZero : goal.returns-in-Err-DivZero
returns-in-Err-DivZero c = (
  Fault trap.DivZero,
  trapped c.args.image.now c.args.values.now.numbers.items (operation_of c.args.command)
      c.in-Err-DivZero.field-0 _ trap.DivZero
      c.in-Err-DivZero.field-0-is refl c.in-Err-DivZero.ensures.refused,
  refl,
)

pub returns-in-Err-DivOverflow : goal.returns-in-Err-DivOverflow
returns-in-Err-DivOverflow c = (
  Fault trap.DivOverflow,
  trapped c.args.image.now c.args.values.now.numbers.items (operation_of c.args.command)
      c.in-Err-DivOverflow.field-0 _ trap.DivOverflow
      c.in-Err-DivOverflow.field-0-is refl c.in-Err-DivOverflow.ensures.refused,
  refl,
)

pub returns-in-Err-BadShift : goal.returns-in-Err-BadShift
returns-in-Err-BadShift c = (
  Fault trap.BadShift,
  trapped c.args.image.now c.args.values.now.numbers.items (operation_of c.args.command)
      c.in-Err-BadShift.field-0 _ trap.BadShift
      c.in-Err-BadShift.field-0-is refl c.in-Err-BadShift.ensures.refused,
  refl,
)

pub returns-in-Err-NoElement : goal.returns-in-Err-NoElement
returns-in-Err-NoElement c = (
  Fault trap.NoElement,
  trapped c.args.image.now c.args.values.now.numbers.items (operation_of c.args.command)
      c.in-Err-NoElement.field-0 _ trap.NoElement
      c.in-Err-NoElement.field-0-is refl c.in-Err-NoElement.ensures.refused,
  refl,
)
