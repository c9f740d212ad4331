use Rattle.std.proofs.Common.{List, ℤ, sym, subst}
use Rattle.edd_syntax.specs.DeviceValues.{AreDeviceValues}
use Rattle.edd_machine.specs.Types.{types_in}
use Rattle.edd_panel.proofs.Sets.{editable_inside, editable_kept}
use Rattle.edd_panel.proofs.panel.Panel.edit.Goals as goal

pub set-requires : goal.set-requires
set-requires c = editable_inside c.self.inside.image.now c.self.inside.values.numbers.items
    c.args.field.variable c.args.field.read_only _ c.in_ok-fault.field-0
    c.in_ok-fault.ensures c.in_default.is c.self.invariant.0

pub invariant_of-self : goal.invariant_of-self
invariant_of-self c = (
  subst (λ (xs : List ℤ). AreDeviceValues (types_in c.self.inside.image.now) xs)
      (sym c.set.ensures)
      (editable_kept c.self.inside.image.now c.self.inside.values.numbers.items
      c.args.field.variable c.args.field.read_only _ c.in_ok-fault.field-0
      c.in_ok-fault.ensures c.in_default.is c.self.invariant.0),
  c.self.invariant.1,
)
