use Rattle.std.proofs.Common.{List, ℤ, sym, subst, ◌∙◌}
use Rattle.edd_syntax.specs.DeviceValues.{AreDeviceValues}
use Rattle.edd_machine.specs.Types.{types_in}
use Rattle.edd_panel.proofs.Held.{inside_values, values_kept}
use Rattle.edd_panel.proofs.starting.set_if_held.Goals as goal

pub set-requires : goal.set-requires
set-requires c = inside_values (types_in c.args.image.now) c.args.values.now.numbers.items
    c.args.variable.0 _ c.requires (sym c.holds.ensures ∙ c.if-holds.true)

pub returns-then-holds : goal.returns-then-holds
returns-then-holds c =
    subst (λ (xs : List ℤ). AreDeviceValues (types_in c.args.image.now) xs) (sym c.set.ensures)
    (values_kept (types_in c.args.image.now) c.args.values.now.numbers.items c.args.variable.0
    _ c.requires (sym c.holds.ensures ∙ c.if-holds.true))
