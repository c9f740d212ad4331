use Rattle.edd_syntax.specs.DeviceValues.{AreDeviceValues}
use Rattle.edd_machine.specs.Types.{types_in}
use Rattle.edd_panel.proofs.starting.set_defaults.Given as goal

-- the values so far are those of a device
abbrev pub invariant-loop-number : goal.invariant-loop-number
invariant-loop-number l = AreDeviceValues (types_in l.image) l.values.numbers.items
