use Rattle.std.proofs.Common.{◌≡◌, drop}
use Rattle.edd_syntax.specs.DeviceValues.{AreDeviceValues}
use Rattle.edd_machine.specs.Types.{types_in}
use Rattle.edd_device.specs.Copies.{requested}
use Rattle.edd_device.proofs.copying.take_request.Given as goal

-- the entries so far were taken, and the others take what is left to take
abbrev pub invariant-loop-entry : goal.invariant-loop-entry
invariant-loop-entry l = record {
  values : AreDeviceValues (types_in l.device) l.numbers;
  taken : requested l.instrument l.device l.values.numbers.items l.request l.initial.numbers
      ≡ requested l.instrument l.device l.values.numbers.items (drop l.entry-index l.request)
      l.numbers;
}
