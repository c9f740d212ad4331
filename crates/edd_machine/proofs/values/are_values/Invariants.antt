use Rattle.std.proofs.Common.{drop}
use Rattle.edd_syntax.specs.DeviceValues.{AreDeviceValues}
use Rattle.edd_machine.specs.Types.{types_in}
use Rattle.edd_machine.proofs.values.are_values.Given as goal

abbrev pub invariant-loop-index : goal.invariant-loop-index
invariant-loop-index l = record {
  on : AreDeviceValues (drop l.index (types_in l.image)) (drop l.index l.numbers)
      → AreDeviceValues (types_in l.image) l.numbers;
  back : AreDeviceValues (types_in l.image) l.numbers
      → AreDeviceValues (drop l.index (types_in l.image)) (drop l.index l.numbers);
}
