use Rattle.std.proofs.Common.{◌≡◌, ◌-◌}
use Rattle.edd_syntax.specs.DeviceValues.{AreDeviceValues}
use Rattle.edd_machine.specs.Types.{types_in}
use Rattle.edd_device.specs.Methods.{ran_times}
use Rattle.edd_device.specs.Taken.{now_of}
use Rattle.edd_device.proofs.methods.run_times.Given as goal

-- the runs so far were made, and the others make what is left
abbrev pub invariant-loop-time : goal.invariant-loop-time
invariant-loop-time l = record {
  values : AreDeviceValues (types_in l.device) l.now.numbers.items;
  runs : ran_times l.device l.method l.times (now_of l.fn.first)
      ≡ ran_times l.device l.method (l.times - l._time) (now_of l.now);
}
