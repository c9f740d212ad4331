use Rattle.std.proofs.Common.{◌≡◌, ◌≢◌, Err, ◌∙◌}
use Rattle.edd_device.specs.declared.fault.DeviceFault.{DeviceFault}
use Rattle.edd_device.specs.declared.fault.DeviceFault.TheVariants.{Memory}
use Rattle.edd_device.specs.Methods.{ran_times}
use Rattle.edd_device.specs.Taken.{now_of}
use Rattle.edd_device.proofs.Passing.{passed}
use Rattle.edd_device.proofs.Repeating.{one_ok, one_err}
use Rattle.edd_device.proofs.methods.run_times.Goals as goal

pub returns-in_err-now-clause-refused : goal.returns-in_err-now-clause-refused
returns-in_err-now-clause-refused c =
    passed {E = DeviceFault} c.from_residual.result c.in_err-now.field-0.0 (λ fault. fault ≢ Memory
    → ran_times c.args.device.now c.args.method c.args.times (now_of c.args.first) ≡ Err fault)
    c.from_residual.ensures.1
    (λ ne. c.loop-time.invariant.runs ∙ one_err c.args.device.now c.args.method c.args.times
    c.loop-time._time (now_of c.loop-time.now) c.in_err-now.field-0.0 c.loop-time-test.true
    (c.in_err-now.ensures.refused ne))

pub loop-time-preserved : goal.loop-time-preserved
loop-time-preserved c = record {
  values = c.in_ok-now.ensures.values;
  runs = c.loop-time.invariant.runs ∙ one_ok c.args.device.now c.args.method c.args.times
      c.loop-time._time (now_of c.loop-time.now) (now_of c.in_ok-now.now) c.loop-time-test.true
      c.in_ok-now.ensures.sound;
}
