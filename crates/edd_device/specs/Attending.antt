-- Who answers, as the code has them.
use Rattle.std.specs.Prelude.{List, drop, map}
use Rattle.edd_syntax.specs.Answers.{Answer, answer_of}
use Rattle.edd_device.specs.declared.playing.Attendance.{Attendance}
use Rattle.edd_device.specs.Devices.{Simulated}
use Rattle.edd_device.specs.Trials.{Others}

-- the answers of the script that are left
abbrev pub script_of : Attendance → List Answer
script_of user = drop user.next (map answer_of user.script.now)

-- the device and the user, as those who answer in a trial
abbrev pub others_of : Simulated → Attendance → Others
others_of device user = record {
  device = device;
  script = script_of user;
  fault = user.fault;
}
