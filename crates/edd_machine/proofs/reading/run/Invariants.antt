use Rattle.std.proofs.Common.{◌-◌, length}
use Rattle.edd_image.specs.Contents.{contents_in}
use Rattle.edd_instructions.specs.Reading.{environment_of}
use Rattle.edd_instructions.specs.Steps.{opening}
use Rattle.edd_machine.specs.Given.{Gives}
use Rattle.edd_machine.specs.Running.{running_unit, IsStateIn}
use Rattle.edd_machine.proofs.Following.{Given, at_place, after}
use Rattle.edd_machine.proofs.reading.run.Given as goal

abbrev pub invariant-loop-instruction : goal.invariant-loop-instruction
invariant-loop-instruction l = record {
  state : IsStateIn l.image l.fn.unit (at_place l.image l.fn.unit l.values l.place l.operands);
  gives : (r : Given) → Gives (environment_of (contents_in l.image))
      (at_place l.image l.fn.unit l.values l.place l.operands) r
      → Gives (environment_of (contents_in l.image))
      (opening (running_unit l.image l.fn.unit) l.fn.unit.slots l.values)
      (after l.records.items r);
}

abbrev pub decreases-loop-instruction : goal.decreases-loop-instruction
decreases-loop-instruction l = length l.code - l.place
