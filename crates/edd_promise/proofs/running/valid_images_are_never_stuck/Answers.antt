use Rattle.edd_image.specs.Contents.{contents_in}
use Rattle.edd_instructions.specs.Reading.{opening_of}
use Rattle.edd_promise.proofs.NeverStuck.{opens_there, never_stuck}
use Rattle.edd_promise.proofs.running.valid_images_are_never_stuck.Goals as goal

pub returns : goal.returns
returns c = record {
  methods = λ b method row values steps answers valid found are all.
      (never_stuck b valid steps (opening_of (contents_in b) row values) answers
      (opens_there b valid method row values found are) all).0;
  sessions = λ b s is steps answers all.
      let o = never_stuck b is.valid steps s answers (is.unit, is.state) all in (
        o.0,
        record { valid = is.valid; unit = o.1.0; state = o.1.1 },
      );
}
