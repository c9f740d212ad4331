use Rattle.std.proofs.Common.{◌≡◌, ◌+◌, ◌*◌, length}
use Rattle.edd_port.specs.Drives.{standing}
use Rattle.edd_device.specs.Attending.{others_of}
use Rattle.edd_device.proofs.Talking.{Talking}
use Rattle.edd_device.proofs.device.Device.play_on.Given as goal

-- it goes on as the run, answered by these, with the same images
abbrev pub invariant-loop-request : goal.invariant-loop-request
invariant-loop-request l = record {
  going : Talking l.initial.session (others_of l.initial.self l.initial.user) l.steps l.left
      l.session (others_of l.self l.user) l.requests.items;
  instrument : l.self.instrument ≡ l.initial.self.instrument;
  image : l.session.image ≡ l.self.instrument;
}

abbrev pub decreases-loop-request : goal.decreases-loop-request
decreases-loop-request l = 2 * l.left + length (standing l.session.state.status)
