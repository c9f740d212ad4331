use Rattle.std.proofs.Common.{◌+◌, ◌*◌, length, map}
use Rattle.edd_syntax.specs.Answers.{answer_of}
use Rattle.edd_port.specs.Drives.{standing}
use Rattle.edd_port.proofs.Playings.{Playing}
use Rattle.edd_port.proofs.playing.play_on.Given as goal

abbrev pub invariant-loop-request : goal.invariant-loop-request
invariant-loop-request l = Playing l.initial.session l.steps l.left l.session
    (map answer_of l.answers) l.next l.requests.items

abbrev pub decreases-loop-request : goal.decreases-loop-request
decreases-loop-request l = 2 * l.left + length (standing l.session.state.status)
