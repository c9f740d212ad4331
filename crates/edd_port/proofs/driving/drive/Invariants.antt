use Rattle.std.proofs.Common.{◌+◌, ◌*◌, length}
use Rattle.edd_port.specs.Drives.{standing}
use Rattle.edd_port.proofs.DriveEnds.{Underway}
use Rattle.edd_port.proofs.driving.drive.Given as goal

abbrev pub invariant-loop-fewer : goal.invariant-loop-fewer
invariant-loop-fewer g l = Underway l.initial.session l.steps l.left l.session
    (g.H.Host.book l.initial.host) (g.H.Host.book l.host)

abbrev pub decreases-loop-fewer : goal.decreases-loop-fewer
decreases-loop-fewer g l = 2 * l.left + length (standing l.session.state.status)
