use Rattle.std.proofs.Common.{subst}
use Rattle.edd_port.specs.declared.suspension.Suspended.{Suspended}
use Rattle.edd_port.specs.Runs.{Run}
use Rattle.edd_port.specs.Suspensions.{IsSuspendedIn}
use Rattle.edd_port.proofs.MethodBodies.{is_body_in}
use Rattle.edd_port.proofs.session.Session.suspend.Goals as goal

pub returns-clause-resumable : goal.returns-clause-resumable
returns-clause-resumable c =
    let suspended : Suspended = record {
      machine = c.self.inside.machine;
      values = c.self.inside.values;
      taken = c.self.inside.taken;
    } in
    subst (λ (r : Run). IsSuspendedIn r.image suspended) c.self.view_is
    (record {
      body = is_body_in c.self.inside.image.now c.self.inside.machine.unit c.self.invariant.0
          c.self.invariant.1.unit c.self.invariant.2;
      machine = c.self.invariant.1;
    })
