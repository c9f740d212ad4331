use Rattle.std.proofs.Common.{ℤ, List, subst}
use Rattle.edd_machine.specs.Running.{IsMachine}
use Rattle.edd_port.proofs.session.Session.resume.Goals as goal

pub is_run-requires-clause-unit : goal.is_run-requires-clause-unit
is_run-requires-clause-unit c = c.is_body.ensures.unit c.if-not-is_body.false

pub is_run-requires-clause-sort : goal.is_run-requires-clause-sort
is_run-requires-clause-sort c = c.is_body.ensures.sort c.if-not-is_body.false

pub invariant_of-result : goal.invariant_of-result
invariant_of-result c =
    let there : IsMachine c.args.image.now c.args.suspended.machine c.as_slice.result.now =
    c.is_run.ensures.0 c.if-not-is_run.false in (
      c.is_body.ensures.valid c.if-not-is_body.false,
      subst (λ (values : List ℤ). IsMachine c.args.image.now c.args.suspended.machine values)
          c.as_slice.ensures.value there,
      c.is_body.ensures.sort c.if-not-is_body.false,
    )

pub returns-clause-accepted : goal.returns-clause-accepted
returns-clause-accepted c =
    let there : IsMachine c.args.image.now c.args.suspended.machine c.as_slice.result.now =
    c.is_run.ensures.0 c.if-not-is_run.false in
    record {
      body = c.is_body.ensures.body.0 c.if-not-is_body.false;
      machine = subst
          (λ (values : List ℤ). IsMachine c.args.image.now c.args.suspended.machine values)
          c.as_slice.ensures.value there;
    }
