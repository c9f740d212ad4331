use Rattle.edd_port.proofs.MethodBodies.{is_body_in}
use Rattle.edd_port.proofs.laws.methods_may_be_suspended.Goals as goal

pub returns-clause-bodies : goal.returns-clause-bodies
returns-clause-bodies c b m values valid is method = is_body_in b m.unit valid is.unit method

pub returns-clause-resumed : goal.returns-clause-resumed
returns-clause-resumed c b s valid is method =
    record { body = is_body_in b s.machine.unit valid is.unit method; machine = is }
