use Rattle.edd_machine.proofs.BodyUnits.{body_opens}
use Rattle.edd_machine.proofs.laws.bodies_open_as_their_rows.Goals as goal

pub returns : goal.returns
returns c = λ b m row values valid e. body_opens b m row values valid e
