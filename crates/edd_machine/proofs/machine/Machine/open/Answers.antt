use Rattle.std.proofs.Common.{refl}
use Rattle.edd_machine.proofs.Stepping.{opened}
use Rattle.edd_machine.proofs.machine.Machine.open.Goals as goal

pub returns-clause-machine : goal.returns-clause-machine
returns-clause-machine c = λ b values valid is are. opened b c.args.unit _ values valid is are
    (rw (c.new.ensures, c.empty_slots.ensures, c.new-2.ensures) refl)
