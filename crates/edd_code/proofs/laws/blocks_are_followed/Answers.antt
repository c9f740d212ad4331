use Rattle.edd_code.proofs.UnitRuns.{unit_goes, unit_traps}
use Rattle.edd_code.proofs.laws.blocks_are_followed.Goals as goal

pub returns-clause-goes : goal.returns-clause-goes
returns-clause-goes c env values b records spelled flows small is =
    unit_goes env values b spelled flows small records is

pub returns-clause-traps : goal.returns-clause-traps
returns-clause-traps c env values b why spelled flows small is =
    unit_traps env values b spelled flows small why is
