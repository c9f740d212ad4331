use Rattle.edd_constants.proofs.KnownParts.{assign_unused, compound_unused}
use Rattle.edd_constants.proofs.constants.stored.Goals as goal

pub returns-in-Method-clause-assigned : goal.returns-in-Method-clause-assigned
returns-in-Method-clause-assigned c = rw (c.in-Method.is, c.unused.ensures)
    (λ to a h. assign_unused to a _ h)

pub returns-in-Method-clause-combined : goal.returns-in-Method-clause-combined
returns-in-Method-clause-combined c = rw (c.in-Method.is, c.unused.ensures)
    (λ op to a h. compound_unused op to a _ h)
