use Rattle.edd_instructions.proofs.BoundedRuns.{bounded}
use Rattle.edd_instructions.proofs.laws.runs_keep_the_state.Goals as goal

pub returns : goal.returns
returns c = λ context env n s answers unit is valid. let b = bounded context env n s answers unit is
    valid in (b.state, b.same, b.good)
