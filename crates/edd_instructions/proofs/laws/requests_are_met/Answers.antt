use Rattle.edd_instructions.proofs.Followed.{answer_met, still_waits}
use Rattle.edd_instructions.proofs.laws.requests_are_met.Goals as goal

pub returns-clause-met : goal.returns-clause-met
returns-clause-met c = λ follow quiet env k s r answer rest asks valid. answer_met follow quiet env
    s r asks answer rest valid k

pub returns-clause-waits : goal.returns-clause-waits
returns-clause-waits c = λ follow quiet env k s r asks. still_waits follow quiet env s r asks k
