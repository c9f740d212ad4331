use Rattle.edd_instructions.proofs.Cutting.{cut, cut_alone}
use Rattle.edd_instructions.proofs.laws.runs_may_be_cut.Goals as goal

pub returns-clause-following : goal.returns-clause-following
returns-clause-following c = λ follow quiet env j k s answers e. cut follow quiet env j k s answers
    e

pub returns-clause-alone : goal.returns-clause-alone
returns-clause-alone c = λ env j k s answers e. cut_alone env j k s answers e
