use Rattle.edd_instructions.proofs.WorkedAsking.{asking_methods_agree, not_exchanged, not_unasked}
use Rattle.edd_instructions.proofs.WorkedAskingValid.{exchanged_valid, unasked_valid}
use Rattle.edd_instructions.proofs.worked.asking_loops_agree.Goals as goal

pub returns-clause-asking : goal.returns-clause-asking
returns-clause-asking c = asking_methods_agree

pub returns-clause-exchanged : goal.returns-clause-exchanged
returns-clause-exchanged c = (exchanged_valid, not_exchanged)

pub returns-clause-unasked : goal.returns-clause-unasked
returns-clause-unasked c = (unasked_valid, not_unasked)
