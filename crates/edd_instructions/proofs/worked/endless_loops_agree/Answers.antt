use Rattle.edd_instructions.proofs.WorkedMethods.{methods_agree, not_by_an_end}
use Rattle.edd_instructions.proofs.worked.endless_loops_agree.Goals as goal

pub returns-clause-a_loop : goal.returns-clause-a_loop
returns-clause-a_loop c = methods_agree

pub returns-clause-an_end : goal.returns-clause-an_end
returns-clause-an_end c = not_by_an_end
