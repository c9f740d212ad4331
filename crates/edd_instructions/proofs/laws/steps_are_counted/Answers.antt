use Rattle.edd_instructions.proofs.StepCounts.{at_most_following, all_taken_following}
use Rattle.edd_instructions.proofs.laws.steps_are_counted.Goals as goal

pub returns-clause-at_most : goal.returns-clause-at_most
returns-clause-at_most c = λ follow env n s answers. at_most_following follow env n s answers

pub returns-clause-all : goal.returns-clause-all
returns-clause-all c = λ follow env n s answers out. all_taken_following follow env n s answers out
