use Rattle.edd_instructions.proofs.WorkedImages.{empty_valid, loop_valid, label_valid}
use Rattle.edd_instructions.proofs.WorkedAskingValid.{asking_valid}
use Rattle.edd_instructions.proofs.worked.worked_images_are_valid.Goals as goal

pub returns-clause-empty : goal.returns-clause-empty
returns-clause-empty c = empty_valid

pub returns-clause-endless : goal.returns-clause-endless
returns-clause-endless c = loop_valid

pub returns-clause-label : goal.returns-clause-label
returns-clause-label c = label_valid

pub returns-clause-asking : goal.returns-clause-asking
returns-clause-asking c = asking_valid
