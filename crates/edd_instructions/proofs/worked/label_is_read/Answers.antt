use Rattle.edd_instructions.proofs.WorkedImages.{label_read, handling_read, missing_read}
use Rattle.edd_instructions.proofs.worked.label_is_read.Goals as goal

pub returns-clause-label : goal.returns-clause-label
returns-clause-label c = label_read

pub returns-clause-default : goal.returns-clause-default
returns-clause-default c = handling_read

pub returns-clause-missing : goal.returns-clause-missing
returns-clause-missing c = missing_read
