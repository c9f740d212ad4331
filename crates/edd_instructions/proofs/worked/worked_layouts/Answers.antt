use Rattle.edd_instructions.proofs.WorkedImages.{empty_layout, loop_layout, label_layout}
use Rattle.edd_instructions.proofs.WorkedAskingValid.{asking_layout}
use Rattle.edd_instructions.proofs.worked.worked_layouts.Goals as goal

pub returns-clause-empty : goal.returns-clause-empty
returns-clause-empty c = empty_layout

pub returns-clause-endless : goal.returns-clause-endless
returns-clause-endless c = loop_layout

pub returns-clause-label : goal.returns-clause-label
returns-clause-label c = label_layout

pub returns-clause-asking : goal.returns-clause-asking
returns-clause-asking c = asking_layout
