use Rattle.edd_assembly.proofs.RowLimits.{all_rows_limit}
use Rattle.edd_assembly.proofs.bounds.nodes_of_rows.Goals as goal

pub returns : goal.returns
returns c unit = all_rows_limit unit
