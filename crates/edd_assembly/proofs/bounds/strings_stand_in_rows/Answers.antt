use Rattle.edd_assembly.proofs.StringRows.{in_a_row}
use Rattle.edd_assembly.proofs.StringsOfRows.{of_a_row}
use Rattle.edd_assembly.proofs.bounds.strings_stand_in_rows.Goals as goal

pub returns-clause-in_rows : goal.returns-clause-in_rows
returns-clause-in_rows c unit checked w held = in_a_row w unit checked held

pub returns-clause-of_rows : goal.returns-clause-of_rows
returns-clause-of_rows c unit row w held = of_a_row w unit row held
