use Rattle.std.proofs.Common.{◌≡◌, true}
use Rattle.std.specs.List.{list_all}
use Rattle.edd_image.specs.Contents.{rows_from, variable_fields}
use Rattle.edd_instructions.specs.Validity.{is_variable_row}
use Rattle.edd_loader.proofs.RowTurns.{rows_on}
use Rattle.edd_loader.proofs.rows.broken_variable_row.Given as goal

abbrev pub invariant-loop-index : goal.invariant-loop-index
invariant-loop-index l = record {
  same : list_all is_variable_row (rows_on (variable_fields l.bytes) 4 l.count l.start l.index)
      ≡ list_all is_variable_row (rows_from (variable_fields l.bytes) 4 l.count l.start);
  before : list_all is_variable_row (rows_from (variable_fields l.bytes) 4 l.index l.start) ≡ true;
}
