use Rattle.std.proofs.Common.{◌≡◌, ◌+◌, ◌<◌, ◌≤◌, ◌&&◌, true}
use Rattle.std.specs.List.{list_all}
use Rattle.edd_image.specs.Contents.{rows_from, element_fields}
use Rattle.edd_instructions.specs.Validity.{elements_rise, is_element_row}
use Rattle.edd_loader.proofs.RowTurns.{rows_on}
use Rattle.edd_loader.proofs.elements.broken_element_row.Given as goal

abbrev pub invariant-loop-index : goal.invariant-loop-index
invariant-loop-index l = record {
  inside : l.index ≤ l.count;
  same : (list_all (is_element_row l.counts)
      (rows_on (element_fields l.bytes) 8 l.count l.start l.index)
      && elements_rise (rows_on (element_fields l.bytes) 8 l.count l.start l.index))
      ≡ (list_all (is_element_row l.counts)
      (rows_from (element_fields l.bytes) 8 l.count l.start)
      && elements_rise (rows_from (element_fields l.bytes) 8 l.count l.start));
  exist : list_all (is_element_row l.counts)
      (rows_from (element_fields l.bytes) 8 l.index l.start) ≡ true;
  rising : elements_rise (rows_from (element_fields l.bytes) 8 l.index l.start) ≡ true;
  -- the row that comes is known to be greater than the one before
  next : l.index < l.count
      → elements_rise (rows_from (element_fields l.bytes) 8 (l.index + 1) l.start) ≡ true;
}
