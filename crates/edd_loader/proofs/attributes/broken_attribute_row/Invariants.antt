use Rattle.std.proofs.Common.{◌≡◌, ◌+◌, ◌<◌, ◌≤◌, ◌&&◌, map, true}
use Rattle.std.specs.List.{list_all}
use Rattle.edd_image.specs.Contents.{rows_from, attribute_fields}
use Rattle.edd_instructions.specs.Validity.{fills, rise, is_attribute_row}
use Rattle.edd_loader.specs.Spots.{follow}
use Rattle.edd_loader.proofs.FirstRows.{ends}
use Rattle.edd_loader.proofs.RowTurns.{rows_on}
use Rattle.edd_loader.proofs.attributes.broken_attribute_row.Given as goal

abbrev pub invariant-loop-index : goal.invariant-loop-index
invariant-loop-index l = record {
  inside : l.index ≤ l.count;
  same : (list_all (is_attribute_row l.counts) (rows_on (attribute_fields l.bytes) 16 l.count
      l.start l.index)
      && (rise (rows_on (attribute_fields l.bytes) 16 l.count l.start l.index)
      && fills l.place (map (λ r. r.span) (rows_on (attribute_fields l.bytes) 16 l.count l.start
      l.index)) l.end))
      ≡ (list_all (is_attribute_row l.counts)
      (rows_from (attribute_fields l.bytes) 16 l.count l.start)
      && (rise (rows_from (attribute_fields l.bytes) 16 l.count l.start)
      && fills 0 (map (λ r. r.span) (rows_from (attribute_fields l.bytes) 16 l.count l.start))
      l.end));
  valid : list_all (is_attribute_row l.counts)
      (rows_from (attribute_fields l.bytes) 16 l.index l.start) ≡ true;
  rising : rise (rows_from (attribute_fields l.bytes) 16 l.index l.start) ≡ true;
  -- the row that comes is known to be greater than the one before
  next : l.index < l.count
      → rise (rows_from (attribute_fields l.bytes) 16 (l.index + 1) l.start) ≡ true;
  follows : follow 0 (map (λ r. r.span)
      (rows_from (attribute_fields l.bytes) 16 l.index l.start)) ≡ true;
  here : l.place ≡ ends 0 (map (λ r. r.span)
      (rows_from (attribute_fields l.bytes) 16 l.index l.start));
}
