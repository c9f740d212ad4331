use Rattle.std.proofs.Common.{◌≡◌, true, length}
use Rattle.std.specs.List.{list_all}
use Rattle.edd_image.specs.Contents.{attribute_fields, contents_in, rows_from}
use Rattle.edd_loader.specs.AbortMethods.{is_body_or_adds, row_adds_with_body}
use Rattle.edd_loader.specs.Sections.{lies_within}
use Rattle.edd_loader.proofs.RowTurns.{rows_on}
use Rattle.edd_loader.proofs.abort_methods.bodiless_in_rows.Given as goal

abbrev pub invariant-loop-row : goal.invariant-loop-row
invariant-loop-row l = record {
  within : list_all (λ r. lies_within (length l.code) r.span)
      (rows_on (attribute_fields l.bytes) 16 l.count l.start l.row) ≡ true;
  others : list_all (is_body_or_adds (contents_in l.bytes) l.code)
      (rows_on (attribute_fields l.bytes) 16 l.count l.start l.row) ≡ true;
  same : list_all (row_adds_with_body (contents_in l.bytes) l.code)
      (rows_on (attribute_fields l.bytes) 16 l.count l.start l.row)
      ≡ list_all (row_adds_with_body (contents_in l.bytes) l.code)
      (rows_from (attribute_fields l.bytes) 16 l.count l.start);
}
