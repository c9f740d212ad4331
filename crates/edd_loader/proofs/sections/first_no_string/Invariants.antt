use Rattle.std.proofs.Common.{◌≡◌, true, length}
use Rattle.std.specs.List.{list_all}
use Rattle.edd_image.specs.Strings.{is_string}
use Rattle.edd_image.specs.Contents.{part, rows_from, string_fields}
use Rattle.edd_loader.specs.Sections.{lies_within}
use Rattle.edd_loader.proofs.RowTurns.{rows_on}
use Rattle.edd_loader.proofs.sections.first_no_string.Given as goal

abbrev pub invariant-loop-index : goal.invariant-loop-index
invariant-loop-index l = record {
  within : list_all (lies_within (length l.strings))
      (rows_on (string_fields l.bytes) 8 l.count l.start l.index) ≡ true;
  same : list_all (λ r. is_string (part r l.strings))
      (rows_on (string_fields l.bytes) 8 l.count l.start l.index)
      ≡ list_all (λ r. is_string (part r l.strings))
      (rows_from (string_fields l.bytes) 8 l.count l.start);
  before : list_all (λ r. is_string (part r l.strings)) (rows_from (string_fields l.bytes) 8 l.index l.start)
      ≡ true;
}
