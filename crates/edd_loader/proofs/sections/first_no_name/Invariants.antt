use Rattle.std.proofs.Common.{◌≡◌, true, length}
use Rattle.std.specs.List.{list_all}
use Rattle.edd_syntax.specs.Names.{is_name}
use Rattle.edd_image.specs.Contents.{part, rows_from, name_fields}
use Rattle.edd_loader.specs.Sections.{lies_within}
use Rattle.edd_loader.proofs.RowTurns.{rows_on}
use Rattle.edd_loader.proofs.sections.first_no_name.Given as goal

abbrev pub invariant-loop-index : goal.invariant-loop-index
invariant-loop-index l = record {
  within : list_all (λ r. lies_within (length l.names) r.span)
      (rows_on (name_fields l.bytes) 8 l.count l.start l.index) ≡ true;
  same : list_all (λ r. is_name (part r.span l.names))
      (rows_on (name_fields l.bytes) 8 l.count l.start l.index)
      ≡ list_all (λ r. is_name (part r.span l.names))
      (rows_from (name_fields l.bytes) 8 l.count l.start);
  before : list_all (λ r. is_name (part r.span l.names)) (rows_from (name_fields l.bytes) 8 l.index l.start)
      ≡ true;
}
