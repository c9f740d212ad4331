use Rattle.std.proofs.Common.{◌≡◌, ◌≤◌, ◌&&◌, map, true}
use Rattle.std.specs.Prelude.{◌==◌}
use Rattle.std.specs.List.{list_all}
use Rattle.edd_image.specs.Contents.{rows_from, name_fields}
use Rattle.edd_instructions.specs.Validity.{fills}
use Rattle.edd_loader.specs.Spots.{follow}
use Rattle.edd_loader.proofs.FirstRows.{ends}
use Rattle.edd_loader.proofs.RowTurns.{rows_on}
use Rattle.edd_loader.proofs.rows.broken_name_row.Given as goal

abbrev pub invariant-loop-index : goal.invariant-loop-index
invariant-loop-index l = record {
  inside : l.index ≤ l.count;
  same : (list_all (λ r. r.padding == 0)
      (rows_on (name_fields l.bytes) 8 l.count l.start l.index)
      && fills l.place (map (λ r. r.span)
      (rows_on (name_fields l.bytes) 8 l.count l.start l.index)) l.end)
      ≡ (list_all (λ r. r.padding == 0) (rows_from (name_fields l.bytes) 8 l.count l.start)
      && fills 0 (map (λ r. r.span) (rows_from (name_fields l.bytes) 8 l.count l.start)) l.end);
  zeros : list_all (λ r. r.padding == 0) (rows_from (name_fields l.bytes) 8 l.index l.start)
      ≡ true;
  follows : follow 0 (map (λ r. r.span) (rows_from (name_fields l.bytes) 8 l.index l.start))
      ≡ true;
  here : l.place ≡ ends 0 (map (λ r. r.span)
      (rows_from (name_fields l.bytes) 8 l.index l.start));
}
