use Rattle.std.proofs.Common.{◌≡◌, ◌≤◌, true}
use Rattle.edd_image.specs.Contents.{rows_from, string_fields}
use Rattle.edd_instructions.specs.Validity.{fills}
use Rattle.edd_loader.specs.Spots.{follow}
use Rattle.edd_loader.proofs.FirstRows.{ends}
use Rattle.edd_loader.proofs.RowTurns.{rows_on}
use Rattle.edd_loader.proofs.rows.broken_string_row.Given as goal

abbrev pub invariant-loop-index : goal.invariant-loop-index
invariant-loop-index l = record {
  inside : l.index ≤ l.count;
  same : fills l.place (rows_on (string_fields l.bytes) 8 l.count l.start l.index) l.end
      ≡ fills 0 (rows_from (string_fields l.bytes) 8 l.count l.start) l.end;
  follows : follow 0 (rows_from (string_fields l.bytes) 8 l.index l.start) ≡ true;
  here : l.place ≡ ends 0 (rows_from (string_fields l.bytes) 8 l.index l.start);
}
