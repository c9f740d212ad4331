use Rattle.std.proofs.Common.{◌≡◌, ◌++◌, take}
use Rattle.std.specs.List.{AllByRecursion, flat_map}
use Rattle.edd_image.specs.Layout.{attribute_row, AttributeFits}
use Rattle.edd_image.proofs.writing.put_attributes.Given as goal

abbrev pub invariant-loop-row : goal.invariant-loop-row
invariant-loop-row l = record {
  bytes : l.out.items ≡ l.fn.out.items ++ flat_map attribute_row (take l.row-index l.rows);
  fit : AllByRecursion AttributeFits (take l.row-index l.rows);
}
