use Rattle.std.proofs.Common.{◌≡◌, ◌++◌, take}
use Rattle.std.specs.List.{AllByRecursion, flat_map}
use Rattle.edd_image.specs.Layout.{element_row, ElementFits}
use Rattle.edd_image.proofs.writing.put_elements.Given as goal

abbrev pub invariant-loop-row : goal.invariant-loop-row
invariant-loop-row l = record {
  bytes : l.out.items ≡ l.fn.out.items ++ flat_map element_row (take l.row-index l.rows);
  fit : AllByRecursion ElementFits (take l.row-index l.rows);
}
