-- The code of a checked description is short, since it has few nodes.
use Rattle.std.proofs.Common.{◌≤◌, map, arith}
use Rattle.std.specs.Prelude.{sum}
use Rattle.edd_syntax.specs.declared.reference.Target.{Target}
use Rattle.edd_syntax.specs.Item.{Description}
use Rattle.edd_syntax.specs.Resolved.{IsChecked}
use Rattle.edd_syntax.specs.Rows.{rows}
use Rattle.edd_code.proofs.FewNodes.{few_nodes}
use Rattle.edd_assembly.specs.RowContents.{limit_of_row}
use Rattle.edd_assembly.proofs.RowLimits.{all_rows_limit}

pub short_code : (d : Description Target) → ∥ IsChecked d ∥₁
    → sum (map (λ r. limit_of_row d r) (rows d.items)) ≤ 16777216
short_code d checked = omega (arith, all_rows_limit d, few_nodes d checked)
