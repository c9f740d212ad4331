use Rattle.std.proofs.Common.{map, take}
use Rattle.edd_assembly.specs.Views.{lowered_of}
use Rattle.edd_code.specs.Units.{description_of}
use Rattle.edd_compiler.specs.Lowering.{HasLowered}
use Rattle.edd_compiler.proofs.lowering.lower_rows.Given as goal

-- the rows so far have their units
abbrev pub invariant-loop-row : goal.invariant-loop-row
invariant-loop-row l = HasLowered (description_of l.checked)
    (take l.row-index (map (λ r. r.row) l.rows)) l.lowering.table
    (map lowered_of l.lowering.units.items)
