-- What the code's units stand for.
use Rattle.edd_assembly.specs.declared.units.Lowered as code
use Rattle.edd_assembly.specs.Assembly as pure

-- a row with its code, as the pure data
abbrev pub lowered_of : code.Lowered → pure.Lowered
lowered_of l = record { row = l.row; code = l.code.items }
