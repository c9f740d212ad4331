use Rattle.std.proofs.Common.{◌≡◌, map, length}
use Rattle.edd_assembly.specs.Views.{lowered_of}
use Rattle.edd_assembly.specs.Assembly.{attribute_row_at, attribute_rows}
use Rattle.edd_assembly.proofs.Appending.{and_rest, rows_and_rest}
use Rattle.edd_assembly.proofs.SectionSplits.{code_of, attributes_split}
use Rattle.edd_assembly.proofs.units.code_section.Given as goal

-- what is there and the units to come are all rows and all bytes
abbrev pub invariant-loop-unit : goal.invariant-loop-unit
invariant-loop-unit l =
    (rows_and_rest attribute_row_at attribute_rows code_of lowered_of attributes_split
    l.section.rows.items (length l.section.bytes.items) l.unit-index l.units
    ≡ attribute_rows 0 (map lowered_of l.units))
    × (and_rest code_of lowered_of l.section.bytes.items l.unit-index l.units
    ≡ and_rest code_of lowered_of l.initial.section.bytes.items 0 l.units)
