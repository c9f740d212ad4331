use Rattle.std.proofs.Common.{map}
use Rattle.edd_syntax.specs.ItemView.{numbered_type_part}
use Rattle.edd_code.specs.Tables.{Grows}
use Rattle.edd_attrs.specs.Writing.{element_strings}
use Rattle.edd_attrs.proofs.Loops.{Front}
use Rattle.edd_attrs.proofs.Parts.{IsPartsBlock}
use Rattle.edd_attrs.proofs.lowering.write_parts.Given as goal

-- the parts so far are written
abbrev pub invariant-loop-part : goal.invariant-loop-part
invariant-loop-part l = record {
  front : Front element_strings IsPartsBlock l.part-index (map numbered_type_part l.parts)
      l.initial.table l.initial.code l.table l.code;
  grows : Grows l.initial.table l.table;
}
