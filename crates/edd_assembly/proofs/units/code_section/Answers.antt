use Rattle.std.proofs.Common.{refl, ◌∙◌, ap, ◌++◌, map, length, arith}
use Rattle.std.specs.List.{flat_map}
use Rattle.edd_assembly.specs.Views.{lowered_of}
use Rattle.edd_assembly.specs.Assembly.{attribute_row_at, attribute_rows}
use Rattle.edd_assembly.proofs.Appending.{row_appended, rows_done, each_appended, each_done}
use Rattle.edd_assembly.proofs.SectionSplits.{code_of, attributes_split}
use Rattle.edd_assembly.proofs.units.code_section.Goals as goal

pub loop-unit-preserved : goal.loop-unit-preserved
loop-unit-preserved c = (
  row_appended attribute_row_at attribute_rows code_of lowered_of attributes_split
      c.loop-unit.section.rows.items _ c.loop-unit.section.bytes.items c.loop-unit.unit-index
      c.args.units.now (omega arith) c.unit-item.is c.in_ok-push.ensures.rows
      c.in_ok-push.ensures.bytes c.loop-unit.invariant.0,
  each_appended code_of lowered_of c.loop-unit.section.bytes.items c.loop-unit.unit-index
      c.args.units.now (omega arith) c.unit-item.is c.in_ok-push.ensures.bytes
      c.loop-unit.invariant.1,
)

pub returns-clause-rows : goal.returns-clause-rows
returns-clause-rows c = rows_done attribute_row_at attribute_rows code_of lowered_of
    attributes_split c.loop-unit.section.rows.items _ (length c.loop-unit.section.bytes.items)
    c.loop-unit.unit-index c.args.units.now (omega arith) refl c.loop-unit.invariant.0

pub returns-clause-bytes : goal.returns-clause-bytes
returns-clause-bytes c =
    each_done code_of lowered_of c.loop-unit.section.bytes.items c.loop-unit.unit-index
    c.args.units.now (omega arith) c.loop-unit.invariant.1 ∙ ap (λ bs. bs
    ++ flat_map code_of (map lowered_of c.args.units.now)) c.new-section.ensures.bytes
