use Rattle.std.proofs.Common.{arith, ◌∙◌}
use Rattle.edd_loader.proofs.Spaces.{rooms, attribute_rows_are}
use Rattle.edd_loader.proofs.sections.in_attribute_rows.Goals as goal

pub broken_attribute_row-requires : goal.broken_attribute_row-requires
broken_attribute_row-requires c =
    omega (
      arith,
      rooms _ c.requires,
      c.attribute_rows_start-start.ensures.start,
      c.attribute_count-count.ensures,
    )

pub returns-clause-whether : goal.returns-clause-whether
returns-clause-whether c = c.broken_attribute_row.ensures.whether ∙ attribute_rows_are _ _ _ _ _ c.requires c.counts.ensures
    c.attribute_rows_start-start.ensures.start c.attribute_count-count.ensures
    c.code_length-end.ensures

pub returns-clause-first : goal.returns-clause-first
returns-clause-first c = rw (c.attribute_rows_start-start.ensures.start, c.attribute_count-count.ensures, c.counts.ensures)
    at c.broken_attribute_row.ensures.first
