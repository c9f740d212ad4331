use Rattle.std.proofs.Common.{arith, ◌∙◌}
use Rattle.edd_loader.proofs.Spaces.{rooms, element_rows_are}
use Rattle.edd_loader.proofs.sections.in_element_rows.Goals as goal

pub place_in-start-requires : goal.place_in-start-requires
place_in-start-requires c = omega (arith, rooms _ c.requires, c.element_rows_start.ensures.start)

pub broken_element_row-requires : goal.broken_element_row-requires
broken_element_row-requires c =
    omega (
      arith,
      rooms _ c.requires,
      c.place_in-start.ensures,
      c.element_rows_start.ensures.start,
      c.element_count-count.ensures,
    )

pub returns-clause-whether : goal.returns-clause-whether
returns-clause-whether c = c.broken_element_row.ensures.whether ∙ element_rows_are _ _ _ _ c.counts.ensures
    (c.place_in-start.ensures ∙ c.element_rows_start.ensures.start) c.element_count-count.ensures

pub returns-clause-first : goal.returns-clause-first
returns-clause-first c = rw (c.place_in-start.ensures, c.element_rows_start.ensures.start, c.element_count-count.ensures, c.counts.ensures)
    at c.broken_element_row.ensures.first
