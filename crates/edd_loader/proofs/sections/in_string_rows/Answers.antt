use Rattle.std.proofs.Common.{arith, ◌∙◌}
use Rattle.edd_loader.proofs.Spaces.{rooms, string_rows_are}
use Rattle.edd_loader.proofs.sections.in_string_rows.Goals as goal

pub place_in-start-requires : goal.place_in-start-requires
place_in-start-requires c = omega (arith, rooms _ c.requires, c.string_rows_start.ensures.start)

pub broken_string_row-requires : goal.broken_string_row-requires
broken_string_row-requires c =
    omega (
      arith,
      rooms _ c.requires,
      c.place_in-start.ensures,
      c.string_rows_start.ensures.start,
      c.string_count-count.ensures,
    )

pub returns-clause-whether : goal.returns-clause-whether
returns-clause-whether c = c.broken_string_row.ensures.whether ∙ string_rows_are _ _ _ _ c.requires
    (c.place_in-start.ensures ∙ c.string_rows_start.ensures.start) c.string_count-count.ensures
    c.strings_length-end.ensures

pub returns-clause-first : goal.returns-clause-first
returns-clause-first c = rw (c.place_in-start.ensures, c.string_rows_start.ensures.start, c.string_count-count.ensures)
    at c.broken_string_row.ensures.first
