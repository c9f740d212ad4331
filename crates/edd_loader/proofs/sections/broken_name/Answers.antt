use Rattle.std.proofs.Common.{arith, ap, ◌∙◌}
use Rattle.edd_image.specs.Layout.{item_count}
use Rattle.edd_loader.proofs.Spaces.{rooms, names_are, names_lie}
use Rattle.edd_loader.proofs.sections.broken_name.Goals as goal

pub place_in-place-requires : goal.place_in-place-requires
place_in-place-requires c = omega (arith, rooms _ c.requires.sections, c.name_bytes_start.ensures.start)

pub part-requires : goal.part-requires
part-requires c = omega (
  arith,
  rooms _ c.requires.sections,
  c.place_in-place.ensures,
  c.name_bytes_start.ensures.start,
  c.names_length-size.ensures,
)

pub first_no_name-requires-clause-room : goal.first_no_name-requires-clause-room
first_no_name-requires-clause-room c =
    omega (
      arith,
      rooms _ c.requires.sections,
      c.name_rows_start-start.ensures.start,
      c.item_count-count.ensures ∙ ap item_count c.counts.ensures,
    )

pub first_no_name-requires-clause-within : goal.first_no_name-requires-clause-within
first_no_name-requires-clause-within c =
    names_lie _ _ _ _ _ _ c.requires.sections c.requires.rows c.part.ensures
    (c.place_in-place.ensures ∙ c.name_bytes_start.ensures.start) c.names_length-size.ensures
    c.name_rows_start-start.ensures.start (c.item_count-count.ensures
    ∙ ap item_count c.counts.ensures)

pub returns-clause-whether : goal.returns-clause-whether
returns-clause-whether c =
    c.first_no_name.ensures.whether ∙ names_are _ _ _ _ _ _ c.part.ensures
    (c.place_in-place.ensures ∙ c.name_bytes_start.ensures.start) c.names_length-size.ensures
    c.name_rows_start-start.ensures.start (c.item_count-count.ensures
    ∙ ap item_count c.counts.ensures)

pub returns-clause-first : goal.returns-clause-first
returns-clause-first c = rw (
  c.part.ensures,
  c.place_in-place.ensures,
  c.name_bytes_start.ensures.start,
  c.names_length-size.ensures,
  c.name_rows_start-start.ensures.start,
  c.item_count-count.ensures,
  c.counts.ensures,
)
    at c.first_no_name.ensures.first
