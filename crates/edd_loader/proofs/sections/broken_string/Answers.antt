use Rattle.std.proofs.Common.{arith, ◌∙◌}
use Rattle.edd_loader.proofs.Spaces.{rooms, strings_are, strings_lie}
use Rattle.edd_loader.proofs.sections.broken_string.Goals as goal

pub place_in-start-requires : goal.place_in-start-requires
place_in-start-requires c = omega (arith, rooms _ c.requires.sections, c.string_rows_start.ensures.start)

pub place_in-place-requires : goal.place_in-place-requires
place_in-place-requires c = omega (arith, rooms _ c.requires.sections, c.string_bytes_start.ensures.start)

pub part-requires : goal.part-requires
part-requires c = omega (
  arith,
  rooms _ c.requires.sections,
  c.place_in-place.ensures,
  c.string_bytes_start.ensures.start,
  c.strings_length-size.ensures,
)

pub first_no_string-requires-clause-room : goal.first_no_string-requires-clause-room
first_no_string-requires-clause-room c =
    omega (
      arith,
      rooms _ c.requires.sections,
      c.place_in-start.ensures,
      c.string_rows_start.ensures.start,
      c.string_count-count.ensures,
    )

pub first_no_string-requires-clause-within : goal.first_no_string-requires-clause-within
first_no_string-requires-clause-within c =
    strings_lie _ _ _ _ _ _ c.requires.sections c.requires.rows c.part.ensures
    (c.place_in-place.ensures ∙ c.string_bytes_start.ensures.start) c.strings_length-size.ensures
    (c.place_in-start.ensures ∙ c.string_rows_start.ensures.start) c.string_count-count.ensures

pub returns-clause-whether : goal.returns-clause-whether
returns-clause-whether c =
    c.first_no_string.ensures.whether ∙ strings_are _ _ _ _ _ _ c.part.ensures
    (c.place_in-place.ensures ∙ c.string_bytes_start.ensures.start) c.strings_length-size.ensures
    (c.place_in-start.ensures ∙ c.string_rows_start.ensures.start) c.string_count-count.ensures

pub returns-clause-first : goal.returns-clause-first
returns-clause-first c = rw (
  c.part.ensures,
  c.place_in-place.ensures,
  c.string_bytes_start.ensures.start,
  c.strings_length-size.ensures,
  c.place_in-start.ensures,
  c.string_rows_start.ensures.start,
  c.string_count-count.ensures,
)
    at c.first_no_string.ensures.first
