use Rattle.std.proofs.Common.{arith, sym, ◌∙◌}
use Rattle.edd_image.specs.Contents.{contents_in}
use Rattle.edd_loader.proofs.AddedMethods.{others_add_none, rows_add_all, version_one_adds_none}
use Rattle.edd_loader.proofs.Spaces.{rooms, units_lie}
use Rattle.edd_loader.proofs.abort_methods.first_bodiless.Goals as goal

pub place_in-place-requires : goal.place_in-place-requires
place_in-place-requires c = omega (arith, rooms _ c.requires.sections, c.code_start.ensures.start)

pub part-requires : goal.part-requires
part-requires c = omega (
  arith,
  rooms _ c.requires.sections,
  c.place_in-place.ensures,
  c.code_start.ensures.start,
  c.code_length-size.ensures,
)

pub bodiless_in_rows-requires-clause-room : goal.bodiless_in_rows-requires-clause-room
bodiless_in_rows-requires-clause-room c = omega (
  arith,
  rooms _ c.requires.sections,
  c.attribute_rows_start-start.ensures.start,
  c.attribute_count-count.ensures,
)

pub bodiless_in_rows-requires-clause-within : goal.bodiless_in_rows-requires-clause-within
bodiless_in_rows-requires-clause-within c =
    units_lie _ _ _ _ _ _ c.requires.sections c.requires.rows c.part.ensures
    (c.place_in-place.ensures ∙ c.code_start.ensures.start) c.code_length-size.ensures
    c.attribute_rows_start-start.ensures.start c.attribute_count-count.ensures

pub bodiless_in_rows-requires-clause-others : goal.bodiless_in_rows-requires-clause-others
bodiless_in_rows-requires-clause-others c =
    others_add_none _ _ _ _ _ _ c.part.ensures (c.place_in-place.ensures ∙ c.code_start.ensures.start)
    c.code_length-size.ensures c.attribute_rows_start-start.ensures.start
    c.attribute_count-count.ensures c.requires.chains

pub returns : goal.returns
returns c = c.bodiless_in_rows.ensures
    ∙ rows_add_all _ _ _ _ _ _ c.part.ensures (c.place_in-place.ensures ∙ c.code_start.ensures.start)
    c.code_length-size.ensures c.attribute_rows_start-start.ensures.start
    c.attribute_count-count.ensures

pub returns-then-not-is_of_version_two : goal.returns-then-not-is_of_version_two
returns-then-not-is_of_version_two c = sym (version_one_adds_none (contents_in c.args.bytes.now)
    (c.is_of_version_two.ensures c.if-not-is_of_version_two.true) c.requires.chains)
