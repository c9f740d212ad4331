use Rattle.std.proofs.Common.{arith, ◌∙◌}
use Rattle.std.proofs.lemmas.Result.{MatchResult-weaker}
use Rattle.edd_instructions.specs.Units.{UnitKeeps}
use Rattle.edd_unit_rules.specs.BrokenRule.{rule_in}
use Rattle.edd_loader.proofs.BrokenUnits.{broken_of_more}
use Rattle.edd_loader.proofs.Spaces.{rooms, units_lie}
use Rattle.edd_loader.proofs.UnitTurns.{are_units_of, to_units, from_units}
use Rattle.edd_loader.proofs.units.broken_in_each.Goals as goal

pub place_in-place-requires : goal.place_in-place-requires
place_in-place-requires c = omega (arith, rooms _ c.requires.sections, c.code_start.ensures.start)

pub part-code-requires : goal.part-code-requires
part-code-requires c = omega (
  arith,
  rooms _ c.requires.sections,
  c.place_in-place.ensures,
  c.code_start.ensures.start,
  c.code_length-size.ensures,
)

pub broken_in_rows-requires-clause-room : goal.broken_in_rows-requires-clause-room
broken_in_rows-requires-clause-room c =
    omega (
      arith,
      rooms _ c.requires.sections,
      c.attribute_rows_start-start.ensures.start,
      c.attribute_count-count.ensures,
    )

pub broken_in_rows-requires-clause-within : goal.broken_in_rows-requires-clause-within
broken_in_rows-requires-clause-within c =
    units_lie _ _ _ _ _ _ c.requires.sections c.requires.rows c.part-code.ensures
    (c.place_in-place.ensures ∙ c.code_start.ensures.start) c.code_length-size.ensures
    c.attribute_rows_start-start.ensures.start c.attribute_count-count.ensures

pub returns-clause-kept : goal.returns-clause-kept
returns-clause-kept c =
    let same = are_units_of _ _ _ _ _ _ _ _ c.part-code.ensures (c.place_in-place.ensures ∙ c.code_start.ensures.start)
    c.code_length-size.ensures c.known_version.ensures c.counts.ensures
    c.attribute_rows_start-start.ensures.start c.attribute_count-count.ensures in
    MatchResult-weaker c.broken_in_rows.result c.broken_in_rows.ensures.kept
    (λ broken kept earlier lt. to_units (λ context unit. UnitKeeps context unit earlier) _ _ _ _ _
    same (kept earlier lt))
    (λ _ t. t)

pub returns-clause-broken : goal.returns-clause-broken
returns-clause-broken c =
    let same = are_units_of _ _ _ _ _ _ _ _ c.part-code.ensures (c.place_in-place.ensures ∙ c.code_start.ensures.start)
    c.code_length-size.ensures c.known_version.ensures c.counts.ensures
    c.attribute_rows_start-start.ensures.start c.attribute_count-count.ensures in
    MatchResult-weaker c.broken_in_rows.result c.broken_in_rows.ensures.broken
    (λ broken breaks. broken_of_more (rule_in broken) _ _
    (λ which kept. from_units (λ context unit. UnitKeeps context unit which) _ _ _ _ _ same
    kept) breaks)
    (λ _ t. t)
