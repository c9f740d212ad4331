-- The sections of a checked description and of the code of its attributes are sound.
use Rattle.std.proofs.Common.{◌≡◌, refl, sym, ap, ◌∙◌, subst, ℕ, ◌+◌, ◌<◌, ◌≤◌, ◌^◌, Bool, true, false, List, [], ◌∷◌, length, map, IsTrue, arith}
use Rattle.std.specs.Prelude.{◌==◌, ◌&&◌, if◌then◌else◌}
use Rattle.std.specs.List.{AllByRecursion, flat_map, list_all}
use Rattle.std.proofs.lemmas.Bool.{false≢true, and_from}
use Rattle.std.proofs.lemmas.List.Elements.{recursion_from_All}
use Rattle.edd_syntax.specs.declared.numbers.Attr.TheVariants as attr
use Rattle.edd_syntax.specs.declared.reference.Target.{Target}
use Rattle.edd_syntax.specs.declared.words.Words as code_words
use Rattle.edd_syntax.specs.Numbers.{same_attr}
use Rattle.edd_syntax.specs.Item.{Description}
use Rattle.edd_syntax.specs.Resolved.{IsChecked}
use Rattle.edd_syntax.specs.Words.{Words}
use Rattle.edd_syntax.specs.WordsView.{string_of}
use Rattle.edd_instructions.specs.declared.unit.Sort.TheVariants.{Attribute, Method}
use Rattle.edd_image.specs.declared.parts.Counts.{Counts}
use Rattle.edd_image.specs.Contents.{part, Contents, fields_of_name, fields_of_attribute, contents_of}
use Rattle.edd_image.specs.Layout.{AreSections}
use Rattle.edd_image.specs.Strings.{string_bytes}
use Rattle.edd_instructions.specs.Units.{IsValidUnit}
use Rattle.edd_instructions.specs.Validity.{placed_unit, fills, rise, is_attribute_row, are_variable_rows, are_name_rows, are_attribute_rows, are_element_rows, are_string_rows, all_add_with_body, IsSound}
use Rattle.edd_instructions.specs.Agreement.{counts_of, version_for, IsAttributeCode}
use Rattle.edd_assembly.specs.Assembly.{Lowered, names_of, name_rows, attribute_rows, assembled}
use Rattle.edd_assembly.specs.LoweredUnits.{plain_row, IsBodyCode, IsUnitOf, AreUnitsOf}
use Rattle.edd_assembly.proofs.BodiesStand.{units_add}
use Rattle.edd_assembly.proofs.Cutting.{first_or, behind_first, code_of, code_cut}
use Rattle.edd_assembly.proofs.Filling.{names_fill, strings_fill, code_fills, no_name_padding}
use Rattle.edd_syntax.proofs.ItemForms.{is_formed, formed_when_checked}
use Rattle.edd_assembly.proofs.RowsPlaced.{is_placed, rows_placed}
use Rattle.edd_assembly.proofs.SmallVariables.{small_when_checked}
use Rattle.edd_assembly.proofs.SoundAttributes.{HasFewSlots, rows_sound, attributes_rise}
use Rattle.edd_assembly.proofs.SoundElements.{elements_sound}
use Rattle.edd_assembly.proofs.SoundNames.{names_sound}
use Rattle.edd_assembly.proofs.SoundRows.{variables_sound}
use Rattle.edd_assembly.proofs.SoundStrings.{strings_valid, strings_sound}

-- ---- units

module _ (unit : Description Target) (strings : List Words) where
  abbrev counts : Counts
  counts = counts_of unit.identification unit.items (length strings)

  few_slots : (l : Lowered) → IsUnitOf unit strings l → HasFewSlots l
  few_slots l = pick (same_attr l.row.attr attr.Definition)
    where
      pick : (b : Bool) → (elim b as (λ w. Type 0) [
        | true ↦ IsBodyCode unit strings l.row.sub l.code
        | false ↦ IsAttributeCode unit strings l.row l.code
      ]) → b ≡ true → l.row.sub ≤ 64
      pick true u is = u.few_slots
      pick false u is = absurd (false≢true is)

  pub all_few_slots : (ls : List Lowered) → AllByRecursion (IsUnitOf unit strings) ls
      → AllByRecursion HasFewSlots ls
  all_few_slots [] us = record {}
  all_few_slots (l ∷ ls) us = (few_slots l us.0, all_few_slots ls us.1)

  valid : (l : Lowered) → IsUnitOf unit strings l
      → IsValidUnit (record {
        version = version_for unit;
        counts = counts;
        sort = if same_attr l.row.attr
            attr.Definition then Method else Attribute;
        slots =
            if same_attr l.row.attr attr.Definition then l.row.sub else 0;
      }) l.code
  valid l = pick (same_attr l.row.attr attr.Definition)
    where
      pick : (b : Bool) → (elim b as (λ w. Type 0) [
        | true ↦ IsBodyCode unit strings l.row.sub l.code
        | false ↦ IsAttributeCode unit strings l.row l.code
      ])
          → IsValidUnit (record {
            version = version_for unit;
            counts = counts;
            sort = if b then Method else
                Attribute;
            slots = if b then l.row.sub else 0;
          }) l.code
      pick true u = u.valid
      pick false u = u.valid

  -- the rows cut the code of their units from the whole
  units_valid : (c : Contents) → c.version ≡ version_for unit → c.counts ≡ counts → (s : ℕ)
      (ls : List Lowered)
      → map (λ r. part r.span c.code) (map fields_of_attribute (attribute_rows s ls))
      ≡ map code_of ls
      → AllByRecursion (IsUnitOf unit strings) ls
      → AllByRecursion (λ u. IsValidUnit u.context u.code)
      (map (placed_unit c) (map fields_of_attribute (attribute_rows s ls)))
  units_valid c one counted s [] cuts us = record {}
  units_valid c one counted s (l ∷ ls) cuts us = (
    subst (λ code. IsValidUnit
        (record {
          version = c.version;
          counts = c.counts;
          sort = if same_attr l.row.attr
              attr.Definition then Method else Attribute;
          slots = if same_attr l.row.attr attr.Definition
              then l.row.sub else 0;
        }) code)
        (sym (ap (first_or []) cuts))
        (subst (λ v. IsValidUnit
        (record {
          version = v;
          counts = c.counts;
          sort = if same_attr l.row.attr attr.Definition
              then Method else Attribute;
          slots = if same_attr l.row.attr attr.Definition then
              l.row.sub else 0;
        }) l.code) (sym one)
        (subst (λ n. IsValidUnit
        (record {
          version = version_for unit;
          counts = n;
          sort = if same_attr l.row.attr attr.Definition then
              Method else Attribute;
          slots = if same_attr l.row.attr attr.Definition then l.row.sub
              else 0;
        }) l.code) (sym counted)
        (valid l us.0))),
    units_valid c one counted (s + length l.code) ls (ap behind_first cuts) us.1,
  )

-- ---- all sections

module _ (unit : Description Target) (lowered : List Lowered) (words : List code_words.Words)
    (checked : ∥ IsChecked unit ∥₁) (units : AreUnitsOf unit (map string_of words) lowered)
    (sections : AreSections (assembled unit lowered (map string_of words))) where
  abbrev contents : Contents
  contents = contents_of (assembled unit lowered (map string_of words))

  formed : list_all is_formed unit.items ≡ true
  formed = formed_when_checked unit checked

  each : AllByRecursion (IsUnitOf unit (map string_of words)) lowered
  each = recursion_from_All (IsUnitOf unit (map string_of words)) lowered units.each

  strings_short : length (flat_map string_bytes (map string_of words)) < 2 ^ 32
  unfolding assembled
  strings_short = omega (arith, sections.total_fits)

  variables : IsTrue (are_variable_rows contents)
  unfolding assembled
  variables = variables_sound unit.items (small_when_checked unit checked)

  names : IsTrue (are_name_rows contents)
  unfolding assembled
  names = and_from (list_all (λ r. r.padding == 0)
      (map fields_of_name (name_rows 0 (names_of unit.items))))
      (fills 0 (map (λ r. r.span) (map fields_of_name (name_rows 0 (names_of unit.items))))
      (length (flat_map (λ n. n) (names_of unit.items))))
      (no_name_padding 0 (names_of unit.items)) (names_fill (names_of unit.items))

  placed : list_all (is_placed
      (counts_of unit.identification unit.items (length (map string_of words))))
      (map plain_row lowered) ≡ true
  placed = ap (list_all (is_placed
      (counts_of unit.identification unit.items (length (map string_of words))))) units.in_order
      ∙ rows_placed unit.identification unit.items (length (map string_of words)) formed

  attributes : IsTrue (are_attribute_rows contents)
  unfolding assembled
  attributes =
      let fields = map fields_of_attribute (attribute_rows 0 lowered) in
      let counts = counts_of unit.identification unit.items (length (map string_of words)) in
      let end = length (flat_map code_of lowered) in
      and_from (list_all (is_attribute_row counts) fields)
      (rise fields && fills 0 (map (λ r. r.span) fields) end)
      (rows_sound counts 0 lowered placed (all_few_slots unit (map string_of words) lowered each))
      (and_from (rise fields) (fills 0 (map (λ r. r.span) fields) end)
      (attributes_rise unit.items lowered units.in_order) (code_fills lowered))

  elements : IsTrue (are_element_rows contents)
  unfolding assembled
  elements = elements_sound unit (length (map string_of words)) checked

  strings : IsTrue (are_string_rows contents)
  unfolding assembled
  strings = strings_fill (map string_of words)

  units_sound : AllByRecursion (λ u. IsValidUnit u.context u.code)
      (map (placed_unit contents) contents.attributes)
  unfolding assembled
  units_sound = units_valid unit (map string_of words) contents refl refl 0 lowered
      (code_cut lowered) each

  bodies : IsTrue (all_add_with_body contents)
  unfolding assembled
  bodies = units_add unit (map string_of words) lowered checked units contents refl refl
      contents.attributes units_sound

  pub sections_sound : IsSound contents
  unfolding assembled
  sections_sound = record {
    rows =
        and_from (are_variable_rows contents) (are_name_rows contents
        && (are_attribute_rows contents && (are_element_rows contents && are_string_rows contents)))
        variables
        (and_from (are_name_rows contents)
        (are_attribute_rows contents && (are_element_rows contents && are_string_rows contents))
        names
        (and_from (are_attribute_rows contents)
        (are_element_rows contents && are_string_rows contents) attributes
        (and_from (are_element_rows contents) (are_string_rows contents) elements strings)));
    names = names_sound unit.items formed;
    strings = strings_sound (map string_of words) (strings_valid words) strings_short;
    valid_units = units_sound;
    abort_methods = bodies;
  }
