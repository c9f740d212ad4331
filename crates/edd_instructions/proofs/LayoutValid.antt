-- The layout of sound parts is a valid image.
use Rattle.std.proofs.Common.{◌≡◌, ◌≤◌, true, List, [], ◌∷◌, ◌++◌, length, refl, sym, subst, ◌∙◌, arith, length-append}
use Rattle.std.proofs.lemmas.Bool.{le-leb, eq-eqb}
use Rattle.std.specs.Prelude.{Bool, is_some, ◌&&◌, IsTrue}
use Rattle.std.specs.List.{AllByRecursion, flat_map}
use Rattle.edd_image.specs.declared.versions.Version.{Version}
use Rattle.edd_image.specs.declared.versions.Version.TheVariants.{One, Two}
use Rattle.edd_image.specs.Versions.{header_size}
use Rattle.edd_instructions.specs.declared.rules.UnitRule.{UnitRule}
use Rattle.edd_instructions.specs.declared.rules.UnitRule.TheVariants as unit_rule
use Rattle.edd_instructions.specs.declared.rules.Rule.TheVariants as rule
use Rattle.edd_image.specs.Layout.{Sections, AreSections, variable_row, name_row, attribute_row, element_row, string_row, layout_length, magic, identification, counts, lengths, extension, header, layout}
use Rattle.edd_image.specs.Fields.{number_at, version_number, total_length, code_length, sections_end, header_length}
use Rattle.edd_image.specs.Contents.{Contents, version_of, contents_of}
use Rattle.edd_instructions.specs.Units.{UnitKeeps, IsValidUnit}
use Rattle.edd_instructions.specs.Validity.{code_limit, PlacedUnit, UnitsKeep, IsSound, IsValid, are_rows, are_names, are_strings, lengths_agree}
use Rattle.edd_image.proofs.LayoutRows.{variables_length, names_length_is, attributes_length, elements_length_is, strings_length_is}
use Rattle.edd_image.proofs.LayoutFields.{header_length_is, total_read, code_length_read, end_read, contents_are}

length_is : (s : Sections) → length (layout s) ≡ layout_length s
unfolding layout
length_is s =
    let a = header s in
    let b = flat_map variable_row s.variables in
    let c = flat_map name_row s.names in
    let d = flat_map attribute_row s.attributes in
    let e = flat_map element_row s.elements in
    let f = s.code in
    let g = flat_map string_row s.strings in
    let h = s.name_bytes in
    let i = s.string_bytes in
    let head = header_length_is s in
    let size = variables_length s.variables in
    let size_names = names_length_is s.names in
    let size_attributes = attributes_length s.attributes in
    let size_elements = elements_length_is s.elements in
    let size_strings = strings_length_is s.strings in
    omega (
      arith,
      length-append a (b ++ (c ++ (d ++ (e ++ (f ++ (g ++ (h ++ i))))))),
      length-append b (c ++ (d ++ (e ++ (f ++ (g ++ (h ++ i)))))),
      length-append c (d ++ (e ++ (f ++ (g ++ (h ++ i))))),
      length-append d (e ++ (f ++ (g ++ (h ++ i)))),
      length-append e (f ++ (g ++ (h ++ i))),
      length-append f (g ++ (h ++ i)),
      length-append g (h ++ i),
      length-append h i,
    )

both : {a b : Bool} → a ≡ true → b ≡ true → (a && b) ≡ true
both p q = rw (p, q) refl

keeps_of : (which : UnitRule) (u : PlacedUnit) → IsValidUnit u.context u.code
    → UnitKeeps u.context u.code which
keeps_of unit_rule.Chain u valid = valid.chain
keeps_of unit_rule.Jump u valid = valid.jumps
keeps_of unit_rule.Depth u valid = valid.depths
keeps_of unit_rule.Reference u valid = valid.references

all_keep : (which : UnitRule) (us : List PlacedUnit)
    → AllByRecursion (λ u. IsValidUnit u.context u.code) us
    → AllByRecursion (λ u. UnitKeeps u.context u.code which) us
all_keep which [] valid = tt
all_keep which (u ∷ us) valid = (keeps_of which u valid.0, all_keep which us valid.1)

units_keep : (which : UnitRule) (c : Contents) → IsSound c → UnitsKeep c which
units_keep unit_rule.Reference c sound =
    (all_keep unit_rule.Reference _ sound.valid_units, sound.abort_methods)
units_keep x c sound = all_keep x _ sound.valid_units

lengths_do : (s : Sections) → AreSections s → length s.code ≤ code_limit → lengths_agree (layout s)
    ≡ true
lengths_do s are short =
    let size = length_is s in
    let code = code_length_read s are in
    both (eq-eqb (total_length (layout s)) (length (layout s)) (total_read s are ∙ sym size))
    (both (eq-eqb (sections_end (layout s)) (length (layout s)) (end_read s are ∙ sym size))
    (le-leb (code_length (layout s)) code_limit (omega arith)))

whole_header : (v : Version) → header_length ≤ header_size v
whole_header One = omega arith
whole_header Two = omega arith

version_known : (s : Sections) (v : Version)
    → IsTrue (is_some (version_of (version_number (layout (record s { version = v })))))
unfolding layout header magic identification counts lengths extension number_at
version_known s One = refl
version_known s Two = refl

pub is_valid : (s : Sections) → AreSections s → length s.code ≤ code_limit → IsSound (contents_of s)
    → IsValid (layout s)
unfolding layout header magic identification counts lengths extension number_at
is_valid s are short sound rule.Short = le-leb header_length (length (layout s))
    (let size = length_is s in let head = whole_header s.version in omega arith)
is_valid s are short sound rule.Magic = refl
is_valid s are short sound rule.Version = version_known s s.version
is_valid s are short sound rule.Length = lengths_do s are short
is_valid s are short sound rule.Row = subst (λ (c : Contents). IsTrue (are_rows c))
    (sym (contents_are s are)) sound.rows
is_valid s are short sound rule.Name = subst (λ (c : Contents). IsTrue (are_names c))
    (sym (contents_are s are)) sound.names
is_valid s are short sound rule.Text = subst (λ (c : Contents). IsTrue (are_strings c))
    (sym (contents_are s are)) sound.strings
is_valid s are short sound (rule.Unit which) = subst (λ (c : Contents). UnitsKeep c which)
    (sym (contents_are s are)) (units_keep which (contents_of s) sound)
