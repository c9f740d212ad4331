use Rattle.std.proofs.Common.{◌≡◌, ℕ, List, ◌++◌, rules, append_assoc}
use Rattle.std.proofs.lemmas.Result.{IfOk-equal}
use Rattle.std.specs.List.{flat_map}
use Rattle.edd_image.specs.Layout.{Sections, sections_of, header, layout, variable_row, name_row, attribute_row, element_row, string_row}
use Rattle.edd_image.proofs.writing.put_sections.Goals as goal

together : (s : Sections) (out : List ℕ)
    → ((((out ++ (header s ++ (flat_map variable_row s.variables ++ (flat_map name_row s.names
    ++ (flat_map attribute_row s.attributes ++ flat_map element_row s.elements))))) ++ s.code)
    ++ flat_map string_row s.strings) ++ s.name_bytes) ++ s.string_bytes ≡ out ++ layout s
unfolding layout
together s out = simp append_assoc

pub returns-clause-bytes : goal.returns-clause-bytes
returns-clause-bytes c = search (
  rules,
  IfOk-equal,
  together (sections_of c.args.parts.now) c.args.out.now.items,
)
