-- The records of an attribute on a line.
use Rattle.std.specs.Prelude.{ℕ, ◌==◌, if◌then◌else◌, List, [], ◌∷◌, ◌++◌}
use Rattle.std.specs.Fmt.{decimal, signed_decimal}
use Rattle.std.specs.List.{flat_map}
use Rattle.edd_syntax.specs.declared.numbers.ItemNo.TheVariants as items
use Rattle.edd_image.specs.Contents.{Contents}
use Rattle.edd_instructions.specs.declared.records.Record.{Record}
use Rattle.edd_instructions.specs.declared.records.Record.TheVariants as records
use Rattle.edd_display.specs.Words.{class_word, menu_qualifiers, data_qualifiers, qualifiers_shown, string_shown, member_shown, optional_shown, name_of}

-- a mask between angle brackets, where there is one
abbrev pub mask_shown : ℕ → List ℕ
mask_shown mask = if mask == 0 then [] else 60 ∷ decimal mask ++ 62 ∷ []

-- one record
unfoldable pub record_shown : Contents → (code : List ℕ) → Record → List ℕ
record_shown c code (records.Words text) = string_shown c code text
record_shown c code (records.Number z) = signed_decimal z
record_shown c code (records.Entry item quals) =
    name_of c item ++ qualifiers_shown quals menu_qualifiers
record_shown c code (records.DataConst n) = decimal n
record_shown c code (records.DataVar var mask quals) =
    name_of c (items.Variable var) ++ mask_shown mask ++ qualifiers_shown quals data_qualifiers
record_shown c code (records.Enumerator value text help) =
    123 ∷ signed_decimal value ++ 32 ∷ string_shown c code text ++ optional_shown c code help
    ++ 125 ∷ []
record_shown c code (records.Response number class text) =
    123 ∷ decimal number ++ 32 ∷ class_word class ++ 32 ∷ string_shown c code text ++ 125 ∷ []
record_shown c code (records.Member name item label help) =
    123 ∷ member_shown c code name ++ 32 ∷ name_of c item ++ optional_shown c code label
    ++ optional_shown c code help ++ 125 ∷ []
record_shown c code (records.Element number var label help) =
    123 ∷ decimal number ++ 32 ∷ name_of c (items.Variable var) ++ optional_shown c code label
    ++ optional_shown c code help ++ 125 ∷ []

-- the records in their order, each after a blank
abbrev pub records_shown : Contents → (code : List ℕ) → List Record → List ℕ
records_shown c code rs = flat_map (λ r. 32 ∷ record_shown c code r) rs
