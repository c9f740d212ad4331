-- What the calls on an image look up in it.
use Rattle.std.specs.Prelude.{◌≡◌, ℕ, ◌≤◌, List, Option, Some, option_map}
use Rattle.std.specs.List.{slice_get}
use Rattle.edd_syntax.specs.declared.numbers.ItemNo.{ItemNo}
use Rattle.edd_syntax.specs.DeviceValues.{VariableType}
use Rattle.edd_syntax.specs.Text.{Name}
use Rattle.edd_image.specs.declared.parts.VarKind.{VarKind}
use Rattle.edd_instructions.specs.Agreement.{place_of_item, name_numbered}
use Rattle.edd_image.specs.Contents.{part, Contents}

-- the type that a row of the code stands for
abbrev pub type_of_kind : VarKind → VariableType
type_of_kind kind = record { type = kind.var_type; size = kind.size }

-- the name in the row of a number
abbrev pub name_in_row : Contents → ℕ → Option Name
name_in_row c row = option_map (λ r. part r.span c.name_bytes) (slice_get c.names row)

-- the bytes of a string, by its number
abbrev pub string_in_row : Contents → ℕ → Option (List ℕ)
string_in_row c row = option_map (λ span. part span c.string_bytes) (slice_get c.strings row)

-- no item of this name comes before that one, in the order of kinds and numbers
abbrev pub IsFirstNamed : Contents → Name → ItemNo → Type 0
IsFirstNamed c name item = (other : ItemNo) → name_numbered c other ≡ Some name
    → place_of_item c.counts item ≤ place_of_item c.counts other
