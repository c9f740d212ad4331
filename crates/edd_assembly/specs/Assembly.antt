-- The sections of an image, from a description, the code of its attributes and its strings.
use Rattle.std.specs.Prelude.{ℕ, ◌+◌, Bool, true, List, [], ◌∷◌, length, map, Option, Some, None, unwrap_or, if◌then◌else◌}
use Rattle.std.specs.Option.{option_map_or}
use Rattle.edd_syntax.specs.declared.types.VarType.{VarType}
use Rattle.edd_syntax.specs.Numbers.{same_kind}
use Rattle.edd_syntax.specs.Names.{is_within}
use Rattle.std.specs.List.{flat_map}
use Rattle.edd_syntax.specs.declared.numbers.Kind.{Kind}
use Rattle.edd_syntax.specs.declared.numbers.Kind.TheVariants as kind
use Rattle.edd_syntax.specs.declared.numbers.AttrRef.{AttrRef}
use Rattle.edd_syntax.specs.declared.numbers.Element.{Element}
use Rattle.edd_syntax.specs.declared.reference.Target.{Target}
use Rattle.edd_syntax.specs.Text.{Name}
use Rattle.edd_syntax.specs.Words.{Words}
use Rattle.edd_syntax.specs.Item.{Attribute, TypeOf, Known, kind_of_item, Item, Description}
use Rattle.edd_syntax.specs.Resolution.{kinds}
use Rattle.edd_syntax.specs.Device.{written_type, environment}
use Rattle.edd_syntax.specs.DeviceValues.{VariableType}
use Rattle.edd_syntax.specs.Rows.{of_kind}
use Rattle.edd_image.specs.declared.parts.VarKind.{VarKind}
use Rattle.edd_image.specs.declared.parts.NameRow.{NameRow}
use Rattle.edd_image.specs.declared.parts.AttributeRow.{AttributeRow}
use Rattle.edd_image.specs.declared.parts.StringRow.{StringRow}
use Rattle.edd_image.specs.declared.parts.Counts.{Counts}
use Rattle.edd_image.specs.Layout.{Sections}
use Rattle.edd_image.specs.Strings.{string_bytes}
use Rattle.edd_image.specs.declared.versions.Version.{Version}
use Rattle.edd_instructions.specs.Agreement.{counts_of, version_for}

-- an attribute and its code; for the body of a method `sub` is its number of slots
pub record Lowered : Type 0 where
  pub row : AttrRef
  pub code : List ℕ

-- ---- names, by kind and number

-- the names of the items of a kind, in their order
abbrev pub names_of_kind : Kind → List (Item Target) → List Name
names_of_kind k items = map (λ i. i.name) (of_kind k items)

-- the names of the items of these kinds, kind after kind
abbrev pub names_of_kinds : List (Item Target) → List Kind → List Name
names_of_kinds items ks = flat_map (λ k. names_of_kind k items) ks

-- the names of all items
abbrev pub names_of : List (Item Target) → List Name
names_of items = names_of_kinds items kinds

-- the row of a name whose bytes start there
abbrev pub name_row_at : (start : ℕ) → Name → NameRow
name_row_at start n = record { start = start; length = length n }

-- the rows of names whose bytes are one after the other from there on
abbrev pub name_rows : (start : ℕ) → List Name → List NameRow
name_rows start [] = []
name_rows start (n ∷ rest) = name_row_at start n ∷ name_rows (start + length n) rest

-- ---- strings, by number

-- the row of a string whose bytes start there
abbrev pub string_row_at : (start : ℕ) → Words → StringRow
string_row_at start w = record { start = start; length = length (string_bytes w) }

-- the rows of strings whose bytes are one after the other from there on
abbrev pub string_rows : (start : ℕ) → List Words → List StringRow
string_rows start [] = []
string_rows start (w ∷ rest) = string_row_at start w ∷ string_rows (start + length (string_bytes w))
    rest

-- ---- attributes

-- the row of an attribute whose code starts there
abbrev pub attribute_row_at : (start : ℕ) → Lowered → AttributeRow
attribute_row_at start l = record {
  item = l.row.item;
  attr = l.row.attr;
  sub = l.row.sub;
  start = start;
  length = length l.code;
}

-- the rows of attributes whose code is one after the other from there on
abbrev pub attribute_rows : (start : ℕ) → List Lowered → List AttributeRow
attribute_rows start [] = []
attribute_rows start (l ∷ rest) = attribute_row_at start l ∷ attribute_rows (start + length l.code)
    rest

-- ---- variables

-- the type of a variable as an image has it
abbrev pub kind_of_type : VariableType → VarKind
kind_of_type t = record { var_type = t.type; size = t.size }

-- the type of a variable from its type and its size
abbrev pub type_of_pair : VarType × ℕ → VariableType
type_of_pair t = record { type = t.0; size = t.1 }

-- the type that an attribute writes
abbrev pub type_in : Attribute Target → Option VariableType
type_in (TypeOf (Known type size) parts) = Some (record { type = type; size = unwrap_or size 1 })
type_in _ = None

-- the attributes of a variable
abbrev pub variable_attributes : Item Target → Option (List (Attribute Target))
variable_attributes i = if same_kind (kind_of_item i.sort) kind.Variable then Some i.attributes else
    None

-- its size is 1 to 4 octets, if it is a variable
abbrev pub is_small_variable : Item Target → Bool
is_small_variable i = option_map_or (λ attributes. is_within 1 4 (written_type attributes).size)
    (variable_attributes i) true

-- the types of all variables, in their order
abbrev pub variable_kinds : List (Item Target) → List VarKind
variable_kinds items = map (λ i. kind_of_type (written_type i.attributes))
    (of_kind kind.Variable items)

-- ---- all sections, in the version of the layout that the description needs

-- the sections with these parts
abbrev pub sections : Version → Counts → List VarKind → List NameRow → List AttributeRow
    → List Element
    → (code : List ℕ) → List StringRow → (name_bytes string_bytes : List ℕ) → Sections
sections version counts variables names attributes elements code strings name_bytes string_bytes =
    record {
      version = version;
      counts = counts;
      variables = variables;
      names = names;
      attributes = attributes;
      elements = elements;
      code = code;
      strings = strings;
      name_bytes = name_bytes;
      string_bytes = string_bytes;
    }

-- the sections of the image of a description, from the code of its rows and its strings
unfoldable pub assembled : Description Target → List Lowered → List Words → Sections
assembled unit lowered strings = record {
  version = version_for unit;
  counts = counts_of unit.identification unit.items (length strings);
  variables = variable_kinds unit.items;
  names = name_rows 0 (names_of unit.items);
  attributes = attribute_rows 0 lowered;
  elements = (environment unit).elements;
  code = flat_map (λ l. l.code) lowered;
  strings = string_rows 0 strings;
  name_bytes = flat_map (λ n. n) (names_of unit.items);
  string_bytes = flat_map string_bytes strings;
}
