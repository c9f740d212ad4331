-- The bytes of an image, as a function of its parts.
use Rattle.std.specs.Prelude.{◌≡◌, ℕ, ◌+◌, ◌*◌, ◌^◌, ◌<◌, List, [], ◌∷◌, ◌++◌, length}
use Rattle.std.specs.List.{AllByRecursion, flat_map}
use Rattle.std.specs.Int.{w16, w32, to_be_bytes}
use Rattle.edd_syntax.specs.declared.types.VarType.{VarType}
use Rattle.edd_syntax.specs.declared.types.VarType.TheVariants.{Integer, UnsignedInteger, Enumerated, BitEnumerated}
use Rattle.edd_syntax.specs.declared.numbers.Element.{Element}
use Rattle.edd_syntax.specs.Numbers.{kind_number, kind_of, index_of, attr_number}
use Rattle.edd_image.specs.declared.parts.VarKind.{VarKind}
use Rattle.edd_image.specs.declared.parts.NameRow.{NameRow}
use Rattle.edd_image.specs.declared.parts.AttributeRow.{AttributeRow}
use Rattle.edd_image.specs.declared.parts.StringRow.{StringRow}
use Rattle.edd_image.specs.declared.parts.Counts.{Counts}
use Rattle.edd_image.specs.declared.parts.Parts.{Parts}
use Rattle.edd_image.specs.declared.versions.Version.{Version}
use Rattle.edd_image.specs.declared.versions.Version.TheVariants.{One, Two}
use Rattle.edd_image.specs.Versions.{version_code, header_size}

-- the sections, without where they lie in memory
pub record Sections : Type 0 where
  pub version : Version
  pub counts : Counts
  pub variables : List VarKind
  pub names : List NameRow
  pub attributes : List AttributeRow
  pub elements : List Element
  pub code : List ℕ
  pub strings : List StringRow
  pub name_bytes : List ℕ
  pub string_bytes : List ℕ

-- the sections of the parts, as lists
abbrev pub sections_of : Parts → Sections
sections_of p = record {
  version = p.version;
  counts = p.counts;
  variables = p.variables.items;
  names = p.names.items;
  attributes = p.attributes.items;
  elements = p.elements.items;
  code = p.code.items;
  strings = p.strings.items;
  name_bytes = p.name_bytes.items;
  string_bytes = p.string_bytes.items;
}

-- ---- numbers, the highest byte first

-- a number in two bytes
abbrev pub u16 : ℕ → List ℕ
u16 n = to_be_bytes w16 n

-- a number in four bytes
abbrev pub u32 : ℕ → List ℕ
u32 n = to_be_bytes w32 n

-- ---- rows

-- the number that stands for a type (this profile)
abbrev pub type_code : VarType → ℕ
type_code Integer = 1
type_code UnsignedInteger = 2
type_code Enumerated = 3
type_code BitEnumerated = 4

-- type, size and a zero
abbrev pub variable_row : VarKind → List ℕ
variable_row v = type_code v.var_type ∷ v.size ∷ u16 0

-- place and length of the name, and a zero
abbrev pub name_row : NameRow → List ℕ
name_row r = u32 r.start ++ (u16 r.length ++ u16 0)

-- kind, attribute, item and sub, by which the rows rise
abbrev pub attribute_key : AttributeRow → List ℕ
attribute_key r = kind_number (kind_of r.item) ∷ attr_number r.attr
    ∷ (u16 (index_of r.item) ++ (u16 r.sub ++ u16 0))

-- its key, and place and length of its code
abbrev pub attribute_row : AttributeRow → List ℕ
attribute_row r = attribute_key r ++ (u32 r.start ++ u32 r.length)

-- array, variable and number
abbrev pub element_row : Element → List ℕ
element_row e = u16 e.array.0 ++ (u16 e.var.0 ++ u32 e.number)

-- place and length of the string
abbrev pub string_row : StringRow → List ℕ
string_row r = u32 r.start ++ u32 r.length

-- ---- which numbers fit their fields

-- Place and length of a name fit their fields.
abbrev pub NameFits : NameRow → Type 0
NameFits r = (r.start < 2 ^ 32) × (r.length < 2 ^ 16)

-- The numbers of an attribute's row fit their fields.
abbrev pub AttributeFits : AttributeRow → Type 0
AttributeFits r = (index_of r.item < 2 ^ 16) × (r.sub < 2 ^ 16) × (r.start < 2 ^ 32)
    × (r.length < 2 ^ 32)

-- The numbers of an element's row fit their fields.
abbrev pub ElementFits : Element → Type 0
ElementFits e = (e.array.0 < 2 ^ 16) × (e.number < 2 ^ 32) × (e.var.0 < 2 ^ 16)

-- Place and length of a string fit their fields.
abbrev pub StringFits : StringRow → Type 0
StringFits r = (r.start < 2 ^ 32) × (r.length < 2 ^ 32)

-- The counts and the numbers of the identification fit their fields.
pub record CountsFit (c : Counts) : Type 0 where
  pub variables : c.variables < 2 ^ 16
  pub commands : c.commands < 2 ^ 16
  pub menus : c.menus < 2 ^ 16
  pub collections : c.collections < 2 ^ 16
  pub methods : c.methods < 2 ^ 16
  pub arrays : c.arrays < 2 ^ 16
  pub strings : c.strings < 2 ^ 16
  pub manufacturer : c.manufacturer < 2 ^ 32
  pub device_type : c.device_type < 2 ^ 32
  pub device_revision : c.device_revision < 2 ^ 32
  pub dd_revision : c.dd_revision < 2 ^ 32

-- ---- the header

-- header and sections together
abbrev pub layout_length : Sections → ℕ
layout_length s = header_size s.version + 4 * length s.variables + 8 * length s.names
    + 16 * length s.attributes + 8 * length s.elements + length s.code + 8 * length s.strings
    + length s.name_bytes + length s.string_bytes

-- how many items of all kinds there are
abbrev pub item_count : Counts → ℕ
item_count c = c.variables + c.commands + c.menus + c.collections + c.methods + c.arrays

-- the counts are those of the lists, and each number fits its field
pub record AreSections (s : Sections) : Type 0 where
  pub variables_counted : s.counts.variables ≡ length s.variables
  pub names_counted : item_count s.counts ≡ length s.names
  pub strings_counted : s.counts.strings ≡ length s.strings
  -- the first version of the layout has neither
  pub no_arrays : s.version ≡ One → s.counts.arrays ≡ 0
  pub no_elements : s.version ≡ One → length s.elements ≡ 0
  pub counts_fit : CountsFit s.counts
  pub names_fit : AllByRecursion NameFits s.names
  pub attributes_fit : AllByRecursion AttributeFits s.attributes
  pub elements_fit : AllByRecursion ElementFits s.elements
  pub strings_fit : AllByRecursion StringFits s.strings
  pub total_fits : layout_length s < 2 ^ 32

-- `EDI1`, the version and a zero
unfoldable pub magic : Version → List ℕ
magic v = 0x45 ∷ 0x44 ∷ 0x49 ∷ 0x31 ∷ u16 (version_code v) ++ u16 0

-- the identification, four bytes for each of its numbers
unfoldable pub identification : Counts → List ℕ
identification c = u32 c.manufacturer
    ++ (u32 c.device_type ++ (u32 c.device_revision ++ u32 c.dd_revision))

-- the counts of items and strings that each version has, two bytes each
unfoldable pub counts : Counts → List ℕ
counts c = u16 c.variables
    ++ (u16 c.commands ++ (u16 c.menus ++ (u16 c.collections ++ (u16 c.methods ++ u16 c.strings))))

-- how many attribute rows, and how many bytes of names, of code and of strings there are
unfoldable pub lengths : Sections → List ℕ
lengths s = u32 (length s.attributes)
    ++ (u32 (length s.name_bytes) ++ (u32 (length s.code) ++ u32 (length s.string_bytes)))

-- how many arrays and element rows there are, which the second version says too
unfoldable pub extension : Version → (arrays elements : ℕ) → List ℕ
extension One arrays elements = []
extension Two arrays elements = u16 arrays ++ (u16 0 ++ u32 elements)

-- the header: magic, total length, identification, counts, lengths, and the extension
unfoldable pub header : Sections → List ℕ
header s = magic s.version ++ (u32 (layout_length s)
    ++ (identification s.counts ++ (counts s.counts ++ (lengths s
    ++ extension s.version s.counts.arrays (length s.elements)))))

-- ---- the image

-- the bytes of an image: its header and its sections
unfoldable pub layout : Sections → List ℕ
layout s = header s ++ (flat_map variable_row s.variables
    ++ (flat_map name_row s.names
    ++ (flat_map attribute_row s.attributes
    ++ (flat_map element_row s.elements
    ++ (s.code ++ (flat_map string_row s.strings ++ (s.name_bytes ++ s.string_bytes)))))))
