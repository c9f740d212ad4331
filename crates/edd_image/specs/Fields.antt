-- The fields of an image: numbers at places, the highest byte first.
use Rattle.std.specs.Prelude.{ℕ, ◌+◌, ◌*◌, ◌==◌, Bool, ◌&&◌, nat_le, List, length, take, drop, slice_index, if◌then◌else◌}
use Rattle.std.specs.Int.{Width, w16, w32, byte_len, from_be_bytes}
use Rattle.edd_image.specs.declared.parts.Counts.{Counts}
use Rattle.edd_image.specs.Layout.{item_count}

-- the number whose bytes are at the place
unfoldable pub number_at : Width → List ℕ → ℕ → ℕ
number_at w bytes place = from_be_bytes w (take (byte_len w) (drop place bytes))

-- ---- the header

-- how many bytes the header of the first version has
abbrev pub header_length : ℕ
header_length = 56

-- `EDI1`
abbrev pub has_magic : List ℕ → Bool
has_magic b = slice_index b 0 == 0x45
    && (slice_index b 1 == 0x44 && (slice_index b 2 == 0x49 && slice_index b 3 == 0x31))

-- the number of the layout's version, known or not
abbrev pub version_number : List ℕ → ℕ
version_number b = number_at w16 b 4

-- the header is that of the second version, and whole
abbrev pub is_extended : List ℕ → Bool
is_extended b = version_number b == 2 && nat_le 64 (length b)

-- the zero after the version
abbrev pub header_padding : List ℕ → ℕ
header_padding b = number_at w16 b 6

-- how many bytes the image has, as its header says
abbrev pub total_length : List ℕ → ℕ
total_length b = number_at w32 b 8

-- the first version of the layout has no arrays
abbrev pub array_count : List ℕ → ℕ
array_count b = if is_extended b then number_at w16 b 56 else 0

-- the zero after the count of arrays
abbrev pub extension_padding : List ℕ → ℕ
extension_padding b = if is_extended b then number_at w16 b 58 else 0

-- how many element rows there are; the first version of the layout has none
abbrev pub element_count : List ℕ → ℕ
element_count b = if is_extended b then number_at w32 b 60 else 0

-- the identification and the seven counts
abbrev pub counts_in : List ℕ → Counts
counts_in b = record {
  variables = number_at w16 b 28;
  commands = number_at w16 b 30;
  menus = number_at w16 b 32;
  collections = number_at w16 b 34;
  methods = number_at w16 b 36;
  arrays = array_count b;
  strings = number_at w16 b 38;
  manufacturer = number_at w32 b 12;
  device_type = number_at w32 b 16;
  device_revision = number_at w32 b 20;
  dd_revision = number_at w32 b 24;
}

-- how many attribute rows there are
abbrev pub attribute_count : List ℕ → ℕ
attribute_count b = number_at w32 b 40

-- how many bytes all names have
abbrev pub names_length : List ℕ → ℕ
names_length b = number_at w32 b 44

-- how many bytes the code has
abbrev pub code_length : List ℕ → ℕ
code_length b = number_at w32 b 48

-- how many bytes all strings have
abbrev pub strings_length : List ℕ → ℕ
strings_length b = number_at w32 b 52

-- ---- where the sections start, one after the other

-- rows of variables, after the header
unfoldable pub variable_rows_start : List ℕ → ℕ
variable_rows_start b = if version_number b == 2 then 64 else header_length

-- rows of names, after those of variables, which have 4 bytes each
unfoldable pub name_rows_start : List ℕ → ℕ
name_rows_start b = variable_rows_start b + 4 * (counts_in b).variables

-- rows of attributes, after those of names, which have 8 bytes each
unfoldable pub attribute_rows_start : List ℕ → ℕ
attribute_rows_start b = name_rows_start b + 8 * item_count (counts_in b)

-- rows of elements, after those of attributes, which have 16 bytes each
unfoldable pub element_rows_start : List ℕ → ℕ
element_rows_start b = attribute_rows_start b + 16 * attribute_count b

-- code, after the rows of elements, which have 8 bytes each
unfoldable pub code_start : List ℕ → ℕ
code_start b = element_rows_start b + 8 * element_count b

-- rows of strings, after the code
unfoldable pub string_rows_start : List ℕ → ℕ
string_rows_start b = code_start b + code_length b

-- bytes of names, after the rows of strings, which have 8 bytes each
unfoldable pub name_bytes_start : List ℕ → ℕ
name_bytes_start b = string_rows_start b + 8 * (counts_in b).strings

-- bytes of strings, after those of names
unfoldable pub string_bytes_start : List ℕ → ℕ
string_bytes_start b = name_bytes_start b + names_length b

-- the place after the last section
unfoldable pub sections_end : List ℕ → ℕ
sections_end b = string_bytes_start b + strings_length b

-- ---- the fields of a row at a place

-- the number of a variable's type
abbrev pub variable_type : List ℕ → ℕ → ℕ
variable_type b row = slice_index b row

-- a variable's size in bytes
abbrev pub variable_size : List ℕ → ℕ → ℕ
variable_size b row = slice_index b (row + 1)

-- the zero at the end of a variable's row
abbrev pub variable_padding : List ℕ → ℕ → ℕ
variable_padding b row = number_at w16 b (row + 2)

-- where a name starts among the bytes of names
abbrev pub name_start : List ℕ → ℕ → ℕ
name_start b row = number_at w32 b row

-- how many bytes a name has
abbrev pub name_length : List ℕ → ℕ → ℕ
name_length b row = number_at w16 b (row + 4)

-- the zero at the end of a name's row
abbrev pub name_padding : List ℕ → ℕ → ℕ
name_padding b row = number_at w16 b (row + 6)

-- the number of the kind of the item whose attribute it is
abbrev pub attribute_kind : List ℕ → ℕ → ℕ
attribute_kind b row = slice_index b row

-- the number of the attribute
abbrev pub attribute_number : List ℕ → ℕ → ℕ
attribute_number b row = slice_index b (row + 1)

-- the number of the item among those of its kind
abbrev pub attribute_item : List ℕ → ℕ → ℕ
attribute_item b row = number_at w16 b (row + 2)

-- the position of a transaction, or a method's number of slots, else 0
abbrev pub attribute_sub : List ℕ → ℕ → ℕ
attribute_sub b row = number_at w16 b (row + 4)

-- the zero after the position
abbrev pub attribute_padding : List ℕ → ℕ → ℕ
attribute_padding b row = number_at w16 b (row + 6)

-- where the unit of an attribute starts in the code
abbrev pub attribute_start : List ℕ → ℕ → ℕ
attribute_start b row = number_at w32 b (row + 8)

-- how many bytes the unit has
abbrev pub attribute_length : List ℕ → ℕ → ℕ
attribute_length b row = number_at w32 b (row + 12)

-- the number of the array of an element
abbrev pub element_array : List ℕ → ℕ → ℕ
element_array b row = number_at w16 b row

-- the number of the variable that the element is
abbrev pub element_variable : List ℕ → ℕ → ℕ
element_variable b row = number_at w16 b (row + 2)

-- the number that the element has in its array
abbrev pub element_number : List ℕ → ℕ → ℕ
element_number b row = number_at w32 b (row + 4)

-- where a string starts among the bytes of strings
abbrev pub string_start : List ℕ → ℕ → ℕ
string_start b row = number_at w32 b row

-- how many bytes a string has
abbrev pub string_length : List ℕ → ℕ → ℕ
string_length b row = number_at w32 b (row + 4)
