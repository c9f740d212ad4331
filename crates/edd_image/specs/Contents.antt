-- What an image holds, field by field: as its bytes say, and as the parts that it was made of say.
use Rattle.std.specs.Prelude.{ℕ, zero, suc, ◌+◌, ◌==◌, List, [], ◌∷◌, map, take, drop, Option, Some, None, unwrap_or, if◌then◌else◌}
use Rattle.edd_syntax.specs.declared.numbers.Element.{Element}
use Rattle.edd_syntax.specs.declared.types.VarType.{VarType}
use Rattle.edd_syntax.specs.declared.types.VarType.TheVariants as var_type
use Rattle.edd_syntax.specs.Numbers.{kind_number, kind_of, index_of, attr_number}
use Rattle.edd_image.specs.declared.parts.VarKind.{VarKind}
use Rattle.edd_image.specs.declared.parts.NameRow.{NameRow}
use Rattle.edd_image.specs.declared.parts.AttributeRow.{AttributeRow}
use Rattle.edd_image.specs.declared.parts.StringRow.{StringRow}
use Rattle.edd_image.specs.declared.parts.Counts.{Counts}
use Rattle.edd_image.specs.declared.versions.Version.{Version}
use Rattle.edd_image.specs.declared.versions.Version.TheVariants.{One, Two}
use Rattle.edd_image.specs.Layout.{Sections, type_code, item_count}
use Rattle.edd_image.specs.Fields.{version_number, header_padding, extension_padding, counts_in, attribute_count, element_count, names_length, code_length, strings_length, variable_rows_start, name_rows_start, attribute_rows_start, element_rows_start, code_start, string_rows_start, name_bytes_start, string_bytes_start, variable_type, variable_size, variable_padding, name_start, name_length, name_padding, attribute_kind, attribute_number, attribute_item, attribute_sub, attribute_padding, attribute_start, attribute_length, element_array, element_variable, element_number, string_start, string_length}

-- where something is in its section
pub record Span : Type 0 where
  pub start : ℕ
  pub size : ℕ

-- the bytes of a span
abbrev pub part : Span → List ℕ → List ℕ
part span bytes = take span.size (drop span.start bytes)

-- the rows, with their numbers as they are in the bytes
pub record VariableFields : Type 0 where
  pub type_number : ℕ
  pub size : ℕ
  pub padding : ℕ

-- the row of a name: where its bytes are, and what is there in place of the zeros
pub record NameFields : Type 0 where
  pub span : Span
  pub padding : ℕ

-- the row of an attribute: whose it is, where its code is, and what is there in place of the zeros
pub record AttributeFields : Type 0 where
  pub kind : ℕ
  pub attribute : ℕ
  pub item : ℕ
  pub sub : ℕ
  pub padding : ℕ
  pub span : Span

-- the fields of an image, section by section
pub record Contents : Type 0 where
  pub version : Version
  -- the sum of what the header has where there should be zeros
  pub padding : ℕ
  pub counts : Counts
  pub variables : List VariableFields
  pub names : List NameFields
  pub attributes : List AttributeFields
  pub elements : List Element
  pub code : List ℕ
  pub strings : List Span
  pub name_bytes : List ℕ
  pub string_bytes : List ℕ

-- ---- as the bytes say

-- the version of a number, where it is known
abbrev pub version_of : ℕ → Option Version
version_of n = if n == 1 then Some One else if n == 2 then Some Two else None

-- the type that a number stands for (this profile)
abbrev pub type_of : ℕ → Option VarType
type_of n =
    if n == type_code var_type.Integer then Some var_type.Integer else
    if n == type_code var_type.UnsignedInteger then Some var_type.UnsignedInteger else
    if n == type_code var_type.Enumerated then Some var_type.Enumerated else
    if n == type_code var_type.BitEnumerated then Some var_type.BitEnumerated else
    None

-- the fields of the row of a variable at a place
abbrev pub variable_fields : List ℕ → ℕ → VariableFields
variable_fields b row = record {
  type_number = variable_type b row;
  size = variable_size b row;
  padding = variable_padding b row;
}

-- the fields of the row of a name at a place
abbrev pub name_fields : List ℕ → ℕ → NameFields
name_fields b row = record {
  span = record { start = name_start b row; size = name_length b row };
  padding = name_padding b row;
}

-- the fields of the row of an attribute at a place
abbrev pub attribute_fields : List ℕ → ℕ → AttributeFields
attribute_fields b row = record {
  kind = attribute_kind b row;
  attribute = attribute_number b row;
  item = attribute_item b row;
  sub = attribute_sub b row;
  padding = attribute_padding b row;
  span = record { start = attribute_start b row; size = attribute_length b row };
}

-- the element whose row is at a place
abbrev pub element_fields : List ℕ → ℕ → Element
element_fields b row = record {
  array = record { 0 = element_array b row };
  number = element_number b row;
  var = record { 0 = element_variable b row };
}

-- where a string is, by its row at a place
abbrev pub string_fields : List ℕ → ℕ → Span
string_fields b row = record { start = string_start b row; size = string_length b row }

-- what is read of `count` rows of `size` bytes, the first of which is at the place
unfoldable pub rows_from : {A : Type 0} → (read : ℕ → A) → (size count place : ℕ) → List A
rows_from read size zero place = []
rows_from read size (suc n) place = read place ∷ rows_from read size n (place + size)

-- The version counts as the first where its number is not known.
unfoldable pub contents_in : List ℕ → Contents
contents_in b = record {
  version = unwrap_or (version_of (version_number b)) One;
  padding = header_padding b + extension_padding b;
  counts = counts_in b;
  variables = rows_from (variable_fields b) 4 (counts_in b).variables (variable_rows_start b);
  names = rows_from (name_fields b) 8 (item_count (counts_in b)) (name_rows_start b);
  attributes = rows_from (attribute_fields b) 16 (attribute_count b) (attribute_rows_start b);
  elements = rows_from (element_fields b) 8 (element_count b) (element_rows_start b);
  code = part (record { start = code_start b; size = code_length b }) b;
  strings = rows_from (string_fields b) 8 (counts_in b).strings (string_rows_start b);
  name_bytes = part (record { start = name_bytes_start b; size = names_length b }) b;
  string_bytes = part (record { start = string_bytes_start b; size = strings_length b }) b;
}

-- ---- as the parts say

-- the row of a variable, by its type and size
abbrev pub fields_of_variable : VarKind → VariableFields
fields_of_variable v = record { type_number = type_code v.var_type; size = v.size; padding = 0 }

-- the row of a name, by its place and length
abbrev pub fields_of_name : NameRow → NameFields
fields_of_name r = record { span = record { start = r.start; size = r.length }; padding = 0 }

-- the row of an attribute, by its item and the place of its code
abbrev pub fields_of_attribute : AttributeRow → AttributeFields
fields_of_attribute r = record {
  kind = kind_number (kind_of r.item);
  attribute = attr_number r.attr;
  item = index_of r.item;
  sub = r.sub;
  padding = 0;
  span = record { start = r.start; size = r.length };
}

-- where a string is, by its row among the parts
abbrev pub fields_of_string : StringRow → Span
fields_of_string r = record { start = r.start; size = r.length }

-- what the image of these sections holds, with zeros as padding
abbrev pub contents_of : Sections → Contents
contents_of s = record {
  version = s.version;
  padding = 0;
  counts = s.counts;
  variables = map fields_of_variable s.variables;
  names = map fields_of_name s.names;
  attributes = map fields_of_attribute s.attributes;
  elements = s.elements;
  code = s.code;
  strings = map fields_of_string s.strings;
  name_bytes = s.name_bytes;
  string_bytes = s.string_bytes;
}
