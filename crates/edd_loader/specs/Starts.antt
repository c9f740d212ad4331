-- Where the sections of an image start.
use Rattle.std.specs.Prelude.{ℕ, List}
use Rattle.edd_image.specs.Fields.{name_rows_start, attribute_rows_start, element_rows_start, code_start, string_rows_start, name_bytes_start, string_bytes_start}
use Rattle.edd_loader.specs.declared.starts.Starts.{Starts}

-- the starts of all sections, as the bytes of the image say
abbrev pub starts_in : List ℕ → Starts
starts_in b = record {
  name_rows = name_rows_start b;
  attribute_rows = attribute_rows_start b;
  element_rows = element_rows_start b;
  code = code_start b;
  string_rows = string_rows_start b;
  names = name_bytes_start b;
  strings = string_bytes_start b;
}
