-- What a program in C keeps of an image.
use Rattle.std.specs.Prelude.{◌≡◌, ℕ, ◌≤◌, List, length}
use Rattle.edd_image.specs.Fields.{header_length, version_number, total_length, counts_in, attribute_count, element_count, code_length, names_length, strings_length}
use Rattle.edd_embed.specs.declared.image.ImageNumbers.{ImageNumbers}

-- the numbers in the header
abbrev pub numbers_in : List ℕ → ImageNumbers
numbers_in b = record {
  length = total_length b;
  manufacturer = (counts_in b).manufacturer;
  device_type = (counts_in b).device_type;
  device_revision = (counts_in b).device_revision;
  dd_revision = (counts_in b).dd_revision;
  attribute_rows = attribute_count b;
  element_rows = element_count b;
  code_length = code_length b;
  names_length = names_length b;
  strings_length = strings_length b;
  version = version_number b;
  variables = (counts_in b).variables;
  commands = (counts_in b).commands;
  menus = (counts_in b).menus;
  collections = (counts_in b).collections;
  methods = (counts_in b).methods;
  arrays = (counts_in b).arrays;
  strings = (counts_in b).strings;
}

-- the bytes have a header, are as many as it says, and these are its numbers
pub record AreOf (n : ImageNumbers) (b : List ℕ) : Type 0 where
  pub header : header_length ≤ length b
  pub whole : total_length b ≡ length b
  pub same : n ≡ numbers_in b
