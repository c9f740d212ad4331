use Rattle.std.proofs.Common.{refl}
use Rattle.edd_image.specs.Contents.{contents_in, rows_from}
use Rattle.edd_image.specs.Fields.{attribute_rows_start, code_start, element_rows_start, name_bytes_start, name_rows_start, number_at, sections_end, string_bytes_start, string_rows_start, variable_rows_start}
use Rattle.test_definitions.proofs.layouts.second_version.Goals as goal

pub returns-clause-version : goal.returns-clause-version
unfolding number_at variable_rows_start name_rows_start attribute_rows_start element_rows_start code_start string_rows_start name_bytes_start string_bytes_start sections_end rows_from contents_in
returns-clause-version c = refl

pub returns-clause-padding : goal.returns-clause-padding
unfolding number_at variable_rows_start name_rows_start attribute_rows_start element_rows_start code_start string_rows_start name_bytes_start string_bytes_start sections_end rows_from contents_in
returns-clause-padding c = refl

pub returns-clause-counts : goal.returns-clause-counts
unfolding number_at variable_rows_start name_rows_start attribute_rows_start element_rows_start code_start string_rows_start name_bytes_start string_bytes_start sections_end rows_from contents_in
returns-clause-counts c = refl

pub returns-clause-variables : goal.returns-clause-variables
unfolding number_at variable_rows_start name_rows_start attribute_rows_start element_rows_start code_start string_rows_start name_bytes_start string_bytes_start sections_end rows_from contents_in
returns-clause-variables c = refl

pub returns-clause-names : goal.returns-clause-names
unfolding number_at variable_rows_start name_rows_start attribute_rows_start element_rows_start code_start string_rows_start name_bytes_start string_bytes_start sections_end rows_from contents_in
returns-clause-names c = refl

pub returns-clause-attributes : goal.returns-clause-attributes
unfolding number_at variable_rows_start name_rows_start attribute_rows_start element_rows_start code_start string_rows_start name_bytes_start string_bytes_start sections_end rows_from contents_in
returns-clause-attributes c = refl

pub returns-clause-elements : goal.returns-clause-elements
unfolding number_at variable_rows_start name_rows_start attribute_rows_start element_rows_start code_start string_rows_start name_bytes_start string_bytes_start sections_end rows_from contents_in
returns-clause-elements c = refl

pub returns-clause-code : goal.returns-clause-code
unfolding number_at variable_rows_start name_rows_start attribute_rows_start element_rows_start code_start string_rows_start name_bytes_start string_bytes_start sections_end rows_from contents_in
returns-clause-code c = refl

pub returns-clause-strings : goal.returns-clause-strings
unfolding number_at variable_rows_start name_rows_start attribute_rows_start element_rows_start code_start string_rows_start name_bytes_start string_bytes_start sections_end rows_from contents_in
returns-clause-strings c = refl

pub returns-clause-name_bytes : goal.returns-clause-name_bytes
unfolding number_at variable_rows_start name_rows_start attribute_rows_start element_rows_start code_start string_rows_start name_bytes_start string_bytes_start sections_end rows_from contents_in
returns-clause-name_bytes c = refl

pub returns-clause-string_bytes : goal.returns-clause-string_bytes
unfolding number_at variable_rows_start name_rows_start attribute_rows_start element_rows_start code_start string_rows_start name_bytes_start string_bytes_start sections_end rows_from contents_in
returns-clause-string_bytes c = refl

pub returns-clause-whole : goal.returns-clause-whole
unfolding number_at variable_rows_start name_rows_start attribute_rows_start element_rows_start code_start string_rows_start name_bytes_start string_bytes_start sections_end rows_from contents_in
returns-clause-whole c = refl
