-- What the rule on rows says of the rows of each section.
use Rattle.std.proofs.Common.{◌≡◌, true, nat_eq}
use Rattle.std.proofs.lemmas.Bool.{and_parts}
use Rattle.edd_image.specs.Contents.{Contents}
use Rattle.edd_instructions.specs.Validity.{are_variable_rows, are_name_rows, are_attribute_rows, are_element_rows, are_string_rows, are_rows}

pub record RowRules (c : Contents) : Type 0 where
  pub variables : are_variable_rows c ≡ true
  pub names : are_name_rows c ≡ true
  pub attributes : are_attribute_rows c ≡ true
  pub elements : are_element_rows c ≡ true
  pub strings : are_string_rows c ≡ true

pub row_rules : (c : Contents) → are_rows c ≡ true → RowRules c
row_rules c h =
    let zeros = and_parts (nat_eq c.padding 0) _ h in
    let variables = and_parts (are_variable_rows c) _ zeros.1 in
    let names = and_parts (are_name_rows c) _ variables.1 in
    let attributes = and_parts (are_attribute_rows c) _ names.1 in
    let elements = and_parts (are_element_rows c) (are_string_rows c) attributes.1 in
    record {
      variables = variables.0;
      names = names.0;
      attributes = attributes.0;
      elements = elements.0;
      strings = elements.1;
    }
