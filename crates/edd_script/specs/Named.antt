-- The variables that a script may name, and the one of a name.
use Rattle.std.specs.Prelude.{ℕ, zero, suc, Bool, true, false, Option, Some, None}
use Rattle.std.specs.Str.{bytes_eq}
use Rattle.edd_syntax.specs.declared.numbers.VarNo.{VarNo}
use Rattle.edd_syntax.specs.declared.numbers.ItemNo.TheVariants as items
use Rattle.edd_syntax.specs.Text.{Name}
use Rattle.edd_image.specs.Contents.{Contents}
use Rattle.edd_instructions.specs.Agreement.{name_numbered}

-- how many variables there are, and their names by number
pub record VariableNames : Type 0 where
  pub count : ℕ
  pub name : (number : ℕ) → Option Name

-- those of an image
abbrev pub variables_in : Contents → VariableNames
variables_in c = record {
  count = c.counts.variables;
  name = λ number. name_numbered c (items.Variable (record { 0 = number }));
}

-- the variable of this number has this name
abbrev pub is_named : VariableNames → Name → (number : ℕ) → Bool
is_named names name number = elim (names.name number) [
  | None ↦ false
  | Some its ↦ bytes_eq its name
]

-- the first variable of this name, of so many from a number on
abbrev pub first_named : VariableNames → Name → (count : ℕ) → (number : ℕ) → Option VarNo
first_named names name zero number = None
first_named names name (suc count) number = elim (is_named names name number) [
  | true ↦ Some (record { 0 = number })
  | false ↦ first_named names name count (suc number)
]

-- the first variable of this name
abbrev pub variable_named : VariableNames → Name → Option VarNo
variable_named names name = first_named names name names.count 0
