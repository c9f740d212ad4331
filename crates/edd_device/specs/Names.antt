-- The names by which a device is tied to its instrument.
use Rattle.std.specs.Prelude.{ℕ, zero, suc, ℤ, Bool, true, false, List, ◌++◌, Option, Some, None, option_map, codes}
use Rattle.std.specs.Fmt.{signed_decimal}
use Rattle.std.specs.Str.{bytes_eq}
use Rattle.edd_syntax.specs.declared.numbers.ItemNo.{ItemNo}
use Rattle.edd_syntax.specs.declared.numbers.ItemNo.TheVariants as items
use Rattle.edd_syntax.specs.declared.numbers.MethNo.{MethNo}
use Rattle.edd_syntax.specs.declared.numbers.VarNo.{VarNo}
use Rattle.edd_syntax.specs.Text.{Name}
use Rattle.edd_image.specs.Contents.{contents_in}
use Rattle.edd_image.specs.Fields.{counts_in}
use Rattle.edd_instructions.specs.Agreement.{name_numbered}

-- the item has this name
abbrev pub is_named : (b : List ℕ) → Name → ItemNo → Bool
is_named b name item = elim (name_numbered (contents_in b) item) [
  | None ↦ false
  | Some given ↦ bytes_eq given name
]

-- of so many numbers from this one on the first that passes the test
abbrev pub first_of : (ℕ → Bool) → (from left : ℕ) → Option ℕ
first_of test from zero = None
first_of test from (suc left) = elim (test from) [
  | true ↦ Some from
  | false ↦ first_of test (suc from) left
]

-- the first variable of this name
abbrev pub variable_named : (b : List ℕ) → Name → Option VarNo
variable_named b name = option_map (λ n. record { 0 = n })
    (first_of (λ n. is_named b name (items.Variable (record { 0 = n }))) 0
    (counts_in b).variables)

-- the first method of this name
abbrev pub method_named : (b : List ℕ) → Name → Option MethNo
method_named b name = option_map (λ n. record { 0 = n })
    (first_of (λ n. is_named b name (items.Method (record { 0 = n }))) 0 (counts_in b).methods)

-- the device's variable of the name of one of the instrument's, if it has one
abbrev pub counterpart : (instrument device : List ℕ) → VarNo → Option VarNo
counterpart instrument device v =
    elim (name_numbered (contents_in instrument) (items.Variable v)) [
      | None ↦ None
      | Some name ↦ variable_named device name
    ]

-- the variable that holds the code of a device's answer
abbrev pub response_code : Name
response_code = codes "response_code"

-- the method that is what a second does to a device
abbrev pub second : Name
second = codes "second"

-- the method that is what a transaction of a command does to a device
abbrev pub command_method : (number transaction : ℤ) → Name
command_method number transaction = codes "command_"
    ++ (signed_decimal number ++ (codes "_" ++ signed_decimal transaction))
