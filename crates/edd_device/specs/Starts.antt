-- The values with which a device starts.
use Rattle.std.specs.Prelude.{◌≡◌, ℕ, ℤ, pos, List, length, Option, Some, None, replicate, slice_get}
use Rattle.edd_syntax.specs.declared.numbers.Attr.TheVariants as attr
use Rattle.edd_syntax.specs.declared.numbers.AttrRef.{AttrRef}
use Rattle.edd_syntax.specs.declared.numbers.ItemNo.TheVariants as items
use Rattle.edd_syntax.specs.Answers.{SetFault, set_fault}
use Rattle.edd_instructions.specs.Reading.{Reading, IsReading}
use Rattle.edd_machine.specs.Types.{types_in}
use Rattle.edd_device.specs.Messages.{number_read}

-- the attribute that says how a variable starts
abbrev pub default_of : (variable : ℕ) → AttrRef
default_of variable =
    record { item = items.Variable (record { 0 = variable }); attr = attr.DefaultValue; sub = 0 }

-- all variables are 0
abbrev pub zeros : (b : List ℕ) → List ℤ
zeros b = replicate (length (types_in b)) (pos 0)

-- a number, or 0 where the variable can't have it
abbrev pub unless_bad : ℤ → Option SetFault → ℤ
unless_bad n None = n
unless_bad n (Some fault) = pos 0

-- the number, or 0 where there is none or the variable can't have it
abbrev pub or_zero : (b : List ℕ) → (variable : ℕ) → Option ℤ → ℤ
or_zero b variable None = pos 0
or_zero b variable (Some n) = unless_bad n (set_fault (types_in b)
    (record { variable = record { 0 = variable }; value = n }))

-- the number that is read of DEFAULT_VALUE, or 0 where there is none or it is out of range
abbrev pub start_number : (b : List ℕ) → (variable : ℕ) → Reading → ℤ
start_number b variable r = or_zero b variable (number_read r)

-- a variable starts with this: its default is read where all variables are 0
abbrev pub StartsAs : (b : List ℕ) → (variable : ℕ) → ℤ → Type 0
StartsAs b variable n = (r : Reading) × IsReading b (default_of variable) (zeros b) r
    × (n ≡ start_number b variable r)

-- the values with which a device starts
pub record IsStart (b : List ℕ) (values : List ℤ) : Type 0 where
  pub count : length values ≡ length (types_in b)
  pub starts : (k : ℕ) (n : ℤ) → slice_get values k ≡ Some n → StartsAs b k n
