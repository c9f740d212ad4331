-- What goes from the instrument to the device with a request, and back with a reply.
use Rattle.std.specs.Prelude.{◌≡◌, ◌⊎◌, ℕ, ℤ, pos, List, [], ◌∷◌, ◌++◌, Option, Some, None, option_map, unwrap_or, Result, Ok, Err, if◌then◌else◌, slice_get, slice_set}
use Rattle.edd_syntax.specs.declared.numbers.VarNo.{VarNo}
use Rattle.edd_syntax.specs.declared.types.VarType.TheVariants.{Integer}
use Rattle.edd_syntax.specs.Answers.{Change, set_fault}
use Rattle.edd_syntax.specs.DeviceValues.{is_in_range}
use Rattle.edd_instructions.specs.declared.records.Record.{Record}
use Rattle.edd_instructions.specs.declared.records.Record.TheVariants as records
use Rattle.edd_machine.specs.Types.{types_in}
use Rattle.edd_device.specs.declared.fault.DeviceFault.{DeviceFault}
use Rattle.edd_device.specs.declared.fault.DeviceFault.TheVariants.{OutOfRange, WrongCode}
use Rattle.edd_device.specs.Names.{counterpart, response_code, variable_named}

-- a variable of the instrument and the device's of the same name
pub record Pair : Type 0 where
  pub ours : VarNo
  pub theirs : VarNo

-- the value of a variable, 0 where there is none
abbrev pub number_at : List ℤ → VarNo → ℤ
number_at values v = unwrap_or (slice_get values v.0) (pos 0)

-- the variables that an entry of a message ties; the whole variable is moved, whatever its mask
abbrev pub tied : (instrument device : List ℕ) → Record → Option Pair
tied i d (records.DataVar v mask quals) =
    option_map (λ w. record { ours = v; theirs = w }) (counterpart i d v)
tied i d _ = None

-- The device's values after the entries of a request: each takes the instrument's value, unless it
-- is out of the range of the device's variable.
abbrev pub requested : (i d : List ℕ) → (values : List ℤ) → List Record → (device : List ℤ)
    → Result (List ℤ) DeviceFault
requested i d values [] device = Ok device
requested i d values (r ∷ rest) device = elim (tied i d r) [
  | None ↦ requested i d values rest device
  | Some pair ↦ elim (set_fault (types_in d)
      (record { variable = pair.theirs; value = number_at values pair.ours })) [
        | Some fault ↦ Err (OutOfRange pair.ours)
        | None ↦ requested i d values rest
            (slice_set device pair.theirs.0 (number_at values pair.ours))
      ]
]

-- one set more before others
abbrev pub with_set : Change → Result (List Change) DeviceFault → Result (List Change) DeviceFault
with_set set (Ok sets) = Ok (set ∷ sets)
with_set set (Err fault) = Err fault

-- the entry is this variable
abbrev pub IsEntryOf : Record → VarNo → Type 0
IsEntryOf (records.Words s) v = ⊥
IsEntryOf (records.Number n) v = ⊥
IsEntryOf (records.Entry item quals) v = ⊥
IsEntryOf (records.DataConst n) v = ⊥
IsEntryOf (records.DataVar w mask quals) v = w ≡ v
IsEntryOf (records.Enumerator n text help) v = ⊥
IsEntryOf (records.Response n class text) v = ⊥
IsEntryOf (records.Member name item label help) v = ⊥
IsEntryOf (records.Element n w label help) v = ⊥

-- one of the entries is this variable
abbrev pub IsAmong : List Record → VarNo → Type 0
IsAmong [] v = ⊥
IsAmong (r ∷ rest) v = IsEntryOf r v ⊎ IsAmong rest v

-- these sets before others
abbrev pub with_sets : List Change → Result (List Change) DeviceFault
    → Result (List Change) DeviceFault
with_sets sets (Ok rest) = Ok (sets ++ rest)
with_sets sets (Err fault) = Err fault

-- The sets of an answer: each entry of the reply that the device has gives its value, unless it is
-- out of the range of the instrument's variable.
abbrev pub replied : (i d : List ℕ) → List Record → (device : List ℤ)
    → Result (List Change) DeviceFault
replied i d [] device = Ok []
replied i d (r ∷ rest) device = elim (tied i d r) [
  | None ↦ replied i d rest device
  | Some pair ↦ elim (set_fault (types_in i)
      (record { variable = pair.ours; value = number_at device pair.theirs })) [
        | Some fault ↦ Err (OutOfRange pair.ours)
        | None ↦ with_set (record { variable = pair.ours; value = number_at device pair.theirs })
            (replied i d rest device)
      ]
]

-- the device's values with the code of its answer set to 0
abbrev pub code_cleared : (d : List ℕ) → (device : List ℤ) → List ℤ
code_cleared d device = elim (variable_named d response_code) [
  | None ↦ device
  | Some v ↦ slice_set device v.0 (pos 0)
]

-- a code has 32 bits
abbrev pub code_within : ℤ → Result ℤ DeviceFault
code_within n = if is_in_range (record { type = Integer; size = 4 }) n then Ok n else Err WrongCode

-- the code of the device's answer: 0 where it has no variable for it
abbrev pub code_of : (d : List ℕ) → (device : List ℤ) → Result ℤ DeviceFault
code_of d device = elim (variable_named d response_code) [
  | None ↦ Ok (pos 0)
  | Some v ↦ code_within (number_at device v)
]
