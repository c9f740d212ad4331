-- A machine on a unit of an image, as a state.
use Rattle.std.specs.Prelude.{◌≡◌, ℕ, ◌+◌, ◌-◌, ◌≤◌, ℤ, true, List, length, Option, Some, IfSome}
use Rattle.std.specs.List.{slice_get}
use Rattle.edd_instructions.specs.declared.instruction.Instruction.{Instruction}
use Rattle.edd_instructions.specs.declared.unit.Context.{Context}
use Rattle.edd_image.specs.Contents.{AttributeFields, contents_in, part}
use Rattle.edd_image.specs.Fields.{code_start, counts_in}
use Rattle.edd_instructions.specs.References.{names_exist}
use Rattle.edd_instructions.specs.Units.{takes, leaves, is_allowed}
use Rattle.edd_instructions.specs.Validity.{sort_of, slots_of, placed_unit}
use Rattle.edd_instructions.specs.AbortMethods.{Start, step_in}
use Rattle.edd_instructions.specs.Steps.{RunningUnit, State, Effect, IsState, act}
use Rattle.edd_instructions.specs.Reading.{environment_of}
use Rattle.edd_machine.specs.declared.code_unit.CodeUnit.{CodeUnit}
use Rattle.edd_machine.specs.declared.machine.Machine.{Machine}

-- the unit of a row, whose code is among the bytes of the image
abbrev pub unit_at : List ℕ → AttributeFields → CodeUnit
unit_at b r = record {
  sort = sort_of r;
  item = r.item;
  slots = slots_of r;
  start = code_start b + r.span.start;
  size = r.span.size;
}

-- the code of a unit
abbrev pub code_at : List ℕ → CodeUnit → List ℕ
code_at b u = part (record { start = u.start; size = u.size }) b

-- a unit as what runs
abbrev pub running_unit : List ℕ → CodeUnit → RunningUnit
running_unit b u = record { sort = u.sort; code = code_at b u }

-- where a method with this unit starts
abbrev pub start_of : List ℕ → CodeUnit → Start
start_of b u = record { unit = running_unit b u; slots = u.slots }

-- a machine as a state, over the bytes of the image and these values of the device
abbrev pub state_of : List ℕ → Machine → (values : List ℤ) → State
state_of b m values = record {
  unit = running_unit b m.unit;
  place = m.place;
  operands = m.operands;
  slots = m.slots.items;
  values = values;
  status = m.status;
  abort_methods = m.abort_methods;
  is_aborting = m.is_aborting;
}

-- It is the unit of a row of the image.
pub record IsUnitOf (b : List ℕ) (u : CodeUnit) : Type 0 where
  pub number : ℕ
  pub row : AttributeFields
  pub stands : slice_get (contents_in b).attributes number ≡ Some row
  pub unit : u ≡ unit_at b row

-- The state is one of that unit, and keeps what every state of it keeps.
pub record IsStateIn (b : List ℕ) (u : CodeUnit) (s : State) : Type 0 where
  pub unit : IsUnitOf b u
  pub runs : s.unit ≡ running_unit b u
  pub state : IsState (placed_unit (contents_in b) unit.row).context
      (environment_of (contents_in b)) s

-- It runs the unit of a row of the image over these values, and keeps what every state of it keeps.
abbrev pub IsMachine : List ℕ → Machine → (values : List ℤ) → Type 0
IsMachine b m values = IsStateIn b m.unit (state_of b m values)

-- There is an effect, and it is this machine over these values with what it emits. Its changes are
-- those of the effect.
pub record IsEffect (o : Option Effect) (b : List ℕ) (m : Machine) (values : List ℤ) : Type 0 where
  pub effect : Effect
  pub is : o ≡ Some effect
  pub state : effect.state ≡ state_of b m values
  pub emitted : effect.emitted ≡ m.emitted

-- the second machine and its values are the first with its own after its step, with what follows it
abbrev pub StepsTo : List ℕ → Machine → (before : List ℤ) → Machine → (after : List ℤ) → Type 0
StepsTo b m before n after = IsEffect (step_in (contents_in b) (state_of b m before)) b n after

-- the instruction, after which the place `next` lies, makes the second machine and its values of
-- the first with its own
abbrev pub ActsTo : List ℕ → Instruction → ℕ → Machine → (before : List ℤ) → Machine
    → (after : List ℤ) → Type 0
ActsTo b i next m before n after =
    IsEffect (act (environment_of (contents_in b)) i next (state_of b m before)) b n after

-- what the rules on a unit say of the instruction at which the state is
pub record CanAct (b : List ℕ) (i : Instruction) (s : State) : Type 0 where
  pub context : Context
  pub counts : context.counts ≡ counts_in b
  pub is : IsState context (environment_of (contents_in b)) s
  pub enough : takes i ≤ length s.operands
  pub full : length s.operands ≤ 128
  pub room : IfSome (leaves i) (λ n. length s.operands - takes i + n ≤ 128)
  pub allowed : is_allowed context.version context.sort i ≡ true
  pub exist : names_exist context i ≡ true
