-- The rules on a unit: the code of one attribute or of one method.
use Rattle.std.specs.Prelude.{◌≡◌, ℕ, zero, suc, ◌+◌, ◌-◌, ◌<◌, ◌≤◌, ◌==◌, Bool, true, false, ◌&&◌, List, [], ◌∷◌, ◌++◌, length, Option, Some, None, option_map, nat_lt, IsTrue}
use Rattle.std.specs.List.{AllByRecursion, list_all, list_any}
use Rattle.std.specs.Option.{option_to_list, option_map_or}
use Rattle.edd_instructions.specs.declared.instruction.Ask.{Ask}
use Rattle.edd_syntax.specs.Builtins.{numbers_taken}
use Rattle.edd_instructions.specs.declared.instruction.Instruction.{Instruction}
use Rattle.edd_instructions.specs.declared.instruction.Instruction.TheVariants as instruction
use Rattle.edd_image.specs.declared.versions.Version.{Version}
use Rattle.edd_image.specs.declared.versions.Version.TheVariants.{One, Two}
use Rattle.edd_instructions.specs.declared.unit.Sort.{Sort}
use Rattle.edd_instructions.specs.declared.unit.Sort.TheVariants.{Attribute, Method}
use Rattle.edd_instructions.specs.declared.unit.Context.{Context}
use Rattle.edd_instructions.specs.declared.unit.Way.{Way}
use Rattle.edd_instructions.specs.declared.rules.UnitRule.{UnitRule}
use Rattle.edd_instructions.specs.declared.rules.UnitRule.TheVariants.{Chain, Jump, Depth, Reference}
use Rattle.edd_instructions.specs.Decoding.{instruction_at}
use Rattle.edd_instructions.specs.References.{names_exist}

-- ---- the instructions of a unit

-- an instruction, where it is, and the place after it
pub record Placed : Type 0 where
  pub place : ℕ
  pub instruction : Instruction
  pub next : ℕ

-- what is found at a place, then the others from the place after it on; none if none is found
abbrev pub before : ℕ → Option (Instruction × ℕ) → (ℕ → List Placed) → List Placed
before place None others = []
before place (Some found) others = record { place = place; instruction = found.0; next = found.1 }
    ∷ others found.1

-- at most n instructions, one after the other from a place on
unfoldable pub instructions_from : ℕ → List ℕ → ℕ → List Placed
instructions_from zero code place = []
instructions_from (suc n) code place = before place (instruction_at code place)
    (λ next. instructions_from n code next)

-- the instructions, one after the other from the first byte on, as far as there are whole ones
unfoldable pub instructions : List ℕ → List Placed
instructions code = instructions_from (length code) code 0

-- the place after the last of them
abbrev pub end_of : ℕ → List Placed → ℕ
end_of place [] = place
end_of place (x ∷ xs) = end_of x.next xs

-- ---- what an instruction does to the number of operands

-- how many numbers a request has
abbrev pub numbers_asked : Ask → ℕ
numbers_asked a = numbers_taken a.kind

-- how many operands it takes off the stack, or reads there
abbrev pub takes : Instruction → ℕ
takes (instruction.Store v) = 1
takes (instruction.SetLocal slot) = 1
takes instruction.Pop = 1
takes instruction.Duplicate = 1
takes (instruction.ReadElement a) = 1
takes (instruction.Operate op) = 2
takes (instruction.Compare op) = 2
takes instruction.Negate = 1
takes instruction.Not = 1
takes instruction.Complement = 1
takes (instruction.JumpIfZero to) = 1
takes (instruction.JumpIfNotZero to) = 1
takes (instruction.Case label to) = 1
takes instruction.Number = 1
takes (instruction.Ask request) = numbers_asked request
takes _ = 0

-- how many it leaves in place of those, where it goes on to the instruction after it
abbrev pub leaves : Instruction → Option ℕ
leaves instruction.End = None
leaves instruction.Pop = Some 0
leaves instruction.Duplicate = Some 2
leaves (instruction.Jump to) = None
leaves (instruction.JumpIfZero to) = Some 0
leaves (instruction.JumpIfNotZero to) = Some 0
leaves (instruction.Text s) = Some 0
leaves instruction.Number = Some 0
leaves (instruction.Item item quals) = Some 0
leaves (instruction.DataConst n) = Some 0
leaves (instruction.DataVar v mask quals) = Some 0
leaves (instruction.Enumerator n text help) = Some 0
leaves (instruction.Response n class text) = Some 0
leaves (instruction.Member name item label help) = Some 0
leaves (instruction.Element n v label help) = Some 0
leaves instruction.Abort = None
leaves _ = Some 1

-- the way to the instruction after it
abbrev pub onward : Instruction → ℕ → Option Way
onward i next = option_map (λ n. record { to = next; leaves = n }) (leaves i)

-- the way to its target, where it leaves nothing
abbrev pub jump : Instruction → Option Way
jump (instruction.Jump to) = Some (record { to = to; leaves = 0 })
jump (instruction.JumpIfZero to) = Some (record { to = to; leaves = 0 })
jump (instruction.JumpIfNotZero to) = Some (record { to = to; leaves = 0 })
jump (instruction.Case label to) = Some (record { to = to; leaves = 0 })
jump _ = None

-- the ways from an instruction
abbrev pub ways : Placed → List Way
ways x = option_to_list (onward x.instruction x.next) ++ option_to_list (jump x.instruction)

-- ---- the first rule: whole instructions, each allowed in a unit of its sort

-- where an instruction may be: by version, in attributes and in methods
pub record Allowed : Type 0 where
  pub in_attributes : Bool
  pub in_methods : Bool

-- in attributes and in methods
abbrev pub everywhere : Allowed
everywhere = record { in_attributes = true; in_methods = true }

-- in attributes, not in methods
abbrev pub attributes_only : Allowed
attributes_only = record { in_attributes = true; in_methods = false }

-- in methods, not in attributes
abbrev pub methods_only : Allowed
methods_only = record { in_attributes = false; in_methods = true }

-- neither in attributes nor in methods
abbrev pub nowhere : Allowed
nowhere = record { in_attributes = false; in_methods = false }

-- the first version has no arrays and no abort methods
abbrev pub from_version_two : Version → Allowed → Allowed
from_version_two One a = nowhere
from_version_two Two a = a

-- where an instruction may be, by the version of the layout
abbrev pub allowed : Version → Instruction → Allowed
allowed version (instruction.Store v) = methods_only
allowed version (instruction.GetLocal slot) = methods_only
allowed version (instruction.SetLocal slot) = methods_only
allowed version (instruction.ReadElement a) = from_version_two version everywhere
allowed version (instruction.Text s) = attributes_only
allowed version instruction.Number = attributes_only
allowed version (instruction.Item item quals) = attributes_only
allowed version (instruction.DataConst n) = attributes_only
allowed version (instruction.DataVar v mask quals) = attributes_only
allowed version (instruction.Enumerator n text help) = attributes_only
allowed version (instruction.Response n class text) = attributes_only
allowed version (instruction.Member name item label help) = attributes_only
allowed version (instruction.Element n v label help) = from_version_two version attributes_only
allowed version (instruction.Ask request) = methods_only
allowed version instruction.Abort = methods_only
allowed version (instruction.AddAbortMethod m) = from_version_two version methods_only
allowed version _ = everywhere

-- an instruction may be in a unit of this sort and version
abbrev pub is_allowed : Version → Sort → Instruction → Bool
is_allowed version Attribute i = (allowed version i).in_attributes
is_allowed version Method i = (allowed version i).in_methods

-- the code is not empty, and its instructions fill it and are allowed
abbrev pub is_chain : Context → List ℕ → Bool
is_chain context code = nat_lt 0 (length code)
    && (end_of 0 (instructions code) == length code
    && list_all (λ x. is_allowed context.version context.sort x.instruction) (instructions code))

-- ---- the second rule: each way leads to an instruction

-- one of them is at the place
abbrev pub is_start : List Placed → ℕ → Bool
is_start xs place = list_any (λ x. x.place == place) xs

-- in an attribute a jump leads forward
abbrev pub is_forward : Sort → Placed → Bool
is_forward Method x = true
is_forward Attribute x = option_map_or (λ w. nat_lt x.place w.to) (jump x.instruction) true

-- the ways from x lead to instructions among xs
abbrev pub lands : Sort → List Placed → Placed → Bool
lands sort xs x = is_forward sort x && list_all (λ w. is_start xs w.to) (ways x)

-- the ways from each instruction lead to instructions, and the jumps of an attribute forward
abbrev pub all_land : Context → List Placed → Bool
all_land context xs = list_all (lands context.sort xs) xs

-- ---- the third rule: one number of operands for each place

-- one of the ways from an instruction leads to the place
abbrev pub leads_to : Placed → ℕ → Bool
leads_to x place = list_any (λ w. w.to == place) (ways x)

-- no instruction before the place leads to it
abbrev pub IsFresh : List Placed → ℕ → Type 0
IsFresh xs place = AllByRecursion (λ y. y.place < place → leads_to y place ≡ false) xs

-- These are the numbers of operands before each instruction. The first instruction is fresh, so it
-- has 0.
pub record AreDepths (xs : List Placed) (depth : ℕ → ℕ) : Type 0 where
  -- none takes or reads more than is there
  pub enough : AllByRecursion (λ x. takes x.instruction ≤ depth x.place) xs
  -- none exceeds the capacity of the operand stack
  pub bounded : AllByRecursion (λ x. depth x.place ≤ 128) xs
  -- every way to an instruction agrees
  pub agree : AllByRecursion
      (λ x. AllByRecursion (λ w. depth w.to ≡ depth x.place - takes x.instruction + w.leaves)
      (ways x)) xs
  -- an instruction that no earlier one leads to has 0
  pub fresh : AllByRecursion (λ x. IsFresh xs x.place → depth x.place ≡ 0) xs

-- Each instruction has one number of operands before it, which suits it and all ways to it.
abbrev pub HasDepths : List Placed → Type 0
HasDepths xs = (depth : ℕ → ℕ) × AreDepths xs depth

-- ---- the fourth rule: what an instruction names exists

-- what each instruction names exists
abbrev pub all_exist : Context → List Placed → Bool
all_exist context xs = list_all (λ x. names_exist context x.instruction) xs

-- ---- a valid unit, and the first rule that a unit breaks

-- The code keeps this rule.
abbrev pub UnitKeeps : Context → List ℕ → UnitRule → Type 0
UnitKeeps context code Chain = IsTrue (is_chain context code)
UnitKeeps context code Jump = IsTrue (all_land context (instructions code))
UnitKeeps context code Depth = HasDepths (instructions code)
UnitKeeps context code Reference = IsTrue (all_exist context (instructions code))

-- The code keeps all four rules on a unit.
pub record IsValidUnit (context : Context) (code : List ℕ) : Type 0 where
  pub chain : UnitKeeps context code Chain
  pub jumps : UnitKeeps context code Jump
  pub depths : UnitKeeps context code Depth
  pub references : UnitKeeps context code Reference

-- it breaks this rule, and none before it
abbrev pub UnitBreaksFirst : Context → List ℕ → UnitRule → Type 0
UnitBreaksFirst context code Chain = ¬ UnitKeeps context code Chain
UnitBreaksFirst context code Jump = UnitKeeps context code Chain × (¬ UnitKeeps context code Jump)
UnitBreaksFirst context code Depth = UnitKeeps context code Chain × UnitKeeps context code Jump
    × (¬ UnitKeeps context code Depth)
UnitBreaksFirst context code Reference = UnitKeeps context code Chain × UnitKeeps context code Jump
    × UnitKeeps context code Depth × (¬ UnitKeeps context code Reference)
