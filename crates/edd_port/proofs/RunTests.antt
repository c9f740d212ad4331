-- When a machine is at a state of its method.
use Rattle.std.proofs.Common.{◌≡◌, ℕ, ℤ, List, [], ◌∷◌, ◌++◌, length, reverse, refl, sym, ap, subst, ◌∙◌}
use Rattle.std.proofs.lemmas.Grind.{reverse_onto}
use Rattle.std.proofs.lemmas.List.{reverse-reverse}
use Rattle.std.specs.List.{AllByRecursion}
use Rattle.edd_syntax.specs.DeviceValues.{AreDeviceValues}
use Rattle.edd_image.specs.declared.parts.Counts.{Counts}
use Rattle.edd_image.specs.Contents.{contents_in}
use Rattle.edd_instructions.specs.declared.unit.Context.{Context}
use Rattle.edd_instructions.specs.declared.unit.Sort.{Sort}
use Rattle.edd_instructions.specs.declared.unit.Sort.TheVariants.{Method}
use Rattle.edd_instructions.specs.Steps.{Fits, Stands}
use Rattle.edd_instructions.specs.Units.{IsValidUnit}
use Rattle.edd_instructions.specs.Validity.{IsValid, placed_unit, sort_of}
use Rattle.edd_loader.proofs.VariableTypes.{types_counted}
use Rattle.edd_machine.specs.declared.code_unit.CodeUnit.{CodeUnit}
use Rattle.edd_machine.specs.declared.machine.Machine.{Machine}
use Rattle.edd_machine.specs.Running.{code_at, state_of, IsMachine, IsUnitOf}
use Rattle.edd_machine.specs.Types.{types_in}
use Rattle.edd_machine.proofs.ImageUnits.{counts_are, unit_valid}
use Rattle.edd_machine.proofs.Stepping.{code_is}

-- the code of a unit of an image is valid
pub code_valid : (b : List ℕ) (u : CodeUnit) → IsValid b → IsUnitOf b u
    → (context : Context) × IsValidUnit context (code_at b u)
code_valid b u valid is = (
  (placed_unit (contents_in b) is.row).context,
  subst (λ (code : List ℕ). IsValidUnit (placed_unit (contents_in b) is.row).context code)
      (sym (code_is b u valid is)) (unit_valid b is.number is.row valid is.stands),
)

-- ---- lists from the other end

all_append : (P : ℤ → Type 0) (xs ys : List ℤ) → AllByRecursion P xs → AllByRecursion P ys
    → AllByRecursion P (xs ++ ys)
all_append P [] ys h g = g
all_append P (x ∷ xs) ys h g = (h.0, all_append P xs ys h.1 g)

pub all_reversed : (P : ℤ → Type 0) (xs : List ℤ) → AllByRecursion P xs
    → AllByRecursion P (reverse xs)
all_reversed P [] h = tt
all_reversed P (x ∷ xs) h = subst (AllByRecursion P) (sym (reverse_onto xs x []))
    (all_append P (reverse xs) (x ∷ []) (all_reversed P xs h.1) (h.0, tt))

pub reversed_all : (P : ℤ → Type 0) (xs : List ℤ) → AllByRecursion P (reverse xs)
    → AllByRecursion P xs
reversed_all P xs h = subst (AllByRecursion P) (reverse-reverse xs) (all_reversed P (reverse xs) h)

-- ---- a machine at a state

module _ (b : List ℕ) (m : Machine) (values : List ℤ) where
  -- what is looked at makes it one
  pub machine_is : IsValid b → IsUnitOf b m.unit → m.unit.sort ≡ Method
      → length m.slots.items ≡ m.unit.slots → AllByRecursion (Fits Method) m.operands
      → AllByRecursion (Fits Method) m.slots.items → Stands (state_of b m values) m.status
      → AreDeviceValues (types_in b) values → IsMachine b m values
  machine_is valid unit method slots operands fit stands are =
      let sort : m.unit.sort ≡ sort_of unit.row = ap (λ (u : CodeUnit). u.sort) unit.unit in
      let is : Method ≡ sort_of unit.row = sym method ∙ sort in
      record {
        unit = unit;
        runs = refl;
        state = record {
          sort = sort;
          stands = stands;
          operands = subst (λ (s : Sort). AllByRecursion (Fits s) m.operands) is operands;
          slot_count = slots ∙ ap (λ (u : CodeUnit). u.slots) unit.unit;
          slots = subst (λ (s : Sort). AllByRecursion (Fits s) m.slots.items) is fit;
          variable_count = types_counted b valid
              ∙ sym (ap (λ (k : Counts). k.variables) (counts_are b unit.row));
          values = are;
        };
      }

  module _ (is : IsMachine b m values) where
    pub same_slots : length m.slots.items ≡ m.unit.slots
    same_slots = is.state.slot_count ∙ sym (ap (λ (u : CodeUnit). u.slots) is.unit.unit)

    sort_is : m.unit.sort ≡ Method → sort_of is.unit.row ≡ Method
    sort_is method = sym (ap (λ (u : CodeUnit). u.sort) is.unit.unit) ∙ method

    pub operands_fit : m.unit.sort ≡ Method → AllByRecursion (Fits Method) m.operands
    operands_fit method = subst (λ (s : Sort). AllByRecursion (Fits s) m.operands)
        (sort_is method) is.state.operands

    pub slots_fit : m.unit.sort ≡ Method → AllByRecursion (Fits Method) m.slots.items
    slots_fit method = subst (λ (s : Sort). AllByRecursion (Fits s) m.slots.items)
        (sort_is method) is.state.slots
