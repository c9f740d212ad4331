-- What the code of a description's attributes has to be for its image to be valid, and to say what
-- the description says.
use Rattle.std.specs.Prelude.{◌≡◌, ℕ, ◌≤◌, true, false, List, map, if◌then◌else◌, ⊤}
use Rattle.std.specs.List.{All}
use Rattle.edd_syntax.specs.declared.numbers.MethNo.{MethNo}
use Rattle.edd_syntax.specs.declared.numbers.ItemNo.TheVariants as items
use Rattle.edd_syntax.specs.declared.numbers.Attr.TheVariants as attr
use Rattle.edd_syntax.specs.declared.numbers.AttrRef.{AttrRef}
use Rattle.edd_syntax.specs.declared.reference.Target.{Target}
use Rattle.edd_syntax.specs.Numbers.{same_attr}
use Rattle.edd_syntax.specs.Words.{Words}
use Rattle.edd_syntax.specs.Item.{Description}
use Rattle.edd_syntax.specs.Rows.{rows}
use Rattle.edd_instructions.specs.Units.{IsValidUnit}
use Rattle.edd_instructions.specs.Agreement.{IsAttributeCode}
use Rattle.edd_instructions.specs.MethodAgreement.{method_context, IsMethodCode}
use Rattle.edd_assembly.specs.Assembly.{Lowered}

-- the row as the description has it, in which a body is at 0
abbrev pub plain_row : Lowered → AttrRef
plain_row l = if same_attr l.row.attr attr.Definition then record l.row { sub = 0 } else l.row

-- the code of a body is a valid unit with at most 64 slots
pub record IsBodyCode (unit : Description Target) (strings : List Words) (slots : ℕ)
    (code : List ℕ) : Type 0 where
  pub few_slots : slots ≤ 64
  pub valid : IsValidUnit (method_context unit strings slots) code

-- the code is that of its attribute
abbrev pub IsUnitOf : Description Target → List Words → Lowered → Type 0
IsUnitOf unit strings l = elim (same_attr l.row.attr attr.Definition) [
  | true ↦ IsBodyCode unit strings l.row.sub l.code
  | false ↦ IsAttributeCode unit strings l.row l.code
]

-- there is the code of every attribute that has a row, in the order of the rows
pub record AreUnitsOf (unit : Description Target) (strings : List Words)
    (lowered : List Lowered) : Type 0 where
  pub in_order : map plain_row lowered ≡ rows unit.items
  pub each : All (IsUnitOf unit strings) lowered

-- the code of a body is that of its method; of other code nothing is asked
abbrev pub IsMethodOf : Description Target → List Words → Lowered → Type 0
IsMethodOf unit strings l = elim (same_attr l.row.attr attr.Definition) [
  | true ↦ (m : MethNo) × (l.row.item ≡ items.Method m) × IsMethodCode unit strings m l.row.sub
      l.code
  | false ↦ ⊤
]
