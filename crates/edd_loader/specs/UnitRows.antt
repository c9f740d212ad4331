-- The rules on the units of attribute rows.
use Rattle.std.specs.Prelude.{ℕ, ◌<◌, List, Option, Some, None, nat_le, if◌then◌else◌}
use Rattle.std.specs.List.{AllByRecursion}
use Rattle.edd_image.specs.declared.parts.Counts.{Counts}
use Rattle.edd_image.specs.declared.versions.Version.{Version}
use Rattle.edd_instructions.specs.declared.unit.Context.{Context}
use Rattle.edd_instructions.specs.declared.rules.UnitRule.{UnitRule}
use Rattle.edd_instructions.specs.declared.rules.Rule.TheVariants as rule
use Rattle.edd_image.specs.Contents.{AttributeFields, part}
use Rattle.edd_instructions.specs.Units.{UnitKeeps}
use Rattle.edd_instructions.specs.Validity.{fault_number, sort_of, slots_of}

-- the context of the unit of a row, in an image of this version with these counts
abbrev pub context_of : Version → Counts → AttributeFields → Context
context_of version counts r = record {
  version = version;
  counts = counts;
  sort = sort_of r;
  slots = slots_of r;
}

-- the unit of the row keeps the rule
abbrev pub RowKeeps : Version → Counts → List ℕ → UnitRule → AttributeFields → Type 0
RowKeeps version counts code which r = UnitKeeps (context_of version counts r) (part r.span code)
    which

-- the units of the rows keep each rule whose fault has a number below n
abbrev pub RowsKeepBelow : Version → Counts → List ℕ → List AttributeFields → ℕ → Type 0
RowsKeepBelow version counts code rows n =
    (earlier : UnitRule) → fault_number (rule.Unit earlier) < n
    → AllByRecursion (RowKeeps version counts code earlier) rows

-- the number below which no fault is found in units: past the last one, where there is none
abbrev pub fault_bound : Option UnitRule → ℕ
fault_bound None = 112
fault_bound (Some which) = fault_number (rule.Unit which)

-- of two rules that may be broken the one that is tried first
abbrev pub first_of : (one other : Option UnitRule) → Option UnitRule
first_of one other = if nat_le (fault_bound one) (fault_bound other) then one else other
