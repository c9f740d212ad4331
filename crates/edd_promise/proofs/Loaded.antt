-- A valid image is refused only for lack of memory.
use Rattle.std.proofs.Common.{◌≡◌, refl, ℕ, List}
use Rattle.std.specs.Prelude.{IfSome}
use Rattle.edd_instructions.specs.declared.rules.Rule.{Rule}
use Rattle.edd_instructions.specs.declared.rules.Rule.TheVariants as rule
use Rattle.edd_instructions.specs.declared.rules.UnitRule.TheVariants as unit_rule
use Rattle.edd_instructions.specs.Validity.{BreaksFirst, IsValid}
use Rattle.edd_loader.specs.declared.fault.LoadFault.{LoadFault}
use Rattle.edd_loader.specs.declared.fault.LoadFault.TheVariants as fault
use Rattle.edd_loader.specs.Faults.{rule_of}

module _ (b : List ℕ) (valid : IsValid b) where
  pub never_broken : (broken : Rule) → BreaksFirst b broken → ⊥
  never_broken broken breaks = breaks.1 (valid broken)

  pub only_memory : (f : LoadFault) → IfSome (rule_of f) (BreaksFirst b) → f ≡ fault.Memory
  only_memory fault.Short breaks = absurd (never_broken rule.Short breaks)
  only_memory fault.Magic breaks = absurd (never_broken rule.Magic breaks)
  only_memory fault.Version breaks = absurd (never_broken rule.Version breaks)
  only_memory fault.Length breaks = absurd (never_broken rule.Length breaks)
  only_memory fault.Row breaks = absurd (never_broken rule.Row breaks)
  only_memory fault.Name breaks = absurd (never_broken rule.Name breaks)
  only_memory fault.Text breaks = absurd (never_broken rule.Text breaks)
  only_memory fault.Instruction breaks =
      absurd (never_broken (rule.Unit unit_rule.Chain) breaks)
  only_memory fault.Jump breaks = absurd (never_broken (rule.Unit unit_rule.Jump) breaks)
  only_memory fault.Depth breaks = absurd (never_broken (rule.Unit unit_rule.Depth) breaks)
  only_memory fault.Reference breaks =
      absurd (never_broken (rule.Unit unit_rule.Reference) breaks)
  only_memory fault.Memory breaks = refl
