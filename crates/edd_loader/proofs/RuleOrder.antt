-- The rules in the order in which they are tried.
use Rattle.std.proofs.Common.{◌≡◌, ℕ, ◌<◌, ◌≤◌, true, nat_eq, List, length, refl, sym, ap, ◌∙◌, arith}
use Rattle.std.specs.Prelude.{◌==◌, if◌then◌else◌}
use Rattle.std.proofs.lemmas.Bool.{and_parts, eqb-true, leb-true}
use Rattle.edd_instructions.specs.declared.rules.UnitRule.TheVariants as unit_rule
use Rattle.edd_instructions.specs.declared.rules.Rule.{Rule}
use Rattle.edd_instructions.specs.declared.rules.Rule.TheVariants as rule
use Rattle.edd_image.specs.Fields.{total_length, sections_end}
use Rattle.edd_instructions.specs.Validity.{IsValid, fault_number, lengths_agree}
use Rattle.edd_loader.specs.Rules.{KeepsBelow}
use Rattle.edd_loader.specs.Sections.{AreSectionsOf}

abbrev rule_numbered : ℕ → Rule
rule_numbered n =
    if n == 101 then rule.Short else
    if n == 102 then rule.Magic else
    if n == 103 then rule.Version else
    if n == 104 then rule.Length else
    if n == 105 then rule.Row else
    if n == 106 then rule.Name else
    if n == 107 then rule.Text else
    if n == 108 then rule.Unit unit_rule.Chain else
    if n == 109 then rule.Unit unit_rule.Jump else
    if n == 110 then rule.Unit unit_rule.Depth else
    rule.Unit unit_rule.Reference

numbered : (r : Rule) → rule_numbered (fault_number r) ≡ r
numbered rule.Short = refl
numbered rule.Magic = refl
numbered rule.Version = refl
numbered rule.Length = refl
numbered rule.Row = refl
numbered rule.Name = refl
numbered rule.Text = refl
numbered (rule.Unit unit_rule.Chain) = refl
numbered (rule.Unit _) = refl

one_rule : (a b : Rule) → fault_number a ≡ fault_number b → a ≡ b
one_rule a b e = sym (numbered a) ∙ ap rule_numbered e ∙ numbered b

lowest : (r : Rule) → 101 ≤ fault_number r
lowest rule.Short = omega arith
lowest rule.Magic = omega arith
lowest rule.Version = omega arith
lowest rule.Length = omega arith
lowest rule.Row = omega arith
lowest rule.Name = omega arith
lowest rule.Text = omega arith
lowest (rule.Unit unit_rule.Chain) = omega arith
lowest (rule.Unit _) = omega arith

highest : (r : Rule) → fault_number r < 112
highest rule.Short = omega arith
highest rule.Magic = omega arith
highest rule.Version = omega arith
highest rule.Length = omega arith
highest rule.Row = omega arith
highest rule.Name = omega arith
highest rule.Text = omega arith
highest (rule.Unit unit_rule.Chain) = omega arith
highest (rule.Unit _) = omega arith

pub none_before : (b : List ℕ) → KeepsBelow b 101
none_before b earlier h = absurd (omega (arith, lowest earlier, h))

pub all_kept : (b : List ℕ) → KeepsBelow b 112 → IsValid b
all_kept b below which = below which (highest which)

-- an image that keeps the rules on the header has sections that fill it
pub sections_fill : (b : List ℕ) (n : ℕ) → 105 ≤ n → KeepsBelow b n → AreSectionsOf b
sections_fill b n enough below =
    let agree : lengths_agree b ≡ true = below rule.Length (omega arith) in
    let inner = (and_parts (nat_eq (total_length b) (length b)) _ agree).1 in
    record {
      header = leb-true 56 (length b) (below rule.Short (omega arith));
      filled = eqb-true (sections_end b) (length b)
          (and_parts (nat_eq (sections_end b) (length b)) _ inner).0;
    }

pub valid_sections : (b : List ℕ) → IsValid b → AreSectionsOf b
valid_sections b valid = sections_fill b 112 (omega arith) (λ r h. valid r)

-- the same of other words for the bytes
pub has_header : (b c : List ℕ) → c ≡ b → IsValid b → 56 ≤ length c
has_header b c e valid = rw e (valid_sections b valid).header
