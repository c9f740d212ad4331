-- What a broken rule of a unit says of the text that spells it.
use Rattle.std.proofs.Common.{◌≡◌, ap, ◌∙◌, ℕ, List, [], ◌∷◌, ◌++◌, Some, arith}
use Rattle.std.proofs.lemmas.Grind.{common_steps}
use Rattle.edd_syntax.specs.Reference.{Path}
use Rattle.edd_syntax.specs.declared.reference.Target.{Target}
use Rattle.edd_syntax.specs.Item.{Description}
use Rattle.edd_syntax.specs.Accepted.{name_breaches, profile_breaches, refusal}
use Rattle.edd_syntax.specs.Refusal.{Refusal, first_of}
use Rattle.edd_syntax.specs.ResolvedTrees.{resolved_unit}
use Rattle.edd_syntax.specs.Strings.{too_many_strings}
use Rattle.edd_syntax.specs.SubsetRules.{subset_breaches}
use Rattle.edd_breaches.specs.declared.fault.RuleFault.{RuleFault}
use Rattle.edd_breaches.specs.declared.fault.RuleFault.TheVariants as rule
use Rattle.edd_breaches.specs.Faults.{IsFirstOf}
use Rattle.edd_compiler.specs.Faults.{of_rule, Explains}
use Rattle.edd_compiler.specs.Sources.{IsUnitOf}

first_stays : {A : Type 0} (xs ys : List A) (x : A) → first_of xs ≡ Some x
    → first_of (xs ++ ys) ≡ Some x
first_stays [] ys x is = grind (arith, common_steps)
first_stays (y ∷ xs) ys x is = is

module _ (text : List ℕ) (unit : Description Path) (spelled : IsUnitOf text unit) where
  -- the first of some breaches explains why the text is refused, where it is the first of all
  explained : (e : RuleFault) (breaches : List Refusal)
      → ((why : Refusal) → first_of breaches ≡ Some why → refusal unit ≡ Some why)
      → IsFirstOf breaches e → Explains text (of_rule e)
  explained rule.Memory breaches first is = tt
  explained _ breaches first is = (unit, spelled, first _ is)

  -- a rule on counts, names and attributes comes before all others
  pub name_refused : (e : RuleFault) → IsFirstOf (name_breaches unit) e → Explains text (of_rule e)
  name_refused e is = explained e (name_breaches unit)
      (λ why. first_stays (name_breaches unit) (profile_breaches (resolved_unit unit)) why) is

  module _ (d : Description Target) (meanings : resolved_unit unit ≡ Some d)
      (no_breach : name_breaches unit ≡ []) where
    -- where no rule on names is broken, the rules of the profile decide
    pub profile_decides : refusal unit ≡ first_of (subset_breaches d ++ too_many_strings d)
    profile_decides = ap (λ xs. first_of (xs ++ profile_breaches (resolved_unit unit))) no_breach
        ∙ ap (λ m. first_of (profile_breaches m)) meanings

    pub type_refused : (e : RuleFault) → IsFirstOf (subset_breaches d) e
        → Explains text (of_rule e)
    type_refused e is = explained e (subset_breaches d) (λ why first. profile_decides
        ∙ first_stays (subset_breaches d) (too_many_strings d) why first) is
