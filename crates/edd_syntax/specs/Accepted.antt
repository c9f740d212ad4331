-- Which units are accepted, and why the others are refused.
use Rattle.std.specs.Prelude.{◌≡◌, List, [], ◌++◌, Option, Some, None}
use Rattle.edd_syntax.specs.Reference.{Path, Target}
use Rattle.edd_syntax.specs.Item.{Description}
use Rattle.edd_syntax.specs.ResolvedTrees.{resolved_unit}
use Rattle.edd_syntax.specs.Refusal.{Refusal, first_of}
use Rattle.edd_syntax.specs.NameRules.{too_many, duplicate_names, duplicate_attributes, missing_attributes, wrong_uses}
use Rattle.edd_syntax.specs.SubsetRules.{subset_breaches}
use Rattle.edd_syntax.specs.Strings.{too_many_strings}

-- the breaches of the rules on counts, names and attributes, rule by rule
abbrev pub name_breaches : Description Path → List Refusal
name_breaches unit =
    too_many unit ++ (duplicate_names unit
    ++ (duplicate_attributes unit ++ (missing_attributes unit ++ wrong_uses unit)))

-- of the rules of the profile, which speak of the meaning of names, and of the number of strings
abbrev pub profile_breaches : Option (Description Target) → List Refusal
profile_breaches (Some resolved) = subset_breaches resolved ++ too_many_strings resolved
profile_breaches None = []

-- all breaches, rule by rule and in the order of the source; the rules of the profile come after
-- those on names
abbrev pub breaches : Description Path → List Refusal
breaches unit = name_breaches unit ++ profile_breaches (resolved_unit unit)

-- the first broken rule, with its name or word
abbrev pub refusal : Description Path → Option Refusal
refusal unit = first_of (breaches unit)

-- no rule is broken, and every name has a meaning
pub record IsAccepted (unit : Description Path) : Type 0 where
  pub resolved : Description Target
  pub meanings : resolved_unit unit ≡ Some resolved
  pub no_breach : breaches unit ≡ []
