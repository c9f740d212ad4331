-- What a resolved and what a checked description keep.
use Rattle.std.specs.Prelude.{◌≡◌, List, [], IsTrue, Some}
use Rattle.edd_syntax.specs.Reference.{Path, Target}
use Rattle.edd_syntax.specs.Item.{Item, Identification, Description}
use Rattle.edd_syntax.specs.WellFormed.{are_items}
use Rattle.edd_syntax.specs.ResolvedTrees.{resolved_unit}
use Rattle.edd_syntax.specs.Accepted.{name_breaches}
use Rattle.edd_syntax.specs.SubsetRules.{subset_breaches}

-- the description is that of a unit as a parser makes it, with the meaning of each name; no rule on
-- counts, names and attributes is broken
pub record IsResolved (d : Description Target) : Type 0 where
  pub unit : Description Path
  pub well_formed : IsTrue (are_items unit.items)
  pub meanings : resolved_unit unit ≡ Some d
  pub no_breach : name_breaches unit ≡ []

-- and no rule of the profile is broken
pub record IsChecked (d : Description Target) : Type 0 where
  pub is_resolved : IsResolved d
  pub no_breach : subset_breaches d ≡ []

-- the description with these parts
abbrev pub description : {R : Type 0} → Identification → List (Item R) → Description R
description identification items = record { identification = identification; items = items }
